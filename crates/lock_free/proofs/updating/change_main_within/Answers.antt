use Rattle.std.proofs.Common.{ap, subst, ◌∙◌}
use Rattle.lock_free.specs.Changing.{HasBuilt}
use Rattle.lock_free.specs.Places.{class_for}
use Rattle.lock_free.proofs.ChangedSwaps.{no_change, change_way, change_ready, change_done, change_left, change_told}
use Rattle.lock_free.proofs.MainClasses.{class_counts}
use Rattle.lock_free.proofs.updating.change_main_within.Goals as goal

pub build_main-requires-clause-at : goal.build_main-requires-clause-at
build_main-requires-clause-at c = c.requires.at.changing

pub returns-in_default-clause-changed : goal.returns-in_default-clause-changed
returns-in_default-clause-changed c = no_change c.args.words.now.table_id.words c.args.actor.now.me.0 c.build_main.new.actor.me.0 c.requires.sound c.args.indirection c.args.given c.args.flag
    c.args.change c.requires.at
    (subst (λ r. HasBuilt c.args.actor.now.me.0 r c.build_main.new.actor.me.0) c.in_default.is c.build_main.ensures.built)

pub swap_made_within-requires-clause-way : goal.swap_made_within-requires-clause-way
swap_made_within-requires-clause-way c =
    change_way c.args.words.now.table_id.words c.args.actor.now.me.0 c.build_main.new.actor.me.0 c.requires.sound c.args.indirection c.args.given c.args.flag c.args.change c.requires.at
    c.in-Some.fresh
    (subst (λ r. HasBuilt c.args.actor.now.me.0 r c.build_main.new.actor.me.0) c.in-Some.is c.build_main.ensures.built) c.args.way c.requires.way

pub swap_made_within-requires-clause-swapping : goal.swap_made_within-requires-clause-swapping
swap_made_within-requires-clause-swapping c =
    change_ready c.args.words.now.table_id.words c.args.actor.now.me.0 c.build_main.new.actor.me.0 c.requires.sound c.args.indirection c.args.given c.args.flag c.args.change c.requires.at
    c.in-Some.fresh
    (subst (λ r. HasBuilt c.args.actor.now.me.0 r c.build_main.new.actor.me.0) c.in-Some.is c.build_main.ensures.built) c.class_for.result
    (c.class_for.ensures ∙ ap class_for c.entries_in-count.ensures ∙ class_counts c.args.given.header.shape)

pub returns-in-Ok-clause-changed : goal.returns-in-Ok-clause-changed
returns-in-Ok-clause-changed c =
    change_done c.args.words.now.table_id.words c.args.actor.now.me.0 c.build_main.new.actor.me.0 c.requires.sound c.args.indirection c.args.given c.args.flag c.args.change c.requires.at
    c.in-Some.fresh
    (subst (λ r. HasBuilt c.args.actor.now.me.0 r c.build_main.new.actor.me.0) c.in-Some.is c.build_main.ensures.built) c.in-Ok.swapped c.swap_made_within.new.actor.me.0 (c.in-Ok.ensures {u =
    tt}).done

pub returns-in-Err-clause-left : goal.returns-in-Err-clause-left
returns-in-Err-clause-left c =
    change_left c.args.words.now.table_id.words c.args.actor.now.me.0 c.build_main.new.actor.me.0 c.requires.sound c.args.indirection c.args.given c.args.flag c.args.change c.requires.at
    c.in-Some.fresh
    (subst (λ r. HasBuilt c.args.actor.now.me.0 r c.build_main.new.actor.me.0) c.in-Some.is c.build_main.ensures.built) c.in-Err.swapping c.swap_made_within.new.actor.me.0 (c.in-Err.ensures {u =
    tt}).left

pub swap_made_within-requires-clause-drops : goal.swap_made_within-requires-clause-drops
swap_made_within-requires-clause-drops c =
    change_told c.args.words.now.table_id.words c.args.actor.now.me.0 c.build_main.new.actor.me.0 c.requires.sound c.args.indirection c.args.given c.args.flag c.args.change c.requires.at
    c.in-Some.fresh
    (subst (λ r. HasBuilt c.args.actor.now.me.0 r c.build_main.new.actor.me.0) c.in-Some.is c.build_main.ensures.built) c.drops_of.result c.drops_of.ensures

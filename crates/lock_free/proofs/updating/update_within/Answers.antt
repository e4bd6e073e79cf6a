use Rattle.std.proofs.Common.{ap, subst, ◌∙◌}
use Rattle.lock_free.specs.BuildingUp.{HasBuiltSingle}
use Rattle.lock_free.specs.Places.{class_for}
use Rattle.lock_free.proofs.Updates.{no_update, way_on, swap_ready, update_done, update_left, update_told}
use Rattle.lock_free.proofs.MainClasses.{class_counts}
use Rattle.lock_free.proofs.updating.update_within.Goals as goal

pub returns-in_default-clause-updated : goal.returns-in_default-clause-updated
returns-in_default-clause-updated c = no_update c.args.actor.now.me.0 c.build.new.actor.me.0 c.args.by c.args.given c.args.site c.args.former c.args.indirection c.requires.at
    (subst (λ r. HasBuiltSingle c.args.actor.now.me.0 c.args.site c.args.former r c.build.new.actor.me.0) c.in_default.is c.build.ensures.built)

pub swap_made_within-requires-clause-way : goal.swap_made_within-requires-clause-way
swap_made_within-requires-clause-way c =
    way_on c.args.actor.now.me.0 c.build.new.actor.me.0 c.args.by c.args.given c.args.site c.args.former c.args.indirection c.requires.at c.in-Some.fresh
    (subst (λ r. HasBuiltSingle c.args.actor.now.me.0 c.args.site c.args.former r c.build.new.actor.me.0) c.in-Some.is c.build.ensures.built) c.args.way c.requires.way

pub swap_made_within-requires-clause-swapping : goal.swap_made_within-requires-clause-swapping
swap_made_within-requires-clause-swapping c =
    swap_ready c.args.actor.now.me.0 c.build.new.actor.me.0 c.args.by c.args.given c.args.site c.args.former c.args.indirection c.requires.at c.in-Some.fresh
    (subst (λ r. HasBuiltSingle c.args.actor.now.me.0 c.args.site c.args.former r c.build.new.actor.me.0) c.in-Some.is c.build.ensures.built) c.args.words.now.table_id.words c.requires.sound
    c.class_for.result
    (c.class_for.ensures ∙ ap class_for c.entries_in-count.ensures ∙ class_counts c.args.given.header.shape)

pub returns-in-Ok-clause-updated : goal.returns-in-Ok-clause-updated
returns-in-Ok-clause-updated c =
    update_done c.args.actor.now.me.0 c.build.new.actor.me.0 c.args.by c.args.given c.args.site c.args.former c.args.indirection c.requires.at c.in-Some.fresh
    (subst (λ r. HasBuiltSingle c.args.actor.now.me.0 c.args.site c.args.former r c.build.new.actor.me.0) c.in-Some.is c.build.ensures.built) c.in-Ok.swapped c.swap_made_within.new.actor.me.0
    (c.in-Ok.ensures {u = tt}).done

pub returns-in-Err-clause-left : goal.returns-in-Err-clause-left
returns-in-Err-clause-left c =
    update_left c.args.actor.now.me.0 c.build.new.actor.me.0 c.args.by c.args.given c.args.site c.args.former c.args.indirection c.requires.at c.in-Some.fresh
    (subst (λ r. HasBuiltSingle c.args.actor.now.me.0 c.args.site c.args.former r c.build.new.actor.me.0) c.in-Some.is c.build.ensures.built) c.in-Err.swapping c.swap_made_within.new.actor.me.0
    (c.in-Err.ensures {u = tt}).left

pub swap_made_within-requires-clause-drops : goal.swap_made_within-requires-clause-drops
swap_made_within-requires-clause-drops c =
    update_told c.args.actor.now.me.0 c.build.new.actor.me.0 c.args.by c.args.given c.args.site c.args.former c.args.indirection c.requires.at c.in-Some.fresh
    (subst (λ r. HasBuiltSingle c.args.actor.now.me.0 c.args.site c.args.former r c.build.new.actor.me.0) c.in-Some.is c.build.ensures.built) c.drops_at.result c.drops_at.ensures

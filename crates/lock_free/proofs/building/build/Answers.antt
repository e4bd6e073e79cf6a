use Rattle.std.proofs.Common.{sym, subst}
use Rattle.lock_free.specs.BuildingUp.{HasBuiltSingle}
use Rattle.lock_free.proofs.SingleSites.{no_single, site_ready, edit_none, site_changing, site_built}
use Rattle.lock_free.proofs.building.build.Goals as goal

pub returns-in_err-slot-clause-built : goal.returns-in_err-slot-clause-built
returns-in_err-slot-clause-built c =
    subst (λ r. HasBuiltSingle c.args.actor.now.me.0 c.args.site c.args.former r c.make_single.new.actor.me.0) (sym c.from_residual.ensures)
    (no_single c.args.words.now.table_id.words c.args.actor.now.me.0 c.requires.sound c.args.by c.args.given c.args.site c.args.former c.requires.at c.make_single.new.actor.me.0
    (c.in_err-slot.ensures {u = tt}).made)

pub edit_for-requires-clause-at : goal.edit_for-requires-clause-at
edit_for-requires-clause-at c =
    site_ready c.args.words.now.table_id.words c.args.actor.now.me.0 c.requires.sound c.args.by c.args.given c.args.site c.args.former c.requires.at c.make_single.new.actor.me.0
    c.in_ok-slot.slot (c.in_ok-slot.ensures {u = tt}).made

pub returns-in_err-change-clause-built : goal.returns-in_err-change-clause-built
returns-in_err-change-clause-built c =
    subst (λ r. HasBuiltSingle c.args.actor.now.me.0 c.args.site c.args.former r c.edit_for.new.actor.me.0) (sym c.from_residual-in_err-change.ensures)
    (edit_none c.args.words.now.table_id.words c.args.actor.now.me.0 c.requires.sound c.args.by c.args.given c.args.site c.args.former c.requires.at c.make_single.new.actor.me.0
    c.in_ok-slot.slot (c.in_ok-slot.ensures {u = tt}).made c.edit_for.new.actor.me.0 (c.in_err-change.ensures {u = tt}).edit)

pub build_main-requires-clause-at : goal.build_main-requires-clause-at
build_main-requires-clause-at c =
    site_changing c.args.words.now.table_id.words c.args.actor.now.me.0 c.requires.sound c.args.by c.args.given c.args.site c.args.former c.requires.at c.make_single.new.actor.me.0
    c.in_ok-slot.slot (c.in_ok-slot.ensures {u = tt}).made
    c.edit_for.new.actor.me.0 c.edit_for.ensures.sound c.in_ok-change.change (c.in_ok-change.ensures {u = tt}).edit c.flag_of-flag.result c.flag_of-flag.ensures.flag

pub returns-clause-built : goal.returns-clause-built
returns-clause-built c =
    site_built c.args.words.now.table_id.words c.args.actor.now.me.0 c.requires.sound c.args.by c.args.given c.args.site c.args.former c.requires.at c.make_single.new.actor.me.0
    c.in_ok-slot.slot (c.in_ok-slot.ensures {u = tt}).made
    c.edit_for.new.actor.me.0 c.edit_for.ensures.sound c.in_ok-change.change (c.in_ok-change.ensures {u = tt}).edit c.flag_of-flag.result c.flag_of-flag.ensures.flag
    (c.in_ok-change.ensures {u = tt}).drops c.build_main.result
    c.build_main.new.actor.me.0 c.build_main.ensures.built

use Rattle.std.proofs.Common.{refl}
use Rattle.lock_free.specs.declared.changing.Edit.TheVariants as edit
use Rattle.lock_free.proofs.KeyChanges.{removal_ready, removed_by}
use Rattle.lock_free.proofs.OfTasks.{on_way}
use Rattle.lock_free.proofs.attempts.take_out.Goals as goal

pub change_main_within-requires-clause-way : goal.change_main_within-requires-clause-way
change_main_within-requires-clause-way c = on_way c.args.actor.now.me.0 c.args.task.now c.requires.task c.way.result c.way.ensures.0 c.way.ensures.1

pub change_main_within-requires-clause-at : goal.change_main_within-requires-clause-at
change_main_within-requires-clause-at c =
    removal_ready c.args.actor.now.me.0 c.args.task.now c.requires.task c.args.path.now c.requires.some c.args.given c.args.position c.args.former c.requires.at c.flag_of-flag.result
    c.flag_of-flag.ensures.flag (edit.Remove c.args.position) refl

pub returns-clause-attempted : goal.returns-clause-attempted
returns-clause-attempted c =
    let x = c.change_main_within in
    removed_by c.args.actor.now.me.0 c.args.task.now c.requires.task c.args.path.now c.requires.some c.args.given c.args.position c.args.former c.requires.at x.new.actor.me.0 x.result
    x.ensures.changed x.ensures.left

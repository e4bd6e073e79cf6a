use Rattle.std.proofs.Common.{sym, subst}
use Rattle.lock_free.specs.Descending.{HasFound}
use Rattle.lock_free.proofs.BranchEntries.{single_ready, one_found, one_found_done, absent_done}
use Rattle.lock_free.proofs.OfTasks.{on_key}
use Rattle.lock_free.proofs.descending.at_single.Goals as goal

pub meet_single-requires-clause-key : goal.meet_single-requires-clause-key
meet_single-requires-clause-key c = on_key c.args.actor.now.me.0 c.args.task.now c.requires.task

pub meet_single-requires-clause-at : goal.meet_single-requires-clause-at
meet_single-requires-clause-at c =
    let v = c.args.actor.now.me.0 in single_ready v v c.args.task.now c.requires.task c.args.path.now c.args.given c.args.position c.args.single c.requires.at

pub at_key-requires-clause-at : goal.at_key-requires-clause-at
at_key-requires-clause-at c =
    one_found c.args.actor.now.me.0 c.meet_single.new.actor.me.0 c.args.task.now c.requires.task c.args.path.now c.args.given c.args.position c.args.single c.requires.at
    c.args.words.now.table_id.words c.requires.sound c.in-Found.value c.in-Found.ensures.met

pub returns-in-Found-clause-found : goal.returns-in-Found-clause-found
returns-in-Found-clause-found c =
    one_found_done c.args.actor.now.me.0 c.meet_single.new.actor.me.0 c.args.task.now c.requires.task c.args.path.now c.args.given c.args.position c.args.single c.requires.at
    c.args.words.now.table_id.words c.requires.sound c.in-Found.value c.in-Found.ensures.met c.at_key.new.actor.me.0 c.at_key.result c.at_key.ensures.found

pub returns-in-Other-clause-found : goal.returns-in-Other-clause-found
returns-in-Other-clause-found c =
    subst (λ r. HasFound c.args.actor.now.me.0 c.args.path.now r c.meet_single.new.actor.me.0) (sym c.absent.ensures)
    (absent_done c.args.actor.now.me.0 c.meet_single.new.actor.me.0 c.args.task.now c.requires.task c.args.path.now c.args.given c.args.position c.args.single c.requires.at
    c.args.words.now.table_id.words c.requires.sound c.in-Other.ensures.met)

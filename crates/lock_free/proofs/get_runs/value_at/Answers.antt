use Rattle.std.proofs.Common.{Some, subst}
use Rattle.history.specs.declared.replies.Reply.TheVariants as reply
use Rattle.machine_model.specs.declared.building.Site.TheVariants as site
use Rattle.lock_free.specs.declared.descending.Found.TheVariants as found
use Rattle.lock_free.specs.Descending.{HasFound}
use Rattle.lock_free.proofs.BranchEntries.{single_ready, one_found, one_found_done, absent_done}
use Rattle.lock_free.proofs.OfTasks.{on_key}
use Rattle.lock_free.proofs.ReaderAnswers.{absent_read, found_read}
use Rattle.lock_free.specs.LinkReads.{given_by}
use Rattle.lock_free.proofs.get_runs.value_at.Goals as goal

pub meet_single-requires-clause-key : goal.meet_single-requires-clause-key
meet_single-requires-clause-key c = on_key c.args.actor.now.me.0 c.args.task.now c.requires.task.its

pub meet_single-requires-clause-at : goal.meet_single-requires-clause-at
meet_single-requires-clause-at c =
    let v = c.args.actor.now.me.0 in single_ready v v c.args.task.now c.requires.task.its c.args.path.now (given_by c.args.link c.requires.at.0) c.args.position c.args.single c.requires.at.1

pub returns-in-Found-clause-found : goal.returns-in-Found-clause-found
returns-in-Found-clause-found c =
    let w = c.meet_single.new.actor.me.0 in
    one_found_done c.args.actor.now.me.0 w c.args.task.now c.requires.task.its c.args.path.now (given_by c.args.link c.requires.at.0) c.args.position c.args.single c.requires.at.1
    c.args.words.now.table_id.words c.requires.sound c.in-Found.value c.in-Found.ensures.met w (found.Answers (reply.Found (Some c.in-Found.value)))
    (found_read c.args.task.now.call c.requires.task.reads w c.args.path.now (given_by c.args.link c.requires.at.0) c.args.position c.in-Found.value
    (one_found c.args.actor.now.me.0 w c.args.task.now c.requires.task.its c.args.path.now (given_by c.args.link c.requires.at.0) c.args.position c.args.single c.requires.at.1
    c.args.words.now.table_id.words c.requires.sound c.in-Found.value c.in-Found.ensures.met))

pub returns-in-Other-clause-found : goal.returns-in-Other-clause-found
returns-in-Other-clause-found c =
    subst (λ r. HasFound c.args.actor.now.me.0 c.args.path.now r c.meet_single.new.actor.me.0) (absent_read c.args.task.now.call c.requires.task.reads (site.Beside c.args.position) (given_by
    c.args.link c.requires.at.0))
    (absent_done c.args.actor.now.me.0 c.meet_single.new.actor.me.0 c.args.task.now c.requires.task.its c.args.path.now (given_by c.args.link c.requires.at.0) c.args.position c.args.single
    c.requires.at.1
    c.args.words.now.table_id.words c.requires.sound c.in-Other.ensures.met)

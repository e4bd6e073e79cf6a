use Rattle.lock_free.proofs.KeyTombs.{cleans, tomb_ready, finds, misses}
use Rattle.lock_free.proofs.OfTasks.{on_key}
use Rattle.lock_free.specs.LinkReads.{given_by}
use Rattle.lock_free.proofs.descending.at_tomb.Goals as goal

pub meet_single-requires-clause-key : goal.meet_single-requires-clause-key
meet_single-requires-clause-key c = on_key c.args.actor.now.me.0 c.args.task.now c.requires.task

pub meet_single-requires-clause-at : goal.meet_single-requires-clause-at
meet_single-requires-clause-at c =
    tomb_ready c.args.words.now.table_id.words c.args.actor.now.me.0 c.requires.sound c.args.task.now c.requires.task c.args.path.now (given_by c.args.link c.requires.at.0) c.args.single
    c.requires.at.1 c.in-ReadOnly.is

pub returns-in-Writable-clause-found : goal.returns-in-Writable-clause-found
returns-in-Writable-clause-found c =
    cleans c.args.words.now.table_id.words c.args.actor.now.me.0 c.requires.sound c.args.task.now c.requires.task c.args.path.now (given_by c.args.link c.requires.at.0) c.args.single
    c.requires.at.1 c.in-Writable.is

pub returns-in-Found-clause-found : goal.returns-in-Found-clause-found
returns-in-Found-clause-found c =
    finds c.args.words.now.table_id.words c.args.actor.now.me.0 c.requires.sound c.args.task.now c.requires.task c.args.path.now (given_by c.args.link c.requires.at.0) c.args.single
    c.requires.at.1 c.in-ReadOnly.is
    c.meet_single.new.actor.me.0 c.in-Found.value c.in-Found.ensures.met

pub returns-in-Other-clause-found : goal.returns-in-Other-clause-found
returns-in-Other-clause-found c =
    misses c.args.words.now.table_id.words c.args.actor.now.me.0 c.requires.sound c.args.task.now c.requires.task c.args.path.now (given_by c.args.link c.requires.at.0) c.args.single
    c.requires.at.1 c.in-ReadOnly.is
    c.meet_single.new.actor.me.0 c.in-Other.ensures.met

use Rattle.lock_free.specs.LinkReads.{given_by}
use Rattle.lock_free.proofs.LevelPassed.{link_ready, task_mid, entry_ready}
use Rattle.lock_free.proofs.OfTasks.{on_way}
use Rattle.lock_free.proofs.PlacesReached.{absent_reached, gone_from, list_reached, tomb_reached}
use Rattle.lock_free.proofs.reaching.go_through.Goals as goal

pub read_link_turn_within-requires-clause-way : goal.read_link_turn_within-requires-clause-way
read_link_turn_within-requires-clause-way c = on_way c.args.actor.now.me.0 c.args.task.now c.requires.task c.way-way.result c.way-way.ensures.0 c.way-way.ensures.1

pub read_link_turn_within-requires-clause-at : goal.read_link_turn_within-requires-clause-at
read_link_turn_within-requires-clause-at c =
    link_ready c.args.actor.now.me.0 c.args.task.now c.requires.task c.args.path.now c.requires.at c.flag_of-flag.result c.flag_of-flag.ensures.flag

pub go_to_entry-requires-clause-task : goal.go_to_entry-requires-clause-task
go_to_entry-requires-clause-task c =
    task_mid c.args.actor.now.me.0 c.args.task.now c.requires.task c.args.path.now c.requires.at (given_by c.in-Some.link (c.in-Some.ensures {u = tt}).turned.0) c.in-Some.turn
    c.read_link_turn_within.new.actor.me.0 (c.in-Some.ensures {u = tt}).turned.1

pub go_to_entry-requires-clause-at : goal.go_to_entry-requires-clause-at
go_to_entry-requires-clause-at c = (
  (c.in-Some.ensures {u = tt}).turned.0,
  entry_ready c.args.actor.now.me.0 c.args.task.now c.requires.task c.args.path.now c.requires.at (given_by c.in-Some.link (c.in-Some.ensures {u = tt}).turned.0) c.in-Some.turn
      c.read_link_turn_within.new.actor.me.0 (c.in-Some.ensures {u = tt}).turned.1 c.in-Entry.position c.in-Entry.is (c.in-Some.ensures {u = tt}).within,
)

pub returns-in-Entry-clause-gone : goal.returns-in-Entry-clause-gone
returns-in-Entry-clause-gone c =
    gone_from c.args.actor.now.me.0 c.args.task.now c.requires.task c.args.path.now c.requires.at c.in-Some.link (c.in-Some.ensures {u = tt}).turned.0 c.in-Some.turn
    c.read_link_turn_within.new.actor.me.0 (c.in-Some.ensures {u = tt}).turned.1 c.go_to_entry.result c.go_to_entry.new.actor.me.0 c.go_to_entry.ensures.gone

pub returns-in-Absent-clause-gone : goal.returns-in-Absent-clause-gone
returns-in-Absent-clause-gone c =
    absent_reached c.args.actor.now.me.0 c.args.task.now c.requires.task c.args.path.now c.requires.at c.in-Some.link (c.in-Some.ensures {u = tt}).turned.0 c.in-Some.turn
    c.read_link_turn_within.new.actor.me.0 (c.in-Some.ensures {u = tt}).turned.1 c.in-Absent.is

pub returns-in-List-clause-gone : goal.returns-in-List-clause-gone
returns-in-List-clause-gone c =
    list_reached c.args.actor.now.me.0 c.args.task.now c.requires.task c.args.path.now c.requires.at c.in-Some.link (c.in-Some.ensures {u = tt}).turned.0 c.in-Some.turn
    c.read_link_turn_within.new.actor.me.0 (c.in-Some.ensures {u = tt}).turned.1 c.in-List.is

pub returns-in-Tomb-clause-gone : goal.returns-in-Tomb-clause-gone
returns-in-Tomb-clause-gone c =
    tomb_reached c.args.actor.now.me.0 c.args.task.now c.requires.task c.args.path.now c.requires.at c.in-Some.link (c.in-Some.ensures {u = tt}).turned.0 c.in-Some.turn
    c.read_link_turn_within.new.actor.me.0 (c.in-Some.ensures {u = tt}).turned.1 c.in-Tomb.single c.in-Tomb.is

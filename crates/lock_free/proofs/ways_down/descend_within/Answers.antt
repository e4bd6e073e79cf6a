use Rattle.std.proofs.Common.{subst}
use Rattle.machine_model.specs.declared.finding.KeyLine.TheVariants as key
use Rattle.machine_model.specs.declared.lines.Line.TheVariants as line
use Rattle.machine_model.specs.Paths.{current}
use Rattle.machine_model.specs.Reading.{reading}
use Rattle.lock_free.specs.Descending.{HasFound}
use Rattle.lock_free.proofs.PlacesReached.{found_reached, reached_task}
use Rattle.lock_free.proofs.ways_down.descend_within.Goals as goal

pub find_there-requires-clause-task : goal.find_there-requires-clause-task
find_there-requires-clause-task c =
    let at = c.requires.at in
    reached_task c.args.actor.now.me.0 (line.Key (key.Read at.0 (reading (current at.0)))) at.1 c.go_down_within.new.actor.me.0 c.args.task.now c.go_down_within.new.path.items
    c.in-Some.reached (c.in-Some.ensures {u = tt}).reached c.args.task.now c.requires.task

pub returns-clause-found : goal.returns-clause-found
returns-clause-found c =
    let x = c.find_there in
    found_reached c.args.actor.now.me.0 c.go_down_within.new.actor.me.0 x.new.actor.me.0 c.args.task.now c.go_down_within.new.path.items c.in-Some.reached
    (c.in-Some.ensures {u = tt}).reached x.result
    (subst (λ xs. HasFound c.go_down_within.new.actor.me.0 xs x.result x.new.actor.me.0) c.as_slice.ensures.value x.ensures.found)

use Rattle.ctrie_c.proofs.ConcurrentCalls.{settled_over}
use Rattle.ctrie_c.proofs.threading.settled.Goals as goal

pub returns-in-Answered-clause-settled : goal.returns-in-Answered-clause-settled
returns-in-Answered-clause-settled c =
    settled_over c.args.map.now c.args.at c.in-Parked.seat c.in-Parked.asked
    c.go_on.result c.in-Answered.seat c.in-Answered.field-1 c.in-Parked.is c.requires.held c.in-Answered.is c.go_on.ensures.tried

use Rattle.ctrie_c.proofs.ConcurrentCalls.{parked_fits, parked_held, parked_made, rested_made}
use Rattle.ctrie_c.proofs.threading.made.Goals as goal

pub returns-in-Resting-clause-made : goal.returns-in-Resting-clause-made
returns-in-Resting-clause-made c = rested_made c.args.at c.in-Resting.seat c.args.call c.try_call.result c.come.result c.in-Resting.is c.come.ensures c.try_call.ensures.tried

pub returns-then-is_same-clause-held : goal.returns-then-is_same-clause-held
returns-then-is_same-clause-held c =
    parked_held c.args.map.now c.args.at c.in-Parked.seat c.in-Parked.asked c.args.call
    c.go_on.result c.come-then-is_same.result c.in-Parked.is (c.is_same.ensures.same c.if-is_same.true) c.requires.held c.requires.tried c.come-then-is_same.ensures
    c.go_on.ensures.tried c.go_on.ensures.seat

pub returns-then-is_same-clause-made : goal.returns-then-is_same-clause-made
returns-then-is_same-clause-made c =
    parked_made c.args.at c.in-Parked.seat c.in-Parked.asked c.args.call
    c.go_on.result c.come-then-is_same.result c.in-Parked.is (c.is_same.ensures.same c.if-is_same.true) c.requires.tried c.come-then-is_same.ensures c.go_on.ensures.tried

pub returns-then-is_same-clause-fits : goal.returns-then-is_same-clause-fits
returns-then-is_same-clause-fits c =
    parked_fits c.args.map.now c.args.at c.in-Parked.seat c.in-Parked.asked c.args.call
    c.go_on.result c.come-then-is_same.result c.in-Parked.is (c.is_same.ensures.same c.if-is_same.true) c.requires.held c.requires.tried c.come-then-is_same.ensures
    c.go_on.ensures.tried

use Rattle.machine_core.proofs.Passed.{over_from}
use Rattle.machine_core.proofs.renewing.look_over.Goals as goal

pub returns-then-are_decided : goal.returns-then-are_decided
returns-then-are_decided c =
    over_from c.args.heap.now.heap c.args.main c.args.flag c.in-Below.generation c.in-Below.at c.in-Below.ensures (c.are_decided.ensures.decided c.if-are_decided.true)
    c.are_decided.ensures.few

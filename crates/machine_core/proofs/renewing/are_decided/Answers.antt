use Rattle.std.proofs.Common.{arith, length, get_or, ap, ◌∙◌}
use Rattle.std.proofs.lemmas.List.{get_or_default}
use Rattle.machine_core.specs.Vocabulary.{entries_of, no_ref, node_at}
use Rattle.machine_core.proofs.Passed.{decided_all, decided_first, decided_next}
use Rattle.machine_core.proofs.renewing.are_decided.Goals as goal

pub loop-entry-init : goal.loop-entry-init
loop-entry-init c = decided_first c.args.heap.now.heap c.args.main

pub loop-entry-preserved : goal.loop-entry-preserved
loop-entry-preserved c =
    decided_next c.args.heap.now.heap c.args.main c.loop-entry.entry-index c.entry-item.result c.loop-entry.invariant
    (c.entry-item.is ∙ get_or_default c.entries_at-entry-items.result.now c.loop-entry.entry-index c.entry-item.result no_ref c.loop-entry-test.true
    ∙ ap (λ es. get_or es c.loop-entry.entry-index no_ref) c.entries_at-entry-items.ensures.entries) (c.can_renew.ensures c.if-not-can_renew.false)

pub returns-clause-decided : goal.returns-clause-decided
returns-clause-decided c sure =
    decided_all c.args.heap.now.heap c.args.main c.loop-entry.entry-index (length (entries_of (node_at c.args.heap.now.heap c.args.main))) c.loop-entry.invariant
    (omega (arith, c.loop-entry-test.false, ap length c.entries_at-entry-items.ensures.entries))

use Rattle.std.proofs.Common.{ap, ◌∙◌}
use Rattle.atomic_table.specs.Table.{turned}
use Rattle.sharded_gate.proofs.Reaching.{turned_more}
use Rattle.sharded_gate.proofs.hands.turn.Goals as goal

pub loop-done-preserved : goal.loop-done-preserved
loop-done-preserved g c =
    let inv = c.loop-done.invariant in
    let e = c.turn.ensures in
    (e.0 ∙ inv.0, ap (λ m. m.0) e.2 ∙ inv.1, ap (λ m. m.1) e.2 ∙ ap (λ xs. turned xs) inv.2 ∙ turned_more c.loop-done.done _)

use Rattle.std.proofs.Common.{◌≡◌, drop}
use Rattle.machine_core.specs.Vocabulary.{node_at, look_among}
use Rattle.machine_core.proofs.finding.look_among.Given as goal

-- those before say nothing of the key
abbrev pub invariant-loop-single : goal.invariant-loop-single
invariant-loop-single l = look_among (node_at l.heap.heap) l.key l.singles ≡ look_among (node_at l.heap.heap) l.key (drop l.single-index l.singles)

use Rattle.std.proofs.Common.{◌≡◌, ◌+◌, ℕ, take}
use Rattle.rdcss_root.specs.Vocabulary.{times}
use Rattle.rdcss_root.specs.Holding.{KeepsMemory}
use Rattle.rdcss_root.proofs.holding.hold_all.Given as goal

abbrev pub invariant-loop-at : goal.invariant-loop-at
invariant-loop-at l = record {
  outside : (r : ℕ) → times r l.heap.outside ≡ times r l.fn.heap.outside + times r (take l.at-index l.refs);
  keeps : KeepsMemory l.fn.heap l.heap l.at-index;
}

use Rattle.std.proofs.Common.{◌≡◌, ◌+◌, ◌≤◌, length, take}
use Rattle.trie_parts.specs.Beneath.slot_arena.specs.declared.refs.Ref.{Ref}
use Rattle.trie_parts.specs.Beneath.slot_arena.specs.Times.{times}
use Rattle.trie_parts.specs.Beneath.epochs.specs.Memories.{KeepsEpochs}
use Rattle.trie_parts.proofs.private.release_all.Given as goal

abbrev pub invariant-loop-at : goal.invariant-loop-at
invariant-loop-at l = record {
  heap : l.heap.heap ≡ l.fn.heap.heap;
  others : (r : Ref) → times r l.heap.outside + times r (take l.at-index l.held) ≡ times r l.fn.heap.outside;
  epochs : KeepsEpochs l.fn.heap l.heap;
  few : length l.heap.noted ≤ length l.fn.heap.noted + l.at-index;
  ticks : l.heap.ticks ≡ l.fn.heap.ticks + l.at-index;
}

-- What a step does to the heap, to a private list and to the root words together.
use Rattle.std.specs.Prelude.{◌≡◌, ◌+◌, ◌≤◌, List, length, Option}
use Rattle.rdcss_root.specs.Vocabulary.{Low, Ref, IsLive, TakesUpTo, times, KeepsEpochs, Action, Root, private_after}
use Rattle.rdcss_root.specs.Beneath.epochs.specs.Memories.{Memory}
use Rattle.rdcss_root.specs.Beneath.gcas.specs.Acted.{acted_heap}
use Rattle.trie_parts.specs.Here.{at_heap, no_state}
use Rattle.rdcss_root.specs.Holding.{root_refs}

-- The step with this action leads from one heap, private list and table of root words to others. It notes few slots and takes few ticks, however large the heap.
pub record ActsInAll (before : Memory) (roots : List (Option Root)) (private : List Ref) (action : Action) (after : Memory) (roots' : List (Option Root)) (private' : List Ref) : Type 0 where
  pub heap : after.heap ≡ acted_heap before.heap action
  pub made : private' ≡ private_after (at_heap no_state before.heap Low) private action
  -- what is held from outside changes by the private list and by what stands in root words
  pub others : (r : Ref) → times r after.outside + times r private + times r (root_refs roots) ≡ times r before.outside + times r private' + times r (root_refs roots')
  pub stay : (q : Ref) → IsLive before.heap q → IsLive after.heap q
  pub epochs : KeepsEpochs before after
  pub few : length after.noted ≤ length before.noted + (32 + length private)
  pub ticks : TakesUpTo (36 + length private) before.ticks after.ticks

-- What a step of a program does to the heap and to its private list.
use Rattle.std.specs.Prelude.{◌≡◌, ◌+◌, ◌≤◌, List, length}
use Rattle.trie_parts.specs.Beneath.slot_arena.specs.declared.refs.Ref.{Ref}
use Rattle.trie_parts.specs.Beneath.slot_arena.specs.Arenas.{IsLive}
use Rattle.trie_parts.specs.Beneath.slot_arena.specs.Ticking.{TakesUpTo}
use Rattle.trie_parts.specs.Beneath.slot_arena.specs.Times.{times}
use Rattle.trie_parts.specs.Beneath.epochs.specs.Memories.{Memory, KeepsEpochs}
use Rattle.trie_parts.specs.Beneath.machine_model.specs.declared.actions.Action.{Action}
use Rattle.trie_parts.specs.Beneath.machine_model.specs.Acting.{private_after}
use Rattle.gcas.specs.Acted.{acted_heap}
use Rattle.trie_parts.specs.Here.{at_heap, no_state}
use Rattle.trie_parts.specs.Beneath.ctrie_base.specs.declared.hashes.HashKind.TheVariants.{Low}

-- each reference of the list is held from outside, as often as it stands there
abbrev pub AreHeld : List Ref → Memory → Type 0
AreHeld private memory = (r : Ref) → times r private ≤ times r memory.outside

-- what is held from outside beside the private list is as before
abbrev pub KeepsOthers : List Ref → Memory → List Ref → Memory → Type 0
KeepsOthers private before private' after = (r : Ref) → times r after.outside + times r private ≡ times r before.outside + times r private'

-- The step with this action leads from one heap and private list to others. It notes few slots and takes few ticks, however large the heap.
pub record Acts (before : Memory) (private : List Ref) (action : Action) (after : Memory) (private' : List Ref) : Type 0 where
  pub heap : after.heap ≡ acted_heap before.heap action
  pub made : private' ≡ private_after (at_heap no_state before.heap Low) private action
  pub others : KeepsOthers private before private' after
  pub stay : (q : Ref) → IsLive before.heap q → IsLive after.heap q
  pub epochs : KeepsEpochs before after
  pub few : length after.noted ≤ length before.noted + (32 + length private)
  pub ticks : TakesUpTo (36 + length private) before.ticks after.ticks

-- Main nodes that are an indirection's own, over a run of words, and what no root leads to.
use Rattle.std.specs.Prelude.{◌≡◌, ℕ, suc, ◌<◌, ◌≤◌, true, false, Contains, Some}
use Rattle.proof_owned.specs.Beneath.slot_arena.specs.declared.refs.Ref.{Ref}
use Rattle.proof_owned.specs.Beneath.slot_arena.specs.Heaps.{refs_of_slot, stored}
use Rattle.proof_owned.specs.Beneath.machine_model.specs.declared.roots.Root.{Root}
use Rattle.proof_owned.specs.Beneath.machine_model.specs.States.{State, root_at, root_of, operation_of}
use Rattle.proof_owned.specs.Beneath.machine_model.specs.Grown.{node_under, main_word}
use Rattle.proof_owned.specs.Beneath.proof_memory.specs.Wants.{is_indirection}
use Rattle.proof_owned.specs.Beneath.proof_commits.specs.Protocol.{Builds, Publishes}
use Rattle.proof_owned.specs.Beneath.proof_commits.specs.Stages.{stage_of_actor}

-- The main node is the indirection's own: before step t an operation swapped it in there, or made the indirection over a main node that it had just
-- made itself (DUAL, and a clear); or both were there at first. What RENEW and a snapshot make has a main node that a READ gave: it isn't own.
pub data IsOwn (states : ℕ → State) (t : ℕ) (i m : Ref) : Type 0 where
  swapped : (u k : ℕ) (a : Ref) → u < t → stage_of_actor (operation_of (states u) k) ≡ Publishes i a m → is_indirection (node_under states (suc u) i) ≡ true →
      main_word states (suc u) i ≡ m → IsOwn states t i m
  built : (u k : ℕ) → u < t → stage_of_actor (operation_of (states u) k) ≡ Builds m → is_indirection (node_under states u i) ≡ false →
      is_indirection (node_under states (suc u) i) ≡ true → main_word states (suc u) i ≡ m → IsOwn states t i m
  first : is_indirection (node_under states 0 i) ≡ true → main_word states 0 i ≡ m → IsOwn states t i m

-- It is shared: the indirection was made before step t over a main node that had stood in another one's word.
pub data IsShared (states : ℕ → State) (t : ℕ) (i m : Ref) : Type 0 where
  over : (u v : ℕ) (j : Ref) → u < t → v ≤ u → is_indirection (node_under states u i) ≡ false → is_indirection (node_under states (suc u) i) ≡ true →
      main_word states (suc u) i ≡ m → is_indirection (node_under states v j) ≡ true → main_word states v j ≡ m → IsShared states t i m

-- A root that stands on a handle leads there, through main words, entries and prev words. The roots that an offer is still to bring don't count, nor what is private.
pub data IsLinked (state : State) : Ref → Type 0 where
  from_root : (handle : ℕ) (root : Root) → root_at state handle ≡ Some root → IsLinked state (root_of root.word)
  from_slot : (q r : Ref) → IsLinked state q → Contains (refs_of_slot (stored state.heap q)) r → IsLinked state r

-- Two keys whose ways part below: how the way down to both is made.
use Rattle.std.specs.Prelude.{◌≡◌, ℕ, ◌+◌, ◌<◌, ◌≤◌, List, length}
use Rattle.machine_core.specs.Vocabulary.{Call, Ref, IsLive, node_at, birth_limit, State, parts_at, with_change, with_pair, Draft, HasEmptySlots, AreHeld, IsDraft, KeepsRecords}
use Rattle.epochs.specs.Memories.{Memory}
use Rattle.machine_model.specs.declared.building.Change.TheVariants as change

-- so many nodes can be made, which are held with these
pub record CanMake (memory : Memory) (made : List Ref) (nodes : ℕ) : Type 0 where
  pub empty : HasEmptySlots memory.heap
  pub free : nodes ≤ length memory.heap.free
  pub births : memory.heap.births + nodes < birth_limit
  pub held : AreHeld made memory
  pub room : length made + nodes ≤ 33

-- so many nodes were made, which are held, and what was live stands as before
pub record Makes (many : ℕ) (before : Memory) (made : List Ref) (after : Memory) (made' : List Ref) : Type 0 where
  pub can : (more : ℕ) → CanMake before made (many + more) → CanMake after made' more
  pub stay : (r : Ref) → IsLive before.heap r → IsLive after.heap r
  pub nodes : (r : Ref) → IsLive before.heap r → node_at after.heap r ≡ node_at before.heap r
  pub records : KeepsRecords before after

-- the heap has come as far as this draft, of which these are the slots that were made, and that one the newest
pub record IsMade (state : State) (draft : Draft) (memory : Memory) (made : List Ref) (newest : Ref) : Type 0 where
  pub draft_is : IsDraft state draft memory
  pub private : draft.private ≡ made
  pub newest_is : draft.newest ≡ newest

-- the call has put its single beside that of another key, so many levels below
pub record IsPaired (state : State) (call : Call) (root : Ref) (depth : ℕ) (indirection : Ref) (position levels : ℕ) (memory : Memory) : Type 0 where
  pub parts : parts_at state call depth indirection position ≡ depth + 1 + levels
  pub few : levels ≤ 12
  pub draft : IsDraft state
      (with_change state call depth indirection (with_pair state call root depth indirection position levels)
      (change.Update position (with_pair state call root depth indirection position levels).newest)) memory

-- What a call that renews a branch on its way finds behind that.
use Rattle.std.specs.Prelude.{◌≡◌, ℕ, ◌+◌, ◌*◌, ◌<◌, ◌≤◌, ◌==◌, true, false, length, Some}
use Rattle.arrayvec.specs.ArrayVec.{ArrayVec}
use Rattle.proof_straight.specs.Vocabulary.{position_of, Call, flag_of, Indirection, Slot, Ref, IsLive, entries_from, generation_at, main_at, node_at, stored, slot_of, key_of, needs_writable, State}
use Rattle.proof_straight.specs.Vocabulary.{key_hash}
use Rattle.proof_straight.specs.Places.{ComesDown, HasEntry, entry_for}
use Rattle.proof_straight.specs.Renewals.{AreRenewable, renewal_of, renewal_slots, renewed_state, steps_of_renewal}
use Rattle.proof_straight.specs.Running.{GoesOn, IsKeyed, IsReady}

-- by what the call comes from the second state on, after so many steps at least, it comes from the first one, too
abbrev pub Passes : State → State → (actor : ℕ) → Call → (least : ℕ) → Type 0
Passes state now actor call least = (n : ℕ) (t : State) → least ≤ n → GoesOn now actor call n t → (m : ℕ) × (n ≤ m) × GoesOn state actor call m t

-- after so many steps at least the call comes by a state that has the heap, the root words and the limits of the second one
pub record Visits (state now : State) (actor : ℕ) (call : Call) (least : ℕ) : Type 0 where
  pub n : ℕ
  pub long : least ≤ n
  pub there : State
  pub goes : GoesOn state actor call n there
  pub heap : there.heap ≡ now.heap
  pub roots : there.roots ≡ now.roots
  pub limits : there.limits ≡ now.limits

-- In a state that is ready for it a call that changes a key comes to an indirection over the branch with this bitmap and these entries, whose entry for the key is
-- an indirection of another generation; and the branch can be renewed.
pub record MeetsOld (state : State) (actor : ℕ) (call : Call) (root : Ref) (depth : ℕ) (indirection : Ref) (bitmap : ℕ) (entries : ArrayVec Ref) : Type 0 where
  pub ready : IsReady state actor call root
  pub keyed : IsKeyed call
  pub writes : needs_writable call ≡ true
  pub down : ComesDown state call root depth indirection
  pub entry : HasEntry state.heap (key_hash state (key_of call)) depth indirection bitmap entries
  pub few : length entries.items ≤ 32
  pub within : position_of (flag_of (key_hash state (key_of call)) depth) bitmap < length entries.items
  pub generation : ℕ
  pub word : Ref
  pub is : node_at state.heap (entry_for state.heap (key_hash state (key_of call)) depth indirection bitmap) ≡ Indirection generation word
  pub other : (generation_at state.heap root == generation) ≡ false
  pub renewable : AreRenewable state entries.items
  pub live : IsLive state.heap (main_at state.heap indirection)
  -- no indirection above stands in its slot
  pub apart : (d : ℕ) (r : Ref) → ComesDown state call root d r → d < depth → slot_of r ≡ slot_of indirection → ⊥
  pub free : renewal_slots state root entries.items + 1 ≤ length state.heap.free
  pub lasts : state.steps + (4 * depth + 4 + steps_of_renewal state root entries) + 2 ≤ state.limits.steps

-- In the state in which that branch is renewed the call comes to the same indirection, and its branch has for the key an indirection of the root's generation over the
-- main node that the old one had. All else that stood stands.
pub record IsRenewed (state now : State) (actor : ℕ) (call : Call) (root : Ref) (depth : ℕ) (indirection : Ref) (bitmap : ℕ) (entries : ArrayVec Ref) : Type 0 where
  pub ready : IsReady now actor call root
  pub passes : Passes state now actor call (4 * depth + 3)
  pub visits : Visits state now actor call (4 * depth + 3)
  pub down : ComesDown now call root depth indirection
  pub entry : HasEntry now.heap (key_hash state (key_of call)) depth indirection bitmap (entries_from (renewal_of state root entries).entries)
  pub link : node_at now.heap (entry_for now.heap (key_hash state (key_of call)) depth indirection bitmap)
      ≡ Indirection (generation_at state.heap root) (main_at state.heap (entry_for state.heap (key_hash state (key_of call)) depth indirection bitmap))
  pub generation : generation_at now.heap root ≡ generation_at state.heap root
  pub stays : (r : Ref) (slot : Slot) → stored state.heap r ≡ Some slot → (slot_of r ≡ slot_of indirection → ⊥) → stored now.heap r ≡ Some slot
  pub fewer : length state.heap.free ≡ renewal_slots state root entries.items + 1 + length now.heap.free

-- so it is behind a renewal
abbrev pub PassesRenewal : Type 0
PassesRenewal =
    (state : State) (actor : ℕ) (call : Call) (root : Ref) (depth : ℕ) (indirection : Ref) (bitmap : ℕ) (entries : ArrayVec Ref) → MeetsOld state actor call root depth indirection bitmap entries →
    IsRenewed state (renewed_state state root indirection bitmap entries) actor call root depth indirection bitmap entries

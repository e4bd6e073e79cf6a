-- A call that meets an indirection of another generation renews the branch, and goes on from there.
use Rattle.std.specs.Prelude.{◌≡◌, ℕ, ◌+◌, ◌*◌, ◌<◌, ◌≤◌, ◌==◌, Bool, true, false, not, List, [], ◌∷◌, ◌++◌, length, None, if◌then◌else◌}
use Rattle.arrayvec.specs.ArrayVec.{ArrayVec}
use Rattle.proof_straight.specs.Vocabulary.{Call, Reply, renewed, Node, Indirection, Single, Ref, IsLive, generation_at, main_at, node_at, prev_at, slot_of, key_of, needs_writable, Record, State}
use Rattle.proof_straight.specs.Vocabulary.{key_hash}
use Rattle.proof_straight.specs.Beneath.slot_arena.specs.declared.nodes.Prev.TheVariants as prev
use Rattle.proof_straight.specs.Drafts.{Draft, first_draft, swapped_in, with_made}
use Rattle.proof_straight.specs.Places.{ComesDown, HasEntry, entry_for}
use Rattle.proof_straight.specs.Running.{ComesTo, IsKeyed, IsReady, IsRecordOf}

-- an indirection of another generation than this
abbrev pub is_of_other : ℕ → Node → Bool
is_of_other generation (Indirection g word) = not (generation == g)
is_of_other generation node = false

-- the entry is one of another generation than the root's
abbrev pub is_old : State → Ref → Ref → Bool
is_old state root entry = is_of_other (generation_at state.heap root) (node_at state.heap entry)

-- what can be renewed: singles, and indirections whose main node is in use and decided
abbrev pub IsRenewable : State → Ref → Node → Type 0
IsRenewable state entry (Indirection g word) = (prev_at state.heap (main_at state.heap entry) ≡ prev.None) × IsLive state.heap (main_at state.heap entry)
IsRenewable state entry (Single key value) = Unit {0}
IsRenewable state entry node = ⊥

abbrev pub AreRenewable : State → List Ref → Type 0
AreRenewable state [] = Unit {0}
AreRenewable state (entry ∷ rest) = IsRenewable state entry (node_at state.heap entry) × AreRenewable state rest

-- the branch's new entries so far, and the draft in which they stand
pub record Renewal : Type 0 where
  pub draft : Draft
  pub entries : List Ref

-- an old entry gives way to an indirection of the root's generation over the same main node, any other stays
abbrev pub renewed_entry : State → Ref → Ref → Bool → Renewal → Renewal
renewed_entry state root entry true so_far =
    let draft = with_made state so_far.draft (Indirection (generation_at state.heap root) (main_at state.heap entry)) in
    record { draft = draft; entries = so_far.entries ++ draft.newest ∷ [] }
renewed_entry state root entry false so_far = record so_far { entries = so_far.entries ++ entry ∷ [] }

unfoldable pub renewed_entries : State → Ref → List Ref → Renewal → Renewal
renewed_entries state root [] so_far = so_far
renewed_entries state root (entry ∷ rest) so_far = renewed_entries state root rest (renewed_entry state root entry (is_old state root entry) so_far)

-- how many steps that takes, and how many slots
unfoldable pub renewal_steps : State → Ref → List Ref → ℕ
renewal_steps state root [] = 0
renewal_steps state root (entry ∷ rest) = (if is_old state root entry then 4 else 1) + renewal_steps state root rest

unfoldable pub renewal_slots : State → Ref → List Ref → ℕ
renewal_slots state root [] = 0
renewal_slots state root (entry ∷ rest) = (if is_old state root entry then 1 else 0) + renewal_slots state root rest

-- all entries of the branch are renewed
abbrev pub renewal_of : State → Ref → ArrayVec Ref → Renewal
renewal_of state root entries = renewed_entries state root entries.items (record { draft = first_draft state; entries = [] })

-- the new branch is swapped in
abbrev pub with_renewal : State → Ref → Ref → (bitmap : ℕ) → ArrayVec Ref → Draft
with_renewal state root indirection bitmap entries =
    swapped_in state (with_made state (renewal_of state root entries).draft (renewed bitmap (renewal_of state root entries).entries)) indirection (main_at state.heap indirection)

-- how many steps more a call takes that renews this branch on its way
abbrev pub steps_of_renewal : State → Ref → ArrayVec Ref → ℕ
steps_of_renewal state root entries = renewal_steps state root entries.items + 10

-- the state at rest in which the branch is renewed, as it were by somebody else in just these steps
abbrev pub renewed_state : State → Ref → Ref → (bitmap : ℕ) → ArrayVec Ref → State
renewed_state state root indirection bitmap entries = record state {
  heap = (with_renewal state root indirection bitmap entries).heap;
  limbo = (with_renewal state root indirection bitmap entries).limbo;
  steps = state.steps + steps_of_renewal state root entries;
}

-- and what is recorded: the new branch is nobody's change
abbrev pub renewed_record : Record → (step : ℕ) → Ref → Record
renewed_record past step fresh = record past {
  commits = past.commits ++ record { main = fresh; step = step } ∷ [];
  published = record { main = fresh; changer = None } ∷ past.published;
}

-- the step in which a call commits the new branch of an indirection of this depth
abbrev pub renewed_in : State → Ref → ArrayVec Ref → (depth : ℕ) → ℕ
renewed_in state root entries depth = state.steps + (4 * depth + renewal_steps state root entries.items + 10)

-- A call that meets an indirection of another generation comes to what it comes to in the state in which that branch is renewed, after so many steps more.
abbrev pub RenewsStraight : Type 0
RenewsStraight =
    (state : State) (past : Record) (actor : ℕ) (call : Call) (root : Ref) (depth : ℕ) (indirection : Ref) (bitmap : ℕ) (entries : ArrayVec Ref) (generation : ℕ) (word : Ref)
    (n : ℕ) (answer : Reply) (after : State) (recorded : Record) →
    IsReady state actor call root → IsRecordOf state past → IsKeyed call → needs_writable call ≡ true → ComesDown state call root depth indirection →
    HasEntry state.heap (key_hash state (key_of call)) depth indirection bitmap entries →
    node_at state.heap (entry_for state.heap (key_hash state (key_of call)) depth indirection bitmap) ≡ Indirection generation word → (generation_at state.heap root == generation) ≡ false →
    AreRenewable state entries.items → IsLive state.heap (main_at state.heap indirection) →
    ((d : ℕ) (r : Ref) → ComesDown state call root d r → d < depth → slot_of r ≡ slot_of indirection → ⊥) →
    renewal_slots state root entries.items + 1 ≤ length state.heap.free → state.steps + (4 * depth + 4 + steps_of_renewal state root entries) + 2 ≤ state.limits.steps →
    ComesTo (renewed_state state root indirection bitmap entries)
    (renewed_record past (renewed_in state root entries depth) (with_renewal state root indirection bitmap entries).newest) actor call n answer after recorded →
    ComesTo state past actor call (n + steps_of_renewal state root entries) answer after recorded

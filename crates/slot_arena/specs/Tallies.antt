-- Counts by slot, and which slots' counts reached or left zero.
use Rattle.std.specs.Prelude.{◌≡◌, ℕ, ◌==◌, Bool, false, List, length, count_by, slice_index, slice_index_or, if◌then◌else◌}
use Rattle.slot_arena.specs.Refs.{slot_of}
use Rattle.slot_arena.specs.declared.refs.Ref.{Ref}
use Rattle.slot_arena.specs.Times.{times}

pub record Tally : Type 0 where
  -- the count of each slot
  pub counts : List ℕ
  -- the slots that are noted
  pub noted : List ℕ
  -- how often a slot was looked at
  pub ticks : ℕ

-- how many of the references name the slot
abbrev pub naming : ℕ → List Ref → ℕ
naming slot rs = count_by (λ q. slot_of q == slot) rs

-- a slot that isn't noted now wasn't before, and its count is zero now where it was
abbrev pub NotesZeros : Tally → Tally → Type 0
NotesZeros before after =
    (slot : ℕ) → times slot after.noted ≡ 0 → (times slot before.noted ≡ 0) × ((slice_index before.counts slot == 0) ≡ (slice_index after.counts slot == 0))

-- each slot that is noted is marked and stands once in the list
abbrev pub AreMarks : List ℕ → List Bool → Type 0
AreMarks noted marks =
    ((slot : ℕ) → times slot noted ≡ (if slice_index_or marks slot false then 1 else 0)) × (length noted ≡ count_by (λ mark. mark) marks)

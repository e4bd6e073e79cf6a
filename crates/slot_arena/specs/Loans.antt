-- Loans of counts: references that stand in a node and in its changed copy, and are counted once.
use Rattle.std.specs.Prelude.{◌≡◌, ℕ, ◌+◌, ◌<◌, ◌^◌, true, List, [], ◌∷◌, ◌⊎◌, length, All, Option, None, remove, slice_index, slice_index_or, slice_set}
use Rattle.slot_arena.specs.declared.refs.Ref.{Ref}
use Rattle.slot_arena.specs.declared.nodes.Slot.{Slot}
use Rattle.slot_arena.specs.Refs.{slot_of}
use Rattle.slot_arena.specs.Heaps.{node_of, refs_of_node}
use Rattle.slot_arena.specs.Kept.{live}
use Rattle.slot_arena.specs.Tallies.{Tally, naming}

pub record Loan : Type 0 where
  -- whose references are lent
  pub lender : Ref
  -- these references; none where no loan is out
  pub refs : List Ref
  -- the position of the one that isn't lent, past the others where all are
  pub kept : ℕ

-- the tally with what is lent counted too, and the loan
pub record Ledger : Type 0 where
  pub tally : Tally
  pub loan : Loan

-- what is lent
abbrev pub lent : Loan → List Ref
lent loan = remove loan.refs loan.kept

-- the counts with each of the references counted once more
abbrev pub owed : List ℕ → List Ref → List ℕ
owed counts [] = counts
owed counts (r ∷ rs) = slice_set (owed counts rs) (slot_of r) (slice_index (owed counts rs) (slot_of r) + 1)

pub record IsBacked (counts : List ℕ) (rs : List Ref) : Type 0 where
  pub within : All (λ r. slot_of r < length counts) rs
  -- what is lent is counted, so that no count that is zero is too low
  pub some : (slot : ℕ) → slice_index counts slot ≡ 0 → naming slot rs ≡ 0
  pub room : (slot : ℕ) → slice_index counts slot + naming slot rs < 2 ^ 32

abbrev pub IsOver : Loan → Type 0
IsOver loan = loan.refs ≡ []

-- the loan is the same, or over
abbrev pub KeepsLoan : Loan → Loan → Type 0
KeepsLoan before after = (after ≡ before) ⊎ IsOver after

-- no loan of this lender is out
abbrev pub LendsNone : Ref → Loan → Type 0
LendsNone r loan = IsOver loan ⊎ (loan.lender ≡ r → ⊥)

-- a loan that is out is of what a node in use refers to
abbrev pub IsLending : List (Option Slot) → Loan → Type 0
IsLending slots loan = IsOver loan ⊎ ((live slots loan.lender ≡ true) × (loan.refs ≡ refs_of_node (node_of (slice_index_or slots (slot_of loan.lender) None))))

-- Lists with empty places at the end.
use Rattle.std.proofs.Common.{◌≡◌, ℕ, zero, suc, ◌+◌, ◌≤◌, ◌++◌, List, [], ◌∷◌, length, replicate, get_or, set, flat_map, Option, Some, None, refl, ap, ◌∙◌, arith}
use Rattle.proof_slots.specs.Vocabulary.{Slot, ref_to, named_from, refs_of_slot}

module _ (more : ℕ) where
  abbrev pub longer : List (Option Slot) → List (Option Slot)
  longer slots = slots ++ replicate more None

  none_there : (more k : ℕ) → get_or {A = Option Slot} (replicate more None) k None ≡ None
  none_there zero k = refl
  none_there (suc more) zero = refl
  none_there (suc more) (suc k) = none_there more k

  pub get_longer : (slots : List (Option Slot)) (k : ℕ) → get_or (longer slots) k None ≡ get_or slots k None
  get_longer [] k = none_there more k
  get_longer (slot ∷ slots) zero = refl
  get_longer (slot ∷ slots) (suc k) = get_longer slots k

  none_set : (more k : ℕ) → set {A = Option Slot} (replicate more None) k None ≡ replicate more None
  none_set zero k = refl
  none_set (suc more) zero = refl
  none_set (suc more) (suc k) = ap (λ slots. None ∷ slots) (none_set more k)

  -- a write, which past the end is of nothing
  pub set_longer : (slots : List (Option Slot)) (k : ℕ) (slot : Option Slot) → (length slots ≤ k → slot ≡ None) → set (longer slots) k slot ≡ longer (set slots k slot)
  set_longer [] k slot past = ap (λ s. set (replicate more None) k s) (past (omega arith)) ∙ none_set more k
  set_longer (first ∷ slots) zero slot past = refl
  set_longer (first ∷ slots) (suc k) slot past = ap (λ rest. first ∷ rest) (set_longer slots k slot (λ behind. past (omega arith)))

  none_named : (more n : ℕ) → named_from n (replicate more None) ≡ []
  none_named zero n = refl
  none_named (suc more) n = none_named more (n + 1)

  pub named_longer : (n : ℕ) (slots : List (Option Slot)) → named_from n (longer slots) ≡ named_from n slots
  named_longer n [] = none_named more n
  named_longer n (None ∷ slots) = named_longer (n + 1) slots
  named_longer n (Some slot ∷ slots) = ap (λ rest. ref_to slot.birth n ∷ rest) (named_longer (n + 1) slots)

  none_held : (more : ℕ) → flat_map refs_of_slot (replicate more None) ≡ []
  none_held zero = refl
  none_held (suc more) = none_held more

  pub held_longer : (slots : List (Option Slot)) → flat_map refs_of_slot (longer slots) ≡ flat_map refs_of_slot slots
  held_longer [] = none_held more
  held_longer (slot ∷ slots) = ap (λ rest. refs_of_slot slot ++ rest) (held_longer slots)

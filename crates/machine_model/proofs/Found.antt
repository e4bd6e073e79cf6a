-- What is found at a place of a list of options.
use Rattle.std.proofs.Common.{◌≡◌, ℕ, zero, suc, ◌<◌, Option, Some, None, List, set, get_or, replicate, length, inl, inr, sym, ◌∙◌}
use Rattle.std.proofs.lemmas.Bool.{cases_lt}
use Rattle.std.proofs.lemmas.List.{get_or_past, get_or-set_same, get_or-set_other, length-set}
use Rattle.std.proofs.lemmas.Option.{none-some}

-- what is found stands in the list
pub found_within : {X : Type 0} (xs : List (Option X)) (k : ℕ) (x : X) → get_or xs k None ≡ Some x → k < length xs
found_within xs k x e = elim (cases_lt k (length xs)) [ inl h ↦ h | inr h ↦ absurd (none-some x (sym (get_or_past xs k None h) ∙ e)) ]

-- after a write elsewhere the same is found
pub found_elsewhere : {X : Type 0} (xs : List (Option X)) (i k : ℕ) (put : Option X) → (k ≡ i → ⊥) → get_or (set xs i put) k None ≡ get_or xs k None
found_elsewhere xs i k put apart = get_or-set_other xs i k put None apart

-- after a write here what was put is found, if anything is
pub found_here : {X : Type 0} (xs : List (Option X)) (k : ℕ) (put : Option X) (x : X) → get_or (set xs k put) k None ≡ Some x → put ≡ Some x
found_here xs k put x e = elim (cases_lt k (length xs)) [
  | inl h ↦ sym (get_or-set_same xs k put None h) ∙ e
  | inr h ↦ absurd (none-some x (sym (get_or_past (set xs k put) k None (rw length-set h)) ∙ e))
]

-- where all is empty nothing is found
pub none_found : {X : Type 0} (n k : ℕ) (x : X) → get_or (replicate n None) k None ≡ Some x → ⊥
none_found zero k x e = none-some x e
none_found (suc n) zero x e = none-some x e
none_found (suc n) (suc k) x e = none_found n k x e

-- Slots that lists name.
use Rattle.std.proofs.Common.{◌≡◌, ℕ, ◌<◌, ◌≤◌, ◌==◌, Bool, true, false, cond, List, [], ◌∷◌, filter, sym, ap, ◌∙◌, ◌⊎◌, inl, inr, arith}
use Rattle.std.proofs.lemmas.Bool.{cases_eq, cases_lt}
use Rattle.slot_arena.specs.declared.refs.Ref.{Ref}
use Rattle.slot_arena.specs.Refs.{slot_of}
use Rattle.slot_arena.specs.Times.{times}
use Rattle.slot_arena.specs.Tallies.{naming}
use Rattle.slot_arena.proofs.Times.{once_same, once_other, times-cons}
use Rattle.slot_arena.proofs.Namings.{naming-cons}
use Rattle.epochs.proofs.InUse.{bit_small}

member_step : (k : ℕ) (r : Ref) (rs : List Ref) → (slot_of r ≡ k) ⊎ (slot_of r ≡ k → ⊥) → (0 < naming k rs → (q : Ref) × (0 < times q rs) × (slot_of q ≡ k)) → 0 < naming k (r ∷ rs)
    → (q : Ref) × (0 < times q (r ∷ rs)) × (slot_of q ≡ k)
member_step k r rs (inl same) rest some = (r, omega (arith, times-cons r r rs, once_same r), same)
member_step k r rs (inr other) rest some =
    let found = rest (omega (arith, some, naming-cons k r rs, once_other k (slot_of r) (λ e. other (sym e)))) in (found.0, omega (arith, found.1, times-cons found.0 r rs), found.2)

-- a slot that a list names is named by one of its references
pub named_member : (k : ℕ) (rs : List Ref) → 0 < naming k rs → (q : Ref) × (0 < times q rs) × (slot_of q ≡ k)
named_member k [] some = absurd (omega arith)
named_member k (r ∷ rs) some = member_step k r rs (cases_eq (slot_of r) k) (named_member k rs) some

naming_le_step : (k : ℕ) (p : Ref → Bool) (r : Ref) (rs : List Ref) (b : Bool) → naming k (filter p rs) ≤ naming k rs → naming k (cond b (r ∷ filter p rs) (filter p rs)) ≤ naming k (r ∷ rs)
naming_le_step k p r rs true less = omega (arith, naming-cons k r rs, naming-cons k r (filter p rs))
naming_le_step k p r rs false less = omega (arith, naming-cons k r rs)

pub naming_filter : (k : ℕ) (p : Ref → Bool) (rs : List Ref) → naming k (filter p rs) ≤ naming k rs
naming_filter k p [] = omega arith
naming_filter k p (r ∷ rs) = naming_le_step k p r rs (p r) (naming_filter k p rs)

-- references of different slots name a slot once
pub naming_once : (k : ℕ) (rs : List Ref) → ((r : Ref) → times r rs ≤ 1) → ((q r : Ref) → 0 < times q rs → 0 < times r rs → slot_of q ≡ slot_of r → q ≡ r) → naming k rs ≤ 1
naming_once k [] each apart = omega arith
naming_once k (r ∷ rs) each apart = by_head (cases_eq (slot_of r) k) (cases_lt 0 (naming k rs))
    (naming_once k rs (λ q. omega (arith, each q, times-cons q r rs)) (λ p q h h'. apart p q (omega (arith, h, times-cons p r rs)) (omega (arith, h', times-cons q r rs))))
  where
    by_head : (slot_of r ≡ k) ⊎ (slot_of r ≡ k → ⊥) → (0 < naming k rs) ⊎ (naming k rs ≤ 0) → naming k rs ≤ 1 → naming k (r ∷ rs) ≤ 1
    by_head (inl same) (inl some) rest =
        let found = named_member k rs some in
        let one : found.0 ≡ r = apart found.0 r (omega (arith, found.1, times-cons found.0 r rs)) (omega (arith, times-cons r r rs, once_same r)) (found.2 ∙ sym same) in
        absurd (omega (arith, each r, times-cons r r rs, once_same r, found.1, ap (λ q. times q rs) one))
    by_head (inl same) (inr none) rest = omega (arith, naming-cons k r rs, bit_small (slot_of r == k))
    by_head (inr other) some rest = omega (arith, naming-cons k r rs, once_other k (slot_of r) (λ e. other (sym e)))

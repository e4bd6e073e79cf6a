-- Counts by slot, reference after reference.
use Rattle.std.proofs.Common.{◌≡◌, ℕ, ◌+◌, ◌-◌, ◌<◌, ◌≤◌, ◌==◌, List, ◌∷◌, ◌++◌, length, take, get_or, set, slice_index, sym, ap, ◌∙◌, subst, inl, inr, arith}
use Rattle.std.proofs.lemmas.Bool.{cases_eq}
use Rattle.std.proofs.lemmas.List.{get_or-set_same, get_or-set_other}
use Rattle.std.proofs.lemmas.List.Sums.{sum_by_more, sum_by-cons, sum_by-append, count_by-le-length, sum_by-take-le}
use Rattle.slot_arena.specs.Refs.{slot_of}
use Rattle.slot_arena.specs.declared.refs.Ref.{Ref}
use Rattle.slot_arena.specs.Tallies.{naming}
use Rattle.slot_arena.proofs.Times.{bit, once, once_same, once_other}

-- whether the reference names the slot
abbrev pub names : ℕ → Ref → ℕ
names slot q = bit (slot_of q == slot)

pub naming-cons : (slot r : ℕ) (rs : List Ref) → naming slot (r ∷ rs) ≡ once slot (slot_of r) + naming slot rs
naming-cons slot r rs = sum_by-cons (names slot) r rs

pub naming_more : (slot : ℕ) (refs : List Ref) (i r : ℕ) → i < length refs → r ≡ get_or refs i r → naming slot (take (i + 1) refs) ≡ naming slot (take i refs) + once slot (slot_of r)
naming_more slot refs i r within is = sum_by_more (names slot) refs i r within ∙ ap (λ q. naming slot (take i refs) + once slot (slot_of q)) (sym is)

pub naming-le : (slot : ℕ) (refs : List Ref) → naming slot refs ≤ length refs
naming-le slot refs = count_by-le-length (λ q. slot_of q == slot) refs

pub naming_part-le : (slot : ℕ) (refs : List Ref) (i : ℕ) → naming slot (take i refs) ≤ naming slot refs
naming_part-le slot refs i = sum_by-take-le (names slot) refs i

-- a slot counted once more
pub raised_at : (counts : List ℕ) (s slot : ℕ) → s < length counts → slice_index (set counts s (slice_index counts s + 1)) slot ≡ slice_index counts slot + once slot s
raised_at counts s slot within = elim (cases_eq slot s) [
  | inl same ↦ subst (λ k. slice_index (set counts s (slice_index counts s + 1)) k ≡ slice_index counts k + once k s) (sym same)
      (get_or-set_same counts s (slice_index counts s + 1) 0 within ∙ omega (arith, once_same s))
  | inr other ↦ let at : slice_index (set counts s (slice_index counts s + 1)) slot ≡ slice_index counts slot = get_or-set_other counts s slot (slice_index counts s + 1) 0 other in
      omega (arith, once_other slot s other)
]

-- a slot counted once less
pub lowered_at : (counts : List ℕ) (s slot : ℕ) → s < length counts → 0 < slice_index counts s → slice_index (set counts s (slice_index counts s - 1)) slot + once slot s ≡ slice_index counts slot
lowered_at counts s slot within some = elim (cases_eq slot s) [
  | inl same ↦ subst (λ k. slice_index (set counts s (slice_index counts s - 1)) k + once k s ≡ slice_index counts k) (sym same)
      (let at : slice_index (set counts s (slice_index counts s - 1)) s ≡ slice_index counts s - 1 = get_or-set_same counts s (slice_index counts s - 1) 0 within in omega (arith, once_same s))
  | inr other ↦ let at : slice_index (set counts s (slice_index counts s - 1)) slot ≡ slice_index counts slot = get_or-set_other counts s slot (slice_index counts s - 1) 0 other in
      omega (arith, once_other slot s other)
]

pub naming-append : (slot : ℕ) (xs ys : List Ref) → naming slot (xs ++ ys) ≡ naming slot xs + naming slot ys
naming-append slot xs ys = sum_by-append (names slot) xs ys

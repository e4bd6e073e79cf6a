-- How often a number stands in what seats know.
use Rattle.std.specs.Prelude.{◌≡◌, ℕ, zero, suc, ◌+◌, ◌<◌, ◌≤◌, ◌==◌, ◌⊎◌, List, [], ◌∷◌, ◌++◌, slice_set, slice_get, Some, sum_by, map, cond}
use Rattle.std.proofs.Common.{refl, sym, ap, ◌∙◌, inl, inr, eq-eqb, ne_eqb, arith}
use Rattle.std.proofs.lemmas.Bool.{cases_eq}
use Rattle.std.proofs.lemmas.List.Sums.{sum_by-cons, sum_by-append}
use Rattle.std.proofs.lemmas.Option.{none-some, same_Some}
use mathlib.Core.Option.{some, some-injective, some-ne-none}
use lib.ListN.{get_elem?}
use Rattle.gate.specs.declared.rules.Part.{Part}
use Rattle.gate.specs.declared.rules.View.{View}
use Rattle.gate.specs.Logs.{Logged}
use Rattle.gate.specs.Views.{part}
use Rattle.gate.specs.Rules.{crew, times_in, times_in_all}
use Rattle.gate.specs.Seats.{Seated}
use Rattle.gate.specs.Finishing.{AreDistinct}

-- what the table knows of these seats
abbrev pub parts_of : {S O C A : Type 0} → (S → Seated O C A) → List S → List (Part O C A)
parts_of of seats = map (λ s. part (of s).number (of s).seen) seats

-- the sum after one element is replaced
sum_set : {X : Type 0} (f : X → ℕ) (xs : List X) (i : ℕ) (x y : X) → get_elem? xs i ≡ some x → sum_by f (slice_set xs i y) + f x ≡ sum_by f xs + f y
sum_set f [] i x y e = absurd (some-ne-none x (sym e))
sum_set f (z ∷ xs) zero x y e =
    let same : f z ≡ f x = ap f (some-injective z x e) in
    omega (arith, same, sum_by-cons f y xs, sum_by-cons f z xs)
sum_set f (z ∷ xs) (suc i) x y e = omega (arith, sum_set f xs i x y e, sum_by-cons f z (slice_set xs i y), sum_by-cons f z xs)

-- one element counts no more than all
sum_at : {X : Type 0} (f : X → ℕ) (xs : List X) (i : ℕ) (x : X) → get_elem? xs i ≡ some x → f x ≤ sum_by f xs
sum_at f [] i x e = absurd (some-ne-none x (sym e))
sum_at f (z ∷ xs) zero x e = let same : f z ≡ f x = ap f (some-injective z x e) in omega (arith, same, sum_by-cons f z xs)
sum_at f (z ∷ xs) (suc i) x e = omega (arith, sum_at f xs i x e, sum_by-cons f z xs)

module _ {S O C A : Type 0} (number : ℕ) where
  abbrev of_view : View S O C A → ℕ
  of_view v = times_in number v.parts

  pub times_in_one : (views : List (View S O C A)) (seat : ℕ) (view : View S O C A) → get_elem? views seat ≡ some view → times_in number view.parts ≤ times_in_all number views
  times_in_one views seat view at = sum_at of_view views seat view at

  pub times_after : (views : List (View S O C A)) (seat : ℕ) (view other : View S O C A) → get_elem? views seat ≡ some view →
      times_in_all number (slice_set views seat other) + times_in number view.parts ≡ times_in_all number views + times_in number other.parts
  times_after views seat view other at = sum_set of_view views seat view other at

  pub times_pushed : (views : List (View S O C A)) (view : View S O C A) → times_in_all number (views ++ view ∷ []) ≡ times_in_all number views + times_in number view.parts
  times_pushed views view = omega (arith, sum_by-append of_view views (view ∷ []), sum_by-cons of_view view [])

module _ {O C A : Type 0} (number : ℕ) where
  abbrev one_time : Part O C A → ℕ
  one_time p = cond (p.number == number) 1 0

  pub times_append : (ps qs : List (Part O C A)) → times_in number (ps ++ qs) ≡ times_in number ps + times_in number qs
  times_append ps qs = sum_by-append one_time ps qs

  pub times_cons : (p : Part O C A) (ps : List (Part O C A)) → times_in number (p ∷ ps) ≡ one_time p + times_in number ps
  times_cons p ps = sum_by-cons one_time p ps

  one_here : (p : Part O C A) → p.number ≡ number → one_time p ≡ 1
  one_here p same = rw (eq-eqb p.number number same) refl

  none_here : (p : Part O C A) → (p.number ≡ number → ⊥) → one_time p ≡ 0
  none_here p apart = rw (ne_eqb p.number number apart) refl

  -- ---- a crew has each number once

  crew_none : (start : Logged O C A) (n from : ℕ) → number < from → times_in number (crew start from n) ≡ 0
  crew_none start zero from low = refl
  crew_none start (suc n) from low =
      omega (arith, times_cons (part from start) (crew start (from + 1) n), none_here (part from start) (λ same. absurd (omega (arith, same, low))), crew_none start n (from + 1) (omega (arith, low)))

  crew_by : (start : Logged O C A) (n from : ℕ) → times_in number (crew start (from + 1) n) ≤ 1 → (from ≡ number) ⊎ (from ≡ number → ⊥) → times_in number (crew start from (suc n)) ≤ 1
  crew_by start n from rest (inl same) =
      omega (arith, times_cons (part from start) (crew start (from + 1) n), one_here (part from start) same, crew_none start n (from + 1) (omega (arith, same)))
  crew_by start n from rest (inr apart) = omega (arith, times_cons (part from start) (crew start (from + 1) n), none_here (part from start) apart, rest)

  pub crew_once : (start : Logged O C A) (n from : ℕ) → times_in number (crew start from n) ≤ 1
  crew_once start zero from = omega arith
  crew_once start (suc n) from = crew_by start n from (crew_once start n (from + 1)) (cases_eq from number)

-- ---- seats

module _ {S O C A : Type 0} (of : S → Seated O C A) where
  -- what the table knows of one
  abbrev its : S → Part O C A
  its s = part (of s).number (of s).seen

  -- where a seat has the number it stands among what these know
  there : (number : ℕ) (seats : List S) (k : ℕ) (t : S) → slice_get seats k ≡ Some t → (of t).number ≡ number → 1 ≤ times_in number (parts_of of seats)
  there number [] k t at same = absurd (none-some t at)
  there number (s ∷ seats) zero t at same =
      omega (arith, times_cons number (its s) (parts_of of seats), one_here number (its s) (ap (λ x. (of x).number) (same_Some s t at) ∙ same))
  there number (s ∷ seats) (suc k) t at same = omega (arith, times_cons number (its s) (parts_of of seats), there number seats k t at same)

  -- the first one's number stands in no other
  first_apart : (s : S) (seats : List S) (k : ℕ) (t : S) → times_in (of s).number (parts_of of (s ∷ seats)) ≤ 1 → slice_get seats k ≡ Some t → (of t).number ≡ (of s).number → ⊥
  first_apart s seats k t once at same =
      absurd (omega (arith, once, times_cons (of s).number (its s) (parts_of of seats), one_here (of s).number (its s) refl, there (of s).number seats k t at same))

  pub once_apart : (seats : List S) → ((number : ℕ) → times_in number (parts_of of seats) ≤ 1) → AreDistinct of seats
  once_apart [] once j k s t at there same = absurd (none-some s at)
  once_apart (s ∷ seats) once zero zero t u at there same = refl
  once_apart (s ∷ seats) once zero (suc k) t u at there same =
      absurd (first_apart s seats k u (once (of s).number) there (sym same ∙ ap (λ x. (of x).number) (sym (same_Some s t at))))
  once_apart (s ∷ seats) once (suc j) zero t u at there same =
      absurd (first_apart s seats j t (once (of s).number) at (same ∙ ap (λ x. (of x).number) (sym (same_Some s u there))))
  once_apart (s ∷ seats) once (suc j) (suc k) t u at there same =
      ap suc (once_apart seats (λ number. omega (arith, once number, times_cons number (its s) (parts_of of seats))) j k t u at there same)

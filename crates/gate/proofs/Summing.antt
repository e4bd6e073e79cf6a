-- What is counted of a log is what is counted of the seats' own calls together.
use Rattle.std.specs.Prelude.{◌≡◌, ℕ, zero, suc, ◌+◌, ◌≤◌, ◌==◌, ◌⊎◌, List, [], ◌∷◌, slice_get, Some, sum_by, if◌then◌else◌}
use Rattle.std.proofs.Common.{refl, sym, ap, ◌∙◌, inl, inr, eq-eqb, ne_eqb, arith}
use Rattle.std.proofs.lemmas.Bool.{cases_eq}
use Rattle.std.proofs.lemmas.List.Sums.{sum_by-cons}
use Rattle.std.proofs.lemmas.List.Elements.{All-head, All-tail}
use Rattle.std.proofs.lemmas.Option.{none-some, same_Some}
use Rattle.gate.specs.declared.objects.Entry.{Entry}
use Rattle.gate.specs.Logs.{calls_of}
use Rattle.gate.specs.Rules.{AreSeated}
use Rattle.gate.specs.Seats.{Seated}
use Rattle.gate.specs.Finishing.{AreHere, AreDistinct}
use Rattle.gate.specs.Laws.{SeatsMakeTheLog}
use Rattle.gate.proofs.Placing.{others_leave_own_calls}

-- ---- sums

sum_alike : {X : Type 0} (f g : X → ℕ) (xs : List X) → ((k : ℕ) (x : X) → slice_get xs k ≡ Some x → f x ≡ g x) → sum_by f xs ≡ sum_by g xs
sum_alike f g [] same = refl
sum_alike f g (x ∷ xs) same = omega (arith, sum_by-cons f x xs, sum_by-cons g x xs, same zero x refl, sum_alike f g xs (λ k y e. same (suc k) y e))

sum_none : {X : Type 0} (f : X → ℕ) (xs : List X) → ((k : ℕ) (x : X) → slice_get xs k ≡ Some x → f x ≡ 0) → sum_by f xs ≡ 0
sum_none f [] none = refl
sum_none f (x ∷ xs) none = omega (arith, sum_by-cons f x xs, none zero x refl, sum_none f xs (λ k y e. none (suc k) y e))

sum_plus : {X : Type 0} (f g : X → ℕ) (xs : List X) → sum_by (λ x. f x + g x) xs ≡ sum_by f xs + sum_by g xs
sum_plus f g [] = refl
sum_plus f g (x ∷ xs) = omega (arith, sum_by-cons (λ y. f y + g y) x xs, sum_by-cons f x xs, sum_by-cons g x xs, sum_plus f g xs)

-- where every other one counts 0 the sum is what this one counts
sum_one : {X : Type 0} (f : X → ℕ) (xs : List X) (k : ℕ) (x : X) → slice_get xs k ≡ Some x → ((j : ℕ) (y : X) → (j ≡ k → ⊥) → slice_get xs j ≡ Some y → f y ≡ 0) → sum_by f xs ≡ f x
sum_one f (y ∷ xs) zero x e others =
    let same : f y ≡ f x = ap f (same_Some y x e) in
    let none : sum_by f xs ≡ 0 = sum_none f xs (λ j z at. others (suc j) z (λ h. absurd (omega (arith, h))) at) in
    omega (arith, same, none, sum_by-cons f y xs)
sum_one f (y ∷ xs) (suc k) x e others =
    let none : f y ≡ 0 = others zero y (λ h. absurd (omega (arith, h))) refl in
    let rest : sum_by f xs ≡ f x = sum_one f xs k x e (λ j z other at. others (suc j) z (λ h. other (omega (arith, h))) at) in
    omega (arith, none, rest, sum_by-cons f y xs)
sum_one f [] k x e others = absurd (none-some x e)

-- ---- logs

module _ {C A : Type 0} (weight : Entry C A → ℕ) where
  -- what the call counts for this seat
  abbrev counts_for : Entry C A → ℕ → ℕ
  counts_for e seat = if e.seat == seat then weight e else 0

  own_by : (seat : ℕ) (e : Entry C A) (es : List (Entry C A)) → (e.seat ≡ seat) ⊎ (e.seat ≡ seat → ⊥) →
      sum_by weight (calls_of seat (e ∷ es)) ≡ counts_for e seat + sum_by weight (calls_of seat es)
  own_by seat e es (inl same) = rw (eq-eqb e.seat seat same) (sum_by-cons weight e (calls_of seat es))
  own_by seat e es (inr apart) = rw (ne_eqb e.seat seat apart) (omega arith)

  sum_own : (seat : ℕ) (e : Entry C A) (es : List (Entry C A)) → sum_by weight (calls_of seat (e ∷ es)) ≡ counts_for e seat + sum_by weight (calls_of seat es)
  sum_own seat e es = own_by seat e es (cases_eq e.seat seat)

module _ {S O C A : Type 0} (of : S → Seated O C A) (weight : Entry C A → ℕ) (most : ℕ) (seats : List S) (here : AreHere of most seats) (distinct : AreDistinct of seats) where
  counts_no : (e : Entry C A) (n : ℕ) → (e.seat ≡ n → ⊥) → counts_for weight e n ≡ 0
  counts_no e n apart = rw (ne_eqb e.seat n apart) refl

  counts_yes : (e : Entry C A) (n : ℕ) → e.seat ≡ n → counts_for weight e n ≡ weight e
  counts_yes e n same = rw (eq-eqb e.seat n same) refl

  -- a call counts for one seat
  one_seat : (e : Entry C A) → 1 ≤ e.seat → e.seat ≤ most → sum_by (λ s. counts_for weight e (of s).number) seats ≡ weight e
  one_seat e low high =
      let h = here e.seat low high in
      sum_one (λ s. counts_for weight e (of s).number) seats h.0 h.1 h.2
      (λ j t apart at. counts_no e (of t).number (λ same. apart (distinct j h.0 t h.1 at h.2 (sym same ∙ sym h.3))))
      ∙ counts_yes e (of h.1).number (sym h.3)

  all_own : (es : List (Entry C A)) → AreSeated most es → sum_by weight es ≡ sum_by (λ s. sum_by weight (calls_of (of s).number es)) seats
  all_own [] seated = sym (sum_none (λ s. sum_by weight (calls_of (of s).number [])) seats (λ k s at. refl))
  all_own (e ∷ es) seated =
      let Its : Entry C A → Type 0 = λ x. (1 ≤ x.seat) × (x.seat ≤ most) in
      let its = All-head Its e es seated in
      let own = sum_alike (λ s. sum_by weight (calls_of (of s).number (e ∷ es))) (λ s. counts_for weight e (of s).number + sum_by weight (calls_of (of s).number es)) seats
      (λ k s at. sum_own weight (of s).number e es) in
      omega (
        arith,
        sum_by-cons weight e es,
        own,
        sum_plus (λ s. counts_for weight e (of s).number) (λ s. sum_by weight (calls_of (of s).number es)) seats,
        one_seat e its.0 its.1,
        all_own es (All-tail Its e es seated),
      )

pub seats_make_the_log : {S O C A : Type 0} (answers : ℕ → O → C → A → O → Type 0) (of : S → Seated O C A) → SeatsMakeTheLog answers of
seats_make_the_log answers of gate seats object here all weight =
    all_own of weight gate.seats seats here all.distinct all.last.log all.calls
    ∙ sum_alike (λ s. sum_by weight (calls_of (of s).number all.last.log)) (λ s. sum_by weight (calls_of (of s).number (of s).seen.log)) seats
    (λ k s at. ap (λ es. sum_by weight es) (others_leave_own_calls answers (of s).number (of s).seen all.last (all.followed k s at)))

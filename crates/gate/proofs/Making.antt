-- Seats that are made, and seats that are looked for.
use Rattle.std.specs.Prelude.{◌≡◌, ℕ, zero, suc, ◌+◌, ◌-◌, ◌<◌, ◌≤◌, ◌⊎◌, Bool, false, IsTrue, All, List, [], ◌∷◌, ◌++◌, length, slice_get, Some}
use Rattle.std.proofs.Common.{refl, sym, ap, subst, ◌∙◌, inl, inr, arith}
use Rattle.std.proofs.lemmas.Bool.{cases_eq}
use Rattle.std.proofs.lemmas.List.Elements.{All-nil, All-cons}
use Rattle.std.proofs.lemmas.Option.{same_Some, slice_get_within}
use mathlib.Core.Option.{Option}
use Rattle.atomic_table.specs.Table.{Splits}
use Rattle.atomic_table.specs.Seated.{TableId}
use Rattle.gate.specs.Logs.{Logged, fresh}
use Rattle.gate.specs.Views.{Place, part, crew_view, outside, first_of, rest_of}
use Rattle.gate.specs.Rules.{IsKept, crew}
use Rattle.gate.specs.Seats.{Seated}
use Rattle.gate.specs.Opening.{fresh_seat, fresh_seats}
use Rattle.gate.specs.Finishing.{IsHere, IsMissing}
use Rattle.gate.proofs.Crews.{crew_others, cut_allowed}

-- ---- looking for seats

module _ {S O C A : Type 0} (of : S → Seated O C A) where
  -- among those that were looked at it is none still
  pub none_so_far : (seats : List S) (number i : ℕ) (item : S) → slice_get seats i ≡ Some item → ((of item).number ≡ number → ⊥) →
      ((k : ℕ) (s : S) → k < i → slice_get seats k ≡ Some s → (of s).number ≡ number → ⊥) →
      (k : ℕ) (s : S) → k < i + 1 → slice_get seats k ≡ Some s → (of s).number ≡ number → ⊥
  none_so_far seats number i item here other before k s low at same = elim (cases_eq k i) [
    | inl last ↦ other (ap (λ x. (of x).number) (same_Some item s (sym here ∙ ap (λ n. slice_get seats n) (sym last) ∙ at)) ∙ same)
    | inr apart ↦ before k s (omega (arith, low, apart)) at same
  ]

  pub not_here : (seats : List S) (number i : ℕ) → length seats ≤ i → ((k : ℕ) (s : S) → k < i → slice_get seats k ≡ Some s → (of s).number ≡ number → ⊥) →
      IsHere of number seats → ⊥
  not_here seats number i all none h = none h.0 h.1 (omega (arith, all, slice_get_within seats h.0 h.1 h.2)) h.2 h.3

  pub one_missing : (n most : ℕ) (seats : List S) (found : Bool) → n < most → found ≡ false → (IsHere of (n + 1) seats → IsTrue found) → IsMissing of most seats
  one_missing n most seats found within not_found here = (n + 1, omega arith, omega (arith, within), λ h. grind (arith, not_found, here h))

  here_by : (n number : ℕ) (seats : List S) → ((k : ℕ) → 1 ≤ k → k ≤ n → IsHere of k seats) → IsHere of (n + 1) seats → 1 ≤ number → number ≤ n + 1 →
      (number ≡ n + 1) ⊎ (number ≡ n + 1 → ⊥) → IsHere of number seats
  here_by n number seats before last low high (inl same) = subst (λ k. IsHere of k seats) (sym same) last
  here_by n number seats before last low high (inr other) = before number low (omega (arith, high, other))

  pub one_more_here : (n : ℕ) (seats : List S) → ((k : ℕ) → 1 ≤ k → k ≤ n → IsHere of k seats) → IsHere of (n + 1) seats → (k : ℕ) → 1 ≤ k → k ≤ n + 1 → IsHere of k seats
  one_more_here n seats before last k low high = here_by n k seats before last low high (cases_eq k (n + 1))

-- ---- cutting the crew

module _ {W C A : Type 0} where
  crew_next : (start : Logged W C A) (n most : ℕ) → n < most → crew start (n + 1) (most - n) ≡ part (n + 1) start ∷ crew start (n + 1 + 1) (most - (n + 1))
  crew_next start n most within = let more : most - n ≡ suc (most - (n + 1)) = omega (arith, within) in ap (λ k. crew start (n + 1) k) more

module _ {S W C A : Type 0} where
  -- the crew from the number behind n on
  abbrev Left : Place S W C A → Logged W C A → ℕ → ℕ → Type 0
  Left me start n most = me ≡ (crew_view (crew start (n + 1) (most - n)), [])

  -- what the crew is before the cut
  cut_view : (me : Place S W C A) (start : Logged W C A) (n most : ℕ) → n < most → Left me start n most →
      me ≡ (crew_view (part (n + 1) start ∷ crew start (n + 1 + 1) (most - (n + 1))), [])
  cut_view me start n most within is = is ∙ ap (λ ps. (crew_view ps, [])) (crew_next start n most within)

  -- the seat that is cut off, and the crew that is left
  pub cut_off : (me single : Place S W C A) (start : Logged W C A) (n most : ℕ) → n < most → Left me start n most → single ≡ (first_of me.0, []) → single ≡ (outside (n + 1) start, [])
  cut_off me single start n most within is cut = cut ∙ ap (λ m. (first_of m.0, [])) (cut_view me start n most within is)

  pub left_over : (me rest : Place S W C A) (start : Logged W C A) (n most : ℕ) → n < most → Left me start n most → rest ≡ (rest_of me.0, me.1) → Left rest start (n + 1) most
  left_over me rest start n most within is cut = cut ∙ ap (λ m. (rest_of m.0, m.1)) (cut_view me start n most within is)

module _ {S W C A : Type 0} (answers : ℕ → W → C → A → W → Type 0) (slot_of : Logged W C A → ℕ → Option S) (word_of : ℕ → ℕ) (slots seats : ℕ) (first : W) where
  pub split_allowed : (id : ℕ) (me : Place S W C A) (start : Logged W C A) (n most : ℕ) → n < most → Left me start n most →
      Splits (IsKept answers slot_of word_of slots seats first) id me.0 (rest_of me.0) (first_of me.0)
  split_allowed id me start n most within is =
      let ps = crew start (n + 1 + 1) (most - (n + 1)) in
      let At : Place S W C A → Type 0 = λ m. Splits (IsKept answers slot_of word_of slots seats first) id m.0 (rest_of m.0) (first_of m.0) in
      subst At (sym (cut_view me start n most within is))
      (cut_allowed answers slot_of word_of slots seats first id (part (n + 1) start) ps (crew_others start (most - (n + 1)) (n + 1 + 1) (n + 1) (omega arith)))

-- ---- fresh seats

module _ {O C A : Type 0} where
  fresh_push : (id : TableId) (object : O) (from n : ℕ) →
      ◌≡◌ {A = List (Seated O C A)} (fresh_seats id object from (suc n)) (fresh_seats id object from n ++ fresh_seat id object (from + n) ∷ [])
  fresh_push id object from zero = let same : from ≡ from + 0 = omega arith in ap (λ k. fresh_seat id object k ∷ []) same
  fresh_push id object from (suc n) =
      let same : from + 1 + n ≡ from + suc n = omega arith in
      ap (λ xs. fresh_seat id object from ∷ xs) (fresh_push id object (from + 1) n)
      ∙ ap (λ k. fresh_seat id object from ∷ (fresh_seats id object (from + 1) n ++ fresh_seat id object k ∷ [])) same

  pub seat_is_fresh : (id other : TableId) (object : O) (number : ℕ) (seen start : Logged O C A) → other ≡ id → seen ≡ start → start ≡ fresh object →
      record { gate = other; number = number; seen = seen } ≡ fresh_seat id object number
  seat_is_fresh id other object number seen start its same is =
      ap (λ i. record { gate = i; number = number; seen = seen }) its ∙ ap (λ b. record { gate = id; number = number; seen = b }) (same ∙ is)

  pub one_more_fresh : (id : TableId) (object : O) (n : ℕ) (seats more : List (Seated O C A)) (seat : Seated O C A) → seats ≡ fresh_seats id object 1 n → more ≡ seats ++ seat ∷ [] →
      seat ≡ fresh_seat id object (n + 1) → more ≡ fresh_seats id object 1 (n + 1)
  one_more_fresh id object n seats more seat is pushed same =
      let last : n + 1 ≡ 1 + n = omega arith in
      let count : suc n ≡ n + 1 = omega arith in
      pushed ∙ ap (λ s. seats ++ s ∷ []) (same ∙ ap (λ k. fresh_seat id object k) last) ∙ ap (λ xs. xs ++ fresh_seat id object (1 + n) ∷ []) is
      ∙ sym (fresh_push id object 1 n) ∙ ap (λ k. fresh_seats id object 1 k) count

  pub all_fresh : (id : TableId) (object : O) (from n : ℕ) → All (λ (seat : Seated O C A). seat.gate ≡ id) (fresh_seats id object from n)
  all_fresh id object from zero = All-nil (λ (seat : Seated O C A). seat.gate ≡ id)
  all_fresh id object from (suc n) =
      All-cons (λ (seat : Seated O C A). seat.gate ≡ id) (fresh_seat id object from) (fresh_seats id object (from + 1) n) refl (all_fresh id object (from + 1) n)

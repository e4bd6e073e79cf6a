-- Slots that are brought to the front one after another.
use Rattle.std.specs.Prelude.{◌≡◌, ℕ, zero, suc, ◌+◌, ◌-◌, ◌<◌, List, [], ◌∷◌, ◌++◌, length, drop, slice_get, slice_set, Some}
use Rattle.std.proofs.Common.{refl, sym, ap, ◌∙◌, append-nil, append_assoc, arith}
use mathlib.Core.Option.{some-injective}
use lib.ListN.{get_elem?}
use Rattle.gate.specs.declared.objects.Entry.{Entry}
use Rattle.sharded_gate.specs.Shards.{LoggedShard, with_entry}
use Rattle.sharded_gate.specs.Hands.{AreFrom, turned_by, objects_of, logs_of, noted_first}

-- those before the place, the one there, and those behind
pub record IsSplit {S : Type 0} (slots : List (ℕ × S)) (place : ℕ) : Type 0 where
  pub before : List (ℕ × S)
  pub item : S
  pub later : List (ℕ × S)
  pub parts : slots ≡ before ++ (place, item) ∷ later
  pub long : length before ≡ place
  pub whole : length slots ≡ place + suc (length later)

module _ {S : Type 0} where
  split_from : (n k : ℕ) (xs : List (ℕ × S)) → AreFrom n xs → k < length xs →
      (before : List (ℕ × S)) × (item : S) × (later : List (ℕ × S)) × (xs ≡ before ++ (n + k, item) ∷ later) × (length before ≡ k) × (length xs ≡ k + suc (length later))
  split_from n k [] are low = absurd (omega (arith, low))
  split_from n zero (x ∷ xs) are low = let place : x.0 ≡ n + 0 = omega (arith, are.0) in ([], x.1, xs, ap (λ i. (i, x.1) ∷ xs) place, refl, omega arith)
  split_from n (suc k) (x ∷ xs) are low =
      let h = split_from (suc n) k xs are.1 (omega (arith, low)) in
      let place : suc n + k ≡ n + suc k = omega arith in
      (x ∷ h.0, h.1, h.2, ap (λ ys. x ∷ ys) (h.3 ∙ ap (λ i. h.0 ++ (i, h.1) ∷ h.2) place), ap suc h.4, omega (arith, h.5))

  pub is_split : (xs : List (ℕ × S)) (k : ℕ) → AreFrom 0 xs → k < length xs → IsSplit xs k
  is_split xs k are low =
      let h = split_from 0 k xs are low in
      let same : 0 + k ≡ k = omega arith in
      record { before = h.0; item = h.1; later = h.2; parts = h.3 ∙ ap (λ i. h.0 ++ (i, h.1) ∷ h.2) same; long = h.4; whole = h.5 }

  -- so many turns bring those behind them to the front
  turned_over : (xs ys : List (ℕ × S)) → turned_by (length xs) (xs ++ ys) ≡ ys ++ xs
  turned_over [] ys = sym (append-nil ys)
  turned_over (x ∷ xs) ys = ap (λ zs. turned_by (length xs) zs) (append_assoc xs ys (x ∷ [])) ∙ turned_over xs (ys ++ x ∷ []) ∙ append_assoc ys (x ∷ []) xs

  pub to_front : (xs : List (ℕ × S)) (k : ℕ) (split : IsSplit xs k) → turned_by k xs ≡ (k, split.item) ∷ (split.later ++ split.before)
  to_front xs k split =
      ap (λ zs. turned_by k zs) split.parts ∙ ap (λ n. turned_by n (split.before ++ (k, split.item) ∷ split.later)) (sym split.long)
      ∙ turned_over split.before ((k, split.item) ∷ split.later)

  -- as many turns as there are in all put each back to its place
  pub back_again : (xs : List (ℕ × S)) (k n : ℕ) (split : IsSplit xs k) (now : S) → n ≡ length xs → turned_by (n - k) ((k, now) ∷ (split.later ++ split.before)) ≡ split.before ++ (k, now) ∷
      split.later
  back_again xs k n split now whole =
      let times : n - k ≡ length ((k, now) ∷ split.later) = omega (arith, whole, split.whole) in
      ap (λ m. turned_by m ((k, now) ∷ (split.later ++ split.before))) times ∙ turned_over ((k, now) ∷ split.later) split.before

  pub still_from : (n : ℕ) (before : List (ℕ × S)) (k : ℕ) (was now : S) (later : List (ℕ × S)) → AreFrom n (before ++ (k, was) ∷ later) → AreFrom n (before ++ (k, now) ∷ later)
  still_from n [] k was now later are = are
  still_from n (x ∷ before) k was now later are = (are.0, still_from (suc n) before k was now later are.1)

module _ {O C A : Type 0} where
  pub objects_there : (before : List (ℕ × LoggedShard O C A)) (k : ℕ) (was : LoggedShard O C A) (later : List (ℕ × LoggedShard O C A)) →
      slice_get (objects_of (before ++ (k, was) ∷ later)) (length before) ≡ Some was.object
  objects_there [] k was later = refl
  objects_there (x ∷ before) k was later = objects_there before k was later

  pub objects_set : (before : List (ℕ × LoggedShard O C A)) (k : ℕ) (was now : LoggedShard O C A) (later : List (ℕ × LoggedShard O C A)) →
      objects_of (before ++ (k, now) ∷ later) ≡ slice_set (objects_of (before ++ (k, was) ∷ later)) (length before) now.object
  objects_set [] k was now later = refl
  objects_set (x ∷ before) k was now later = ap (λ os. x.1.object ∷ os) (objects_set before k was now later)

  pub logs_same : (before : List (ℕ × LoggedShard O C A)) (k : ℕ) (was now : LoggedShard O C A) (later : List (ℕ × LoggedShard O C A)) → now.log ≡ was.log →
      logs_of (before ++ (k, now) ∷ later) ≡ logs_of (before ++ (k, was) ∷ later)
  logs_same [] k was now later same = ap (λ l. l ∷ logs_of later) same
  logs_same (x ∷ before) k was now later same = ap (λ ls. x.1.log ∷ ls) (logs_same before k was now later same)

  -- the entry in one log more
  pub one_more_noted : (before : List (ℕ × LoggedShard O C A)) (k : ℕ) (was : LoggedShard O C A) (later start : List (ℕ × LoggedShard O C A)) (told : Entry C A) →
      noted_first (length before) told start ≡ before ++ (k, was) ∷ later → before ++ (k, with_entry was told) ∷ later ≡ noted_first (suc (length before)) told start
  one_more_noted [] k was later start told is = ap (λ xs. noted_first 1 told xs) (sym is)
  one_more_noted (y ∷ before) k was later [] told is = absurd (omega (arith, ap (λ xs. length xs) is))
  one_more_noted (y ∷ before) k was later (x ∷ start) told is =
      let tails : noted_first (length before) told start ≡ before ++ (k, was) ∷ later = ap (λ xs. drop 1 xs) is in
      let heads : (x.0, with_entry x.1 told) ≡ y = some-injective _ _ (ap (λ xs. get_elem? xs 0) is) in
      ap (λ zs. y ∷ zs) (one_more_noted before k was later start told tails) ∙ ap (λ z. z ∷ noted_first (suc (length before)) told start) (sym heads)

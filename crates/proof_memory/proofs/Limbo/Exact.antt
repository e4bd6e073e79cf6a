-- Limbo has exactly the slots in use to which nothing refers.
use Rattle.std.proofs.Common.{◌≡◌, ℕ, zero, suc, ◌+◌, ◌==◌, ◌&&◌, ◌||◌, Bool, true, not, cond, nat_lt, List, [], ◌∷◌, ◌++◌, map, filter, get_or, All, Contains, Option, Some, None}
use Rattle.std.proofs.Common.{refl, sym, ap, ◌∙◌, subst, ◌⊎◌, inl, inr, eqb-true, eq-eqb, arith}
use Rattle.std.specs.List.{list_any}
use Rattle.std.proofs.lemmas.Bool.{cond_both, cases_Bool, or_cases, or_left, or_right, and_from, false≢true, not_from_false}
use Rattle.std.proofs.lemmas.Option.{none-some, same_Some}
use Rattle.std.proofs.lemmas.List.Elements.{All-map, All-contains, Contains-append_left, Contains-append_right}
use Rattle.proof_memory.specs.Vocabulary.{ref_to, slot_of, birth_of, Ref, Slot, Heap, stored, named_from, in_use, count_of, Zeroed, is_zero, is_in, is_in_use, newly_zero, by_birth, limbo_after}
use Rattle.proof_memory.specs.Vocabulary.{State, outside}
use Rattle.proof_memory.specs.Beneath.epochs.specs.Limbo.{put_in}
use Rattle.proof_memory.specs.Laws.{IsInUse, IsZero}
use Rattle.proof_memory.proofs.Safety.States.{IsSafe, stands_in_use}
use Rattle.proof_memory.specs.Beneath.slot_arena.proofs.Live.{ref_again}
use Rattle.machine_model.proofs.Grown.{standing_parts}

-- ---- membership by test

abbrev has : List Ref → Ref → Bool
has rs r = list_any (λ q. q == r) rs

contains_has : (rs : List Ref) (r : Ref) → has rs r ≡ true → Contains rs r
contains_has [] r h = absurd (false≢true h)
contains_has (q ∷ rs) r h = elim (or_cases (q == r) (has rs r) h) [
  | inl here ↦ Contains-append_left (q ∷ []) rs r (zero, omega arith, eqb-true q r here)
  | inr later ↦ Contains-append_right (q ∷ []) rs r (contains_has rs r later)
]

has_append : (xs ys : List Ref) (r : Ref) → (has xs r ≡ true) ⊎ (has ys r ≡ true) → has (xs ++ ys) r ≡ true
has_append [] ys r (inl h) = absurd (false≢true h)
has_append [] ys r (inr h) = h
has_append (x ∷ xs) ys r (inl h) = elim (or_cases (x == r) (has xs r) h) [
  | inl here ↦ or_left _ _ here
  | inr later ↦ or_right _ _ (has_append xs ys r (inl later))
]
has_append (x ∷ xs) ys r (inr h) = or_right _ _ (has_append xs ys r (inr h))

has_filter : (p : Ref → Bool) (xs : List Ref) (r : Ref) → has xs r ≡ true → p r ≡ true → has (filter p xs) r ≡ true
has_filter p [] r h t = absurd (false≢true h)
has_filter p (x ∷ xs) r h t = elim (or_cases (x == r) (has xs r) h) [
  | inl here ↦ subst (λ b. has (cond b (x ∷ filter p xs) (filter p xs)) r ≡ true) (sym (ap p (eqb-true x r here) ∙ t)) (or_left _ _ here)
  | inr later ↦ cond_both (p x) _ _ (λ l. has l r ≡ true) (λ e. or_right _ _ (has_filter p xs r later t)) (λ e. has_filter p xs r later t)
]

has_put : (x : Ref) (xs : List Ref) (r : Ref) → (x == r || has xs r) ≡ true → has (put_in x xs) r ≡ true
has_put x [] r h = h
has_put x (q ∷ xs) r h = cond_both (nat_lt x q) _ _ (λ l. has l r ≡ true) (λ e. h) (λ e. elim (or_cases (x == r) (has (q ∷ xs) r) h) [
  | inl here ↦ or_right _ _ (has_put x xs r (or_left _ _ here))
  | inr later ↦ elim (or_cases (q == r) (has xs r) later) [
    | inl at_q ↦ or_left _ _ at_q
    | inr beyond ↦ or_right _ _ (has_put x xs r (or_right _ _ beyond))
  ]
])

has_sorted : (xs : List Ref) (r : Ref) → has xs r ≡ true → has (by_birth xs) r ≡ true
has_sorted [] r h = h
has_sorted (x ∷ xs) r h = has_put x (by_birth xs) r (elim (or_cases (x == r) (has xs r) h) [
  | inl here ↦ or_left _ _ here
  | inr later ↦ or_right _ _ (has_sorted xs r later)
])

-- the references of limbo
abbrev refs_in : List Zeroed → List Ref
refs_in limbo = map (λ z. z.at) limbo

refs_append : (xs ys : List Zeroed) → refs_in (xs ++ ys) ≡ refs_in xs ++ refs_in ys
refs_append [] ys = refl
refs_append (x ∷ xs) ys = ap (λ l. x.at ∷ l) (refs_append xs ys)

refs_now : (now : ℕ) (rs : List Ref) → refs_in (map (λ r. record { at = r; epoch = now }) rs) ≡ rs
refs_now now [] = refl
refs_now now (r ∷ rs) = ap (λ l. r ∷ l) (refs_now now rs)

-- what is in limbo and passes a test on its reference stays
has_kept : (p : Ref → Bool) (limbo : List Zeroed) (r : Ref) → is_in limbo r ≡ true → p r ≡ true → has (refs_in (filter (λ z. p z.at) limbo)) r ≡ true
has_kept p [] r h t = absurd (false≢true h)
has_kept p (z ∷ limbo) r h t = elim (or_cases (z.at == r) (is_in limbo r) h) [
  | inl here ↦ subst (λ b. has (refs_in (cond b (z ∷ filter (λ y. p y.at) limbo) (filter (λ y. p y.at) limbo))) r ≡ true) (sym (ap p (eqb-true z.at r here) ∙ t)) (or_left _ _ here)
  | inr later ↦ cond_both (p z.at) _ _ (λ l. has (refs_in l) r ≡ true) (λ e. or_right _ _ (has_kept p limbo r later t)) (λ e. has_kept p limbo r later t)
]

-- ---- slots in use

named_has : (n : ℕ) (slots : List (Option Slot)) (k : ℕ) (slot : Slot) → get_or slots k None ≡ Some slot → (r : Ref) → r ≡ ref_to slot.birth (n + k) → has (named_from n slots) r ≡ true
named_has n [] k slot e r is = absurd (none-some slot e)
named_has n (None ∷ slots) zero slot e r is = absurd (none-some slot e)
named_has n (Some first ∷ slots) zero slot e r is = or_left _ _ (eq-eqb (ref_to first.birth n) r (first_is first slot (same_Some _ _ e) is))
  where
    first_is : (first slot : Slot) → first ≡ slot → r ≡ ref_to slot.birth (n + zero) → ref_to first.birth n ≡ r
    first_is first slot same is = ap (λ (s : Slot). ref_to s.birth n) same ∙ ap (λ m. ref_to slot.birth m) nothing_more ∙ sym is
      where
        nothing_more : n ≡ n + zero
        nothing_more = omega arith
named_has n (None ∷ slots) (suc k) slot e r is = named_has (n + 1) slots k slot e r (is ∙ ap (λ m. ref_to slot.birth m) (later n k))
  where
    later : (n k : ℕ) → n + suc k ≡ n + 1 + k
    later n k = omega arith
named_has n (Some first ∷ slots) (suc k) slot e r is = or_right _ _ (named_has (n + 1) slots k slot e r (is ∙ ap (λ m. ref_to slot.birth m) (later n k)))
  where
    later : (n k : ℕ) → n + suc k ≡ n + 1 + k
    later n k = omega arith

used_has : (heap : Heap) (r : Ref) → IsInUse heap r → is_in_use heap r ≡ true
unfolding stored
used_has heap r (slot, e) =
    let (at_slot, its) = standing_parts heap r slot e in
    named_has 0 heap.slots (slot_of r) slot at_slot r (sum r slot.birth its)
  where
    sum : (r birth : ℕ) → birth ≡ birth_of r → r ≡ ref_to birth (0 + slot_of r)
    sum r birth its =
        let none_more : slot_of r ≡ 0 + slot_of r = omega arith in
        sym (ref_again r) ∙ ap (λ b. ref_to b (slot_of r)) (sym its) ∙ ap (λ k. ref_to birth k) none_more

-- ---- limbo after a step

module _ (heap : Heap) (outside : List Ref) (now : ℕ) (limbo : List Zeroed) (r : Ref) where
  zero_has : is_in_use heap r ≡ true → is_zero heap outside r ≡ true → has (refs_in (limbo_after heap outside now limbo)) r ≡ true
  zero_has used zeros =
      subst (λ rs. has rs r ≡ true) (sym (refs_append _ _))
      (has_append (refs_in (filter (λ z. is_in_use heap z.at && is_zero heap outside z.at) limbo)) _ r (elim (cases_Bool (is_in limbo r)) [
        | inl inside ↦ inl (has_kept (λ q. is_in_use heap q && is_zero heap outside q) limbo r inside (and_from _ _ used zeros))
        | inr out ↦ inr (subst (λ rs. has rs r ≡ true) (sym (refs_now now (newly_zero heap outside limbo)))
            (has_sorted (filter (λ q. is_zero heap outside q && not (is_in limbo q)) (in_use heap)) r
            (has_filter (λ q. is_zero heap outside q && not (is_in limbo q)) (in_use heap) r used (and_from _ _ zeros (not_from_false (is_in limbo r) out)))))
      ]))

pub zeros_stand : (state : State) → IsSafe state → All (λ z. IsZero state z.at) state.limbo
zeros_stand state I k d within =
    (stands_in_use state.heap (get_or state.limbo k d).at (I.sound.limbo k d within), eqb-true _ 0 (I.zeros k d within))

pub in_limbo_zero : (state : State) → IsSafe state → (r : Ref) → Contains (map (λ z. z.at) state.limbo) r → IsZero state r
in_limbo_zero state I r c = All-contains (IsZero state) (map (λ z. z.at) state.limbo) r (All-map (IsZero state) (λ z. z.at) state.limbo (zeros_stand state I)) c

-- what limbo has after a step
abbrev pub HasZeros : State → Type 0
HasZeros state = (r : Ref) → IsZero state r → Contains (map (λ z. z.at) state.limbo) r

pub zeros_in_limbo : (before after : State) → after.limbo ≡ limbo_after after.heap (outside after) after.epoch before.limbo → HasZeros after
zeros_in_limbo before after e r z =
    subst (λ l. Contains (map (λ z. z.at) l) r) (sym e)
    (contains_has _ r (zero_has after.heap (outside after) after.epoch before.limbo r (used_has after.heap r z.0) (eq-eqb (count_of after.heap (outside after) r) 0 z.1)))

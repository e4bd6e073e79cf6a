-- All elements of a list but that at one position, as they come one after the other.
use Rattle.std.proofs.Common.{◌≡◌, ◌≢◌, ◌+◌, ◌-◌, ◌<◌, ◌≤◌, ◌⊎◌, ◌==◌, ◌++◌, ◌∷◌, [], inl, inr, ℕ, suc, List, Contains, Option, Some, None, cond}
use Rattle.std.proofs.Common.{drop, get_or, length, remove, take, refl, sym, ap, subst, ◌∙◌, arith}
use Rattle.std.proofs.Math.Seq.{take-suc}
use Rattle.std.proofs.lemmas.Bool.{cases_eq, cases_lt}
use Rattle.std.proofs.lemmas.List.{append-nil, append_assoc, drop_all, length-take-le, take-append-drop, take_all}
use Rattle.std.proofs.lemmas.List.Edits.{remove-append_left, remove-append_right}
use Rattle.std.proofs.lemmas.List.Sums.{sum_by-append}
use Rattle.std.proofs.lemmas.Option.{same_Some}
use Rattle.machine_model.specs.Beneath.slot_arena.specs.declared.refs.Ref.{Ref}
use Rattle.lock_free.specs.Counts.{how_often}
use Rattle.lock_free.specs.Raising.{all_but}
use Rattle.lock_free.proofs.ClaimsThere.{often_has}
use Rattle.lock_free.proofs.CountsStay.{often_first}

remove_none : {X : Type 0} → (xs : List X) (i : ℕ) → length xs ≤ i → remove xs i ≡ xs
remove_none xs i most = ap (λ ys. ys ++ drop (suc i) xs) (take_all i xs most) ∙ ap (λ ys. xs ++ ys) (drop_all (suc i) xs (omega (arith, most))) ∙ append-nil xs

-- ---- one more

-- it is left out
pub but_that : {X : Type 0} → (but : Option ℕ) (xs : List X) (y : X) → but ≡ Some (length xs) → all_but but (xs ++ y ∷ []) ≡ all_but but xs
but_that {X} but xs y is =
    let none : length xs - length xs ≡ 0 = omega arith in
    ap (λ b. all_but b (xs ++ y ∷ [])) is ∙ remove-append_right xs (y ∷ []) (length xs) (length xs) refl (omega arith)
    ∙ ap (λ n. xs ++ remove (y ∷ []) n) none ∙ append-nil xs ∙ sym (remove_none xs (length xs) (omega arith)) ∙ sym (ap (λ b. all_but b xs) is)

-- or not
pub but_more : {X : Type 0} → (but : Option ℕ) (xs : List X) (y : X) → but ≢ Some (length xs) → all_but but (xs ++ y ∷ []) ≡ all_but but xs ++ y ∷ []
but_more None xs y other = refl
but_more (Some p) xs y other = elim (cases_lt p (length xs)) [
  | inl low ↦ remove-append_left xs (y ∷ []) p low
  | inr high ↦
      (let above : length xs < p = omega (arith, high, λ (e : p ≡ length xs). other (ap Some e)) in
      remove-append_right xs (y ∷ []) (length xs) p refl high ∙ ap (λ ys. xs ++ ys) (remove_none (y ∷ []) (p - length xs) (omega (arith, above))) ∙ ap (λ ys. ys ++ y ∷ [])
      (sym (remove_none xs p high)))
]

-- ---- how often each is there

often_more : (k : Ref) (xs : List Ref) (y : Ref) → how_often k (xs ++ y ∷ []) ≡ how_often k xs + how_often k (y ∷ [])
often_more k xs y = sum_by-append (λ (m : ℕ). cond (m == k) 1 0) xs (y ∷ [])

some_more : (but : Option ℕ) (k : Ref) (xs : List Ref) (y : Ref) → how_often k (all_but but xs) ≤ how_often k (all_but but (xs ++ y ∷ []))
some_more but k xs y = elim (but_cases but xs y) [
  | inl more ↦ (let all = ap (how_often k) more ∙ often_more k (all_but but xs) y in omega (arith, all))
  | inr same ↦ (let all = ap (how_often k) same in omega (arith, all))
]
  where
    but_cases : (b : Option ℕ) (ys : List Ref) (z : Ref) → (all_but b (ys ++ z ∷ []) ≡ all_but b ys ++ z ∷ []) ⊎ (all_but b (ys ++ z ∷ []) ≡ all_but b ys)
    but_cases None ys z = inl refl
    but_cases (Some p) ys z = elim (cases_eq p (length ys)) [
      | inl same ↦ inr (but_that (Some p) ys z (ap Some same))
      | inr differs ↦ inl (but_more (Some p) ys z (λ e. differs (same_Some p (length ys) e)))
    ]

pub more_often : (but : Option ℕ) (k : Ref) (xs ys : List Ref) → how_often k (all_but but xs) ≤ how_often k (all_but but (xs ++ ys))
more_often but k xs [] = let same = ap (λ zs. how_often k (all_but but zs)) (append-nil xs) in omega (arith, same)
more_often but k xs (y ∷ ys) =
    let first = some_more but k xs y in
    let rest = more_often but k (xs ++ y ∷ []) ys in
    let same = ap (λ zs. how_often k (all_but but zs)) (append_assoc xs (y ∷ []) ys) in
    omega (arith, first, rest, same)

-- ---- up to a position

module _ (but : Option ℕ) (refs : List Ref) (n : ℕ) (low : n < length refs) (d : Ref) where
  abbrev it : Ref
  it = get_or refs n d

  next_is : take (n + 1) refs ≡ take n refs ++ it ∷ []
  next_is = let same : suc n ≡ n + 1 = omega arith in subst (λ m. take m refs ≡ take n refs ++ it ∷ []) same (take-suc refs n d low)

  here : length (take n refs) ≡ n
  here = length-take-le n refs (omega (arith, low))

  pub next_out : but ≡ Some n → all_but but (take (n + 1) refs) ≡ all_but but (take n refs)
  next_out is = ap (all_but but) next_is ∙ but_that but (take n refs) it (is ∙ ap Some (sym here))

  pub next_more : but ≢ Some n → all_but but (take (n + 1) refs) ≡ all_but but (take n refs) ++ it ∷ []
  next_more other = ap (all_but but) next_is ∙ but_more but (take n refs) it (λ e. other (e ∙ ap Some here))

  pub often_next : but ≢ Some n → (k : Ref) → how_often k (all_but but (take (n + 1) refs)) ≡ how_often k (all_but but (take n refs)) + how_often k (it ∷ [])
  often_next other k = ap (how_often k) (next_more other) ∙ often_more k (all_but but (take n refs)) it

  -- it is among them
  pub next_there : but ≢ Some n → (how_often it (all_but but (take n refs)) + 1 ≤ how_often it (all_but but refs)) × Contains (all_but but refs) it
  next_there other = (many, often_has it (all_but but refs) (omega (arith, many)))
    where
      many : how_often it (all_but but (take n refs)) + 1 ≤ how_often it (all_but but refs)
      many =
          let next = often_next other it in
          let first = often_first it [] in
          let all = more_often but it (take (n + 1) refs) (drop (n + 1) refs) in
          let same = ap (λ zs. how_often it (all_but but zs)) (take-append-drop (n + 1) refs) in
          omega (arith, next, first, all, same)

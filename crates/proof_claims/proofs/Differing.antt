-- Lists in which nothing stands twice, and how often something stands in them.
use Rattle.std.proofs.Common.{◌≡◌, ◌⊎◌, inl, inr, ℕ, Bool, true, false, List, [], ◌∷◌, ◌++◌, Contains, flat_map, count_by, get_or, cond, arith, refl, sym, ap, subst, ◌∙◌}
use Rattle.std.proofs.lemmas.Bool.{true≢false}
use Rattle.std.proofs.lemmas.List.Concat.{flat_map-cons}
use Rattle.std.proofs.lemmas.List.Sums.{sum_by-append, sum_by-cons}
use Rattle.std.proofs.lemmas.List.Elements.{Contains-append_cases, Contains-append_left, Contains-append_right, Contains-push}
use Rattle.proof_claims.specs.Different.{AreDifferent}

only_one : {A : Type 0} (x y : A) → Contains (x ∷ []) y → x ≡ y
only_one x y (i, within, at_i) = let zero_is : i ≡ 0 = omega arith in subst (λ k. get_or (x ∷ []) k y ≡ y) zero_is at_i

pub nothing_in : {A P : Type 0} (y : A) → Contains [] y → P
nothing_in y (i, within, at_i) = absurd (omega arith)

-- it is the first or stands after it
pub in_cons : {A : Type 0} (x : A) (xs : List A) (y : A) → Contains (x ∷ xs) y → (x ≡ y) ⊎ Contains xs y
in_cons x xs y c = elim (Contains-append_cases (x ∷ []) xs y c) [ inl first ↦ inl (only_one x y first) | inr rest ↦ inr rest ]

pub first_in : {A : Type 0} (x : A) (xs : List A) → Contains (x ∷ xs) x
first_in x xs = Contains-append_left (x ∷ []) xs x (Contains-push [] x)

pub later_in : {A : Type 0} (x : A) (xs : List A) (y : A) → Contains xs y → Contains (x ∷ xs) y
later_in x xs y c = Contains-append_right (x ∷ []) xs y c

-- what stands in the whole comes from one of its parts
pub from_flat : {A B : Type 0} (f : A → List B) (xs : List A) (y : B) → Contains (flat_map f xs) y → (x : A) × Contains xs x × Contains (f x) y
from_flat f [] y c = nothing_in y c
from_flat f (x ∷ xs) y c = elim (Contains-append_cases (f x) (flat_map f xs) y (subst (λ l. Contains l y) (flat_map-cons f x xs) c)) [
  | inl here ↦ (x, first_in x xs, here)
  | inr there ↦ let (z, stands, part) = from_flat f xs y there in (z, later_in x xs z stands, part)
]

pub different_append : {A : Type 0} (xs ys : List A) → AreDifferent xs → AreDifferent ys → ((y : A) → Contains xs y → Contains ys y → ⊥) → AreDifferent (xs ++ ys)
different_append [] ys d e apart = e
different_append (x ∷ xs) ys d e apart = (
  λ c. elim (Contains-append_cases xs ys x c) [ inl again ↦ d.0 again | inr there ↦ apart x (first_in x xs) there ],
  different_append xs ys d.1 e (λ y c e'. apart y (later_in x xs y c) e'),
)

-- parts with one element at most, which are apart for different elements
module _ {A B : Type 0} (f : A → List B) (alone : (x : A) → AreDifferent (f x)) where
  pub different_flat : (xs : List A) → AreDifferent xs → ((x y : A) (z : B) → Contains xs x → Contains xs y → Contains (f x) z → Contains (f y) z → x ≡ y) → AreDifferent (flat_map f xs)
  different_flat [] d one = tt
  different_flat (x ∷ xs) d one =
      subst (λ l. AreDifferent l) (sym (flat_map-cons f x xs))
      (different_append (f x) (flat_map f xs) (alone x) (different_flat xs d.1 (λ a b z c e p q. one a b z (later_in x xs a c) (later_in x xs b e) p q))
      (λ z p q. let (y, stands, part) = from_flat f xs z q in d.0 (subst (Contains xs) (sym (one x y z (first_in x xs) (later_in x xs y stands) p part)) stands)))

-- ---- how often

module _ {A : Type 0} (p : A → Bool) where
  abbrev of_one : A → ℕ
  of_one x = cond (p x) 1 0

  -- none of them is so
  pub count_none : (xs : List A) → ((x : A) → Contains xs x → p x ≡ false) → count_by p xs ≡ 0
  count_none [] none = refl
  count_none (x ∷ xs) none =
      let whole = sum_by-cons of_one x xs in
      let here : of_one x ≡ 0 = ap (λ b. cond {A = ℕ} b 1 0) (none x (first_in x xs)) in
      let rest = count_none xs (λ y c. none y (later_in x xs y c)) in
      omega (arith, whole, here, rest)

  -- one of them alone is so
  pub count_one : (xs : List A) → AreDifferent xs → (x : A) → Contains xs x → p x ≡ true → ((y : A) → Contains xs y → p y ≡ true → y ≡ x) → count_by p xs ≡ 1
  count_one [] d x c is only = nothing_in x c
  count_one (y ∷ ys) d x c is only = by (λ c. count_one ys d.1 x c is (λ z e is_z. only z (later_in y ys z e) is_z)) (p y) refl
    where
      rest_none : y ≡ x → (z : A) → Contains ys z → (b : Bool) → p z ≡ b → p z ≡ false
      rest_none same z e false is_z = is_z
      rest_none same z e true is_z = absurd (d.0 (subst (Contains ys) (only z (later_in y ys z e) is_z ∙ sym same) e))

      in_rest : (p y ≡ false) → Contains ys x
      in_rest isnt = elim (in_cons y ys x c) [ inl same ↦ absurd (true≢false (sym is ∙ ap p (sym same) ∙ isnt)) | inr there ↦ there ]

      by : (Contains ys x → count_by p ys ≡ 1) → (b : Bool) → p y ≡ b → count_by p (y ∷ ys) ≡ 1
      by rest true is_so =
          let whole = sum_by-cons of_one y ys in
          let here : of_one y ≡ 1 = ap (λ b. cond {A = ℕ} b 1 0) is_so in
          let none = count_none ys (λ z e. rest_none (only y (first_in y ys) is_so) z e (p z) refl) in
          omega (arith, whole, here, none)
      by rest false isnt =
          let whole = sum_by-cons of_one y ys in
          let here : of_one y ≡ 0 = ap (λ b. cond {A = ℕ} b 1 0) isnt in
          let one = rest (in_rest isnt) in
          omega (arith, whole, here, one)

-- what stands in a list as often as in the parts
pub count_flat : {A B : Type 0} (p : B → Bool) (f : A → List B) (q : A → Bool) → ((x : A) → count_by p (f x) ≡ cond (q x) 1 0) → (xs : List A) → count_by p (flat_map f xs) ≡ count_by q xs
count_flat p f q each [] = refl
count_flat p f q each (x ∷ xs) =
    let parts = ap (count_by p) (flat_map-cons f x xs) ∙ sum_by-append (λ y. cond (p y) 1 0) (f x) (flat_map f xs) in
    let whole = sum_by-cons (λ y. cond (q y) 1 0) x xs in
    let here = each x in
    let rest = count_flat p f q each xs in
    omega (arith, parts, whole, here, rest)

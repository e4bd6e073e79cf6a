-- Parts that are taken of lists, up to so many in all.
use Rattle.std.proofs.Common.{◌≡◌, ℕ, zero, suc, ◌-◌, ◌<◌, ◌≤◌, true, List, [], ◌∷◌, ◌++◌, length, take, arith, refl, sym, ap, ◌∙◌, append-nil, append_assoc}
use Rattle.std.specs.List.{filter}
use Rattle.std.proofs.lemmas.List.{length-append}

-- what was taken, and the first of these behind it, until there are so many
abbrev pub taken_with : {A : Type 0} → ℕ → List A → List A → List A
taken_with room taken xs = taken ++ take (room - length taken) xs

take_nothing : {A : Type 0} (n : ℕ) → take {A = A} n [] ≡ []
take_nothing zero = refl
take_nothing (suc n) = refl

take_on : {A : Type 0} (n : ℕ) (xs ys : List A) → take n (xs ++ ys) ≡ take n xs ++ take (n - length (take n xs)) ys
take_on zero xs ys = refl
take_on (suc n) [] ys = let all : suc n ≡ suc n - 0 = omega arith in ap (λ k. take k ys) all
take_on (suc n) (x ∷ xs) ys =
    let left : n - length (take n xs) ≡ suc n - suc (length (take n xs)) = omega arith in
    ap (λ zs. x ∷ zs) (take_on n xs ys) ∙ ap (λ k. x ∷ take n xs ++ take k ys) left

-- nothing more
pub taken_nothing : {A : Type 0} (room : ℕ) (taken : List A) → taken_with room taken [] ≡ taken
taken_nothing room taken = ap (λ zs. taken ++ zs) (take_nothing (room - length taken)) ∙ append-nil taken

-- enough is taken
pub taken_enough : {A : Type 0} (room : ℕ) (taken xs : List A) → room ≤ length taken → taken_with room taken xs ≡ taken
taken_enough room taken xs enough =
    let none : room - length taken ≡ 0 = omega (arith, enough) in
    ap (λ n. taken ++ take n xs) none ∙ append-nil taken

-- one more
pub taken_one : {A : Type 0} (room : ℕ) (taken : List A) (x : A) → length taken < room → taken_with room taken (x ∷ []) ≡ taken ++ x ∷ []
taken_one room taken x few =
    let some : room - length taken ≡ suc (room - length taken - 1) = omega (arith, few) in
    ap (λ n. taken ++ take n (x ∷ [])) some ∙ ap (λ zs. taken ++ x ∷ zs) (take_nothing (room - length taken - 1))

-- one list behind another
pub taken_on : {A : Type 0} (room : ℕ) (taken xs ys : List A) → taken_with room (taken_with room taken xs) ys ≡ taken_with room taken (xs ++ ys)
taken_on room taken xs ys =
    let n = room - length taken in
    let long = length-append taken (take n xs) in
    let left : room - length (taken ++ take n xs) ≡ n - length (take n xs) = omega (arith, long) in
    ap (λ k. (taken ++ take n xs) ++ take k ys) left ∙ append_assoc taken (take n xs) (take (n - length (take n xs)) ys) ∙ ap (λ zs. taken ++ zs) (sym (take_on n xs ys))

-- what passes a test that all pass
pub filter_all : {A : Type 0} (xs : List A) → filter (λ x. true) xs ≡ xs
filter_all [] = refl
filter_all (x ∷ xs) = ap (λ zs. x ∷ zs) (filter_all xs)

-- A list that is kept with its first element last.
use Rattle.std.specs.Prelude.{◌≡◌, ◌-◌, ◌++◌, List, [], ◌∷◌, reverse, length, slice_index_or, Option, Some, None, option_to_list, refl}
use Rattle.std.proofs.Common.{arith, sym, ap, ◌∙◌, get_or}
use Rattle.std.proofs.lemmas.List.{reverse-append, get_or-reverse}
use Rattle.snapshot.specs.Vocabulary.{Ref, first_of, rest_of}

first_or : (ys : List Ref) → get_or ys 0 0 ≡ first_of ys
first_or [] = refl
first_or (y ∷ ys) = refl

-- the first one is the last
pub first_is : (xs : List Ref) → slice_index_or xs (length xs - 1) 0 ≡ first_of (reverse xs)
first_is [] = refl
first_is (x ∷ xs) =
    let here : length (x ∷ xs) - 1 ≡ length (x ∷ xs) - 1 - 0 = omega arith in
    ap (λ k. get_or (x ∷ xs) k 0) here ∙ sym (get_or-reverse (x ∷ xs) 0 0 (omega arith)) ∙ first_or (reverse (x ∷ xs))

-- without the last one the first one is away
pub popped : (xs ys : List Ref) (r : Option Ref) → xs ≡ ys ++ option_to_list r → (r ≡ None → length xs ≡ 0) → reverse ys ≡ rest_of (reverse xs)
popped xs ys (Some r) is none = ap rest_of (sym (reverse-append ys (r ∷ [])) ∙ sym (ap reverse is))
popped xs [] None is none = ap (λ l. rest_of (reverse l)) (sym is)
popped xs (y ∷ ys) None is none = absurd (omega (arith, none refl, ap length is))

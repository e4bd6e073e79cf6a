-- The first pair that is reached.
use Rattle.std.proofs.Common.{◌≡◌, ℕ, ◌+◌, ◌<◌, ◌≤◌, List, [], ◌∷◌, ◌++◌, Some, None, length, drop, get_or, arith, ap, refl, ◌∙◌}
use Rattle.std.specs.List.{flat_map}
use Rattle.proof_core.specs.Vocabulary.{by_key, comes_before, Ref}
use Rattle.proof_core.specs.Reading.{IsOneOf, first_of}
use Rattle.proof_core.proofs.Sorted.{put_has}
use Rattle.proof_core.proofs.Gathering.{none_below, some_below, gather_more, gather_none}

first_here : {A : Type 0} (xs ys : List A) (x : A) → first_of xs ≡ Some x → first_of (xs ++ ys) ≡ Some x
first_here [] ys x e = cc e
first_here (y ∷ xs) ys x e = e

first_behind : {A : Type 0} (xs ys : List A) → first_of xs ≡ None → first_of (xs ++ ys) ≡ first_of ys
first_behind [] ys e = refl
first_behind (y ∷ xs) ys e = cc e

-- the first one is below this entry
pub pick_found : (f : Ref → List (ℕ × ℕ)) (es : List Ref) (i : ℕ) (d : Ref) (pair : ℕ × ℕ) → i < length es → first_of (f (get_or es i d)) ≡ Some pair →
    first_of (flat_map f (drop i es)) ≡ Some pair
pick_found f es i d pair within found = ap first_of (gather_more f es i d within) ∙ first_here (f (get_or es i d)) (flat_map f (drop (i + 1) es)) pair found

-- or below a later one
pub pick_later : (f : Ref → List (ℕ × ℕ)) (es : List Ref) (i : ℕ) (d : Ref) → i < length es → first_of (f (get_or es i d)) ≡ None →
    first_of (flat_map f (drop i es)) ≡ first_of (flat_map f (drop (i + 1) es))
pick_later f es i d within none = ap first_of (gather_more f es i d within) ∙ first_behind (f (get_or es i d)) (flat_map f (drop (i + 1) es)) none

-- or below none
pub pick_none : (f : Ref → List (ℕ × ℕ)) (es : List Ref) (i : ℕ) → length es ≤ i → first_of (flat_map f (drop i es)) ≡ None
pick_none f es i past = ap first_of (gather_none f es i past)

-- ---- it is one of the sorted ones

pub one_of : (pairs : List (ℕ × ℕ)) → IsOneOf (by_key pairs) (first_of pairs)
one_of [] = refl
one_of (pair ∷ pairs) = put_has comes_before pair (by_key pairs)

pub ruleset picked = (arith, none_below, some_below, pick_found, pick_later, pick_none)

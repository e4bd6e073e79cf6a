-- Lists of references, of which a node takes the first ones.
use Rattle.std.specs.Prelude.{◌≡◌, Bool, true, false, ℕ, zero, suc, ◌+◌, ◌-◌, ◌<◌, List, [], ◌∷◌, ◌++◌, length, take, drop, min, refl, slice_set, remove}
use Rattle.std.proofs.Common.{arith, ap, sym, ◌∙◌, length-drop}
use Rattle.std.proofs.lemmas.List.{take_min, take_all, append-nil, append_assoc, set_split}
use Rattle.std.proofs.Math.Seq.{take-append-add}
use Rattle.std.proofs.Math.Nat.{add_comm}
use Rattle.trie_parts.specs.Beneath.slot_arena.specs.declared.nodes.Node.TheVariants.{Branch}
use Rattle.nodes.specs.Builders.{renewed, contracted}

-- where room for r more is left, the first r of what is added
pub filled : {X : Type 0} (n r : ℕ) (xs ys : List X) → r + length xs ≡ n → xs ++ take (min r (length ys)) ys ≡ take n (xs ++ ys)
filled n r xs ys whole =
    ap (λ zs. xs ++ zs) (take_min r ys) ∙ sym (take-append-add xs ys r) ∙ ap (λ k. take k (xs ++ ys)) (add_comm (length xs) r ∙ whole)

-- what the first n leave out stays out
pub capped : {X : Type 0} (n : ℕ) (xs ys : List X) → take n (take n xs ++ ys) ≡ take n (xs ++ ys)
capped zero xs ys = refl
capped (suc n) [] ys = refl
capped (suc n) (x ∷ xs) ys = ap (λ zs. x ∷ zs) (capped n xs ys)

-- of three lists
pub capped_both : {X : Type 0} (n : ℕ) (xs ys zs : List X) → take n (take n (take n xs ++ ys) ++ zs) ≡ take n (xs ++ ys ++ zs)
capped_both n xs ys zs =
    capped n (take n xs ++ ys) zs ∙ ap (take n) (append_assoc (take n xs) ys zs) ∙ capped n xs (ys ++ zs) ∙ ap (take n) (sym (append_assoc xs ys zs))

-- the part of a list from a position on
behind : {X : Type 0} (xs : List X) (i : ℕ) → take (length xs - i) (drop i xs) ≡ drop i xs
behind xs i = take_all (length xs - i) (drop i xs) (omega (arith, length-drop i xs))

-- another element at a position, in three parts
pub set_parts : {X : Type 0} (xs : List X) (i : ℕ) (y : X) → i < length xs → take i xs ++ y ∷ [] ++ take (length xs - (i + 1)) (drop (i + 1) xs) ≡ slice_set xs i y
set_parts xs i y inside = grind (arith, behind xs (i + 1), set_split xs i y inside, append_assoc (take i xs) (y ∷ []) (drop (i + 1) xs))

-- without a position, in three parts
pub remove_parts : {X : Type 0} (xs : List X) (i : ℕ) → take i xs ++ [] ++ take (length xs - (i + 1)) (drop (i + 1) xs) ≡ remove xs i
remove_parts xs i = grind (arith, behind xs (i + 1), append-nil (take i xs))

-- to leave out twice what is behind the first n is to leave it out once
capped_again : {X : Type 0} (n : ℕ) (xs : List X) → take n (take n xs) ≡ take n xs
capped_again zero xs = refl
capped_again (suc n) [] = refl
capped_again (suc n) (x ∷ xs) = ap (λ zs. x ∷ zs) (capped_again n xs)

-- the branch of entries takes the first 32, also where these alone are given
renewed_capped : (bitmap : ℕ) (rs : List ℕ) → renewed bitmap (take 32 rs) ≡ renewed bitmap rs
renewed_capped bitmap rs = ap (λ es. Branch bitmap (record { items = es })) (capped_again 32 rs)

-- the same where a tomb may be made
pub contracted_capped : (may_entomb : Bool) (bitmap : ℕ) (rs : List ℕ) → contracted may_entomb bitmap (take 32 rs) ≡ contracted may_entomb bitmap rs
contracted_capped false bitmap rs = renewed_capped bitmap rs
contracted_capped true bitmap [] = refl
contracted_capped true bitmap (r ∷ []) = refl
contracted_capped true bitmap (r ∷ q ∷ rs) = renewed_capped bitmap (r ∷ q ∷ rs)

-- The paths of two hashes: alike to a depth, and one level deeper where their indices are.
use Rattle.std.proofs.Common.{◌≡◌, ℕ, zero, suc, ◌+◌, ◌*◌, ◌%◌, ◌^◌, ◌<◌, ◌≤◌, sym, ap, ap₂, subst, ◌∙◌, arith, pow_pos, mod-lt, mod-eq_of_lt}
use Rattle.std.proofs.lemmas.Nat.{mod-pow-add, mod-mul-add}
use Rattle.proof_shape.specs.Vocabulary.{index_in, HashKind, Ref}
use Rattle.proof_shape.specs.Sites.Nodes.{path_to, depth_at}
use Rattle.proof_shape.specs.Sites.Lines.{Sites, IsOnWay}

-- a path is that to the level above, and the index there
pub path_parts : (h d : ℕ) → path_to h (suc d) ≡ index_in h d * 2 ^ (5 * d) + path_to h d
path_parts h d = let five : 5 * suc d ≡ 5 + 5 * d = omega arith in ap (λ n. h % 2 ^ n) five ∙ mod-pow-add h 5 (5 * d)

pub path_longer : (a b d : ℕ) → path_to a d ≡ path_to b d → index_in a d ≡ index_in b d → path_to a (suc d) ≡ path_to b (suc d)
path_longer a b d same at = path_parts a d ∙ ap₂ (λ x y. x * 2 ^ (5 * d) + y) at same ∙ sym (path_parts b d)

pub path_shorter : (a b d : ℕ) → path_to a (suc d) ≡ path_to b (suc d) → path_to a d ≡ path_to b d
path_shorter a b d same =
    sym (mod-mul-add (index_in a d) (2 ^ (5 * d)) (path_to a d) (mod-lt a (pow_pos (5 * d)))) ∙ ap (λ n. n % 2 ^ (5 * d)) (sym (path_parts a d) ∙ same ∙ path_parts b d)
    ∙ mod-mul-add (index_in b d) (2 ^ (5 * d)) (path_to b d) (mod-lt b (pow_pos (5 * d)))

-- so many levels deeper
pub path_alike : (a b d n : ℕ) → path_to a d ≡ path_to b d → ((e : ℕ) → d ≤ e → e < d + n → index_in a e ≡ index_in b e) → path_to a (d + n) ≡ path_to b (d + n)
path_alike a b d zero same alike = let none : d ≡ d + zero = omega arith in subst (λ e. path_to a e ≡ path_to b e) none same
path_alike a b d (suc n) same alike =
    let one_more : suc (d + n) ≡ d + suc n = omega arith in
    subst (λ e. path_to a e ≡ path_to b e) one_more
    (path_longer a b (d + n) (path_alike a b d n same (λ e le lt. alike e le (omega arith))) (alike (d + n) (omega arith) (omega arith)))

pub path_fits : (h d : ℕ) → path_to h d < 2 ^ (5 * d)
path_fits h d = mod-lt h (pow_pos (5 * d))

-- a path is its own
pub path_again : (p d : ℕ) → p < 2 ^ (5 * d) → path_to p d ≡ p
path_again p d lt = mod-eq_of_lt lt

-- what stands at a hash's path at its level is on the way to it
pub on_way : (s : Sites) (kind : HashKind) (hash depth : ℕ) (r : Ref) → s.path r ≡ path_to hash (depth_at (depth + 1)) → IsOnWay kind s hash depth r
on_way s kind hash depth r e = let here : depth_at (depth + 1) ≡ depth = omega arith in e ∙ ap (path_to hash) here

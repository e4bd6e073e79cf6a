-- How often references stand in root words and private lists, when one of them changes.
use Rattle.std.proofs.Common.{◌≡◌, ℕ, zero, suc, ◌+◌, ◌*◌, ◌<◌, ◌≤◌, List, [], ◌∷◌, length, get_or, flat_map, Option, ap, arith}
use Rattle.std.proofs.lemmas.List.Concat.{flat_map-cons}
use Rattle.machine_core.specs.Vocabulary.{Ref, times, Root, refs_of_root}
use Rattle.slot_arena.proofs.Times.{times-append, times_le}
use Rattle.machine_core.specs.Beneath.rdcss_root.proofs.Rewriting.{few_of_root, times_set}

-- ---- lists of lists

-- one of them has no more than all
pub times_part : {X : Type 0} (r : Ref) (f : X → List Ref) (xs : List X) (i : ℕ) (d none : X) → f none ≡ [] → i < length xs → times r (f (get_or xs i d)) ≤ times r (flat_map f xs)
times_part r f xs i d none empty within = let gone : times r (f none) ≡ 0 = ap (times r) empty in omega (arith, times_set r f xs i none d within)

-- where each has few, all have not many
pub times_most : {X : Type 0} (r : Ref) (f : X → List Ref) (xs : List X) (d : X) (most : ℕ) → ((i : ℕ) → times r (f (get_or xs i d)) ≤ most) →
    times r (flat_map f xs) ≤ most * length xs
times_most r f [] d most few = omega arith
times_most r f (x ∷ xs) d most few =
    omega (arith, ap (times r) (flat_map-cons f x xs), times-append r (f x) (flat_map f xs), few zero, times_most r f xs d most (λ i. few (suc i)), one_more most (length xs))
  where
    one_more : (a b : ℕ) → a * suc b ≡ a + a * b
    one_more a b = grind arith

-- ---- root words

pub root_few : (r : Ref) (root : Option Root) → times r (refs_of_root root) ≤ 4
root_few r root = omega (arith, times_le r (refs_of_root root), few_of_root root)

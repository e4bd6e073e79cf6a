-- Counting pairs.
use Rattle.std.proofs.Common.{◌≡◌, ℕ, ◌+◌, ◌<◌, ◌≤◌, List, length, drop, get_or, arith, ap, ◌∙◌}
use Rattle.std.specs.List.{flat_map}
use Rattle.std.proofs.lemmas.List.{length-append}
use Rattle.proof_core.specs.Vocabulary.{Ref}
use Rattle.proof_core.proofs.Gathering.{none_below, some_below, gather_more, gather_none}

-- the pairs of what is left of the entries, one step on
pub count_more : (f : Ref → List (ℕ × ℕ)) (es : List Ref) (i : ℕ) (d : Ref) → i < length es →
    length (flat_map f (drop i es)) ≡ length (f (get_or es i d)) + length (flat_map f (drop (i + 1) es))
count_more f es i d within = ap length (gather_more f es i d within) ∙ length-append (f (get_or es i d)) (flat_map f (drop (i + 1) es))

-- and at the end
pub count_none : (f : Ref → List (ℕ × ℕ)) (es : List Ref) (i : ℕ) → length es ≤ i → length (flat_map f (drop i es)) ≡ 0
count_none f es i past = ap length (gather_none f es i past)

pub ruleset counted = (arith, none_below, some_below, count_more, count_none)

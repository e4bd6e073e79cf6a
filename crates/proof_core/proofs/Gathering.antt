-- Gathering pairs.
use Rattle.std.proofs.Common.{◌≡◌, ℕ, zero, suc, ◌+◌, ◌-◌, ◌<◌, ◌≤◌, List, [], ◌++◌, length, drop, get_or, arith, refl, ap, append-nil, append_assoc}
use Rattle.std.specs.List.{flat_map}
use Rattle.std.proofs.lemmas.List.{at_drop_more, at_drop_all}
use Rattle.proof_core.specs.Vocabulary.{Ref, Heap, node_at, pairs_at, pairs_below}

-- within no level nothing is reached
pub none_below : (heap : Heap) (r : Ref) → pairs_below 0 heap r ≡ []
unfolding pairs_below
none_below heap r = refl

-- within one level more
pub some_below : (levels : ℕ) (heap : Heap) (r : Ref) → 0 < levels → pairs_below levels heap r ≡ pairs_at (pairs_below (levels - 1) heap) heap r (node_at heap r)
unfolding pairs_below
some_below zero heap r h = absurd (omega arith)
some_below (suc levels) heap r h = let same : levels ≡ suc levels - 1 = omega arith in ap (λ n. pairs_at (pairs_below n heap) heap r (node_at heap r)) same

-- the pairs of what is left of the entries, one step on
pub gather_more : (f : Ref → List (ℕ × ℕ)) (es : List Ref) (i : ℕ) (d : Ref) → i < length es →
    flat_map f (drop i es) ≡ f (get_or es i d) ++ flat_map f (drop (i + 1) es)
gather_more f es i d within = at_drop_more (flat_map f) es i d within

-- and at the end
pub gather_none : (f : Ref → List (ℕ × ℕ)) (es : List Ref) (i : ℕ) → length es ≤ i → flat_map f (drop i es) ≡ []
gather_none f es i past = at_drop_all (flat_map f) es i past

pub ruleset gathering = (arith, none_below, some_below, gather_more, gather_none, append-nil, append_assoc)

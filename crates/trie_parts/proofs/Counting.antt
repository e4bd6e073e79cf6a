-- How often a reference stands in the first items of a list.
use Rattle.std.specs.Prelude.{◌≡◌, ℕ, ◌+◌, ◌<◌, ◌≤◌, ◌==◌, cond, List, length, take}
use Rattle.std.proofs.Common.{sym, ap, ◌∙◌, get_or}
use Rattle.std.proofs.lemmas.List.{take_all}
use Rattle.std.proofs.lemmas.List.Sums.{sum_by_more, sum_by-take-le}
use Rattle.trie_parts.specs.Beneath.slot_arena.specs.Times.{times}
use Rattle.trie_parts.specs.Beneath.slot_arena.proofs.Times.{once}

-- with one item more
pub times_more : (n : ℕ) (ms : List ℕ) (i m : ℕ) → i < length ms → m ≡ get_or ms i m → times n (take (i + 1) ms) ≡ times n (take i ms) + once n m
times_more n ms i m within is = sum_by_more (λ x. cond (x == n) 1 0) ms i m within ∙ ap (λ x. times n (take i ms) + once n x) (sym is)

-- in no more of them than in all
pub times_part : (n : ℕ) (ms : List ℕ) (i : ℕ) → times n (take i ms) ≤ times n ms
times_part n ms i = sum_by-take-le (λ x. cond (x == n) 1 0) ms i

-- in all of them
pub times_all : (n : ℕ) (ms : List ℕ) (i : ℕ) → length ms ≤ i → times n (take i ms) ≡ times n ms
times_all n ms i past = ap (times n) (take_all i ms past)

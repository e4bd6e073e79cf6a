use Rattle.std.proofs.Common.{◌≡◌, ◌==◌, ◌+◌, ℕ, count_by}
use Rattle.std.specs.BTreeMap.{keys}
use Rattle.ctrie_base.specs.Hashes.{hash_of}
use Rattle.history.specs.Crowds.{kept_count}
use Rattle.history.proofs.content.crowds_of.Given as goal

-- what is counted and what is left make up the whole
abbrev pub invariant-loop-key : goal.invariant-loop-key
invariant-loop-key l =
    (h : ℕ) → kept_count l.crowds.entries h + count_by (λ q. hash_of l.kind q == h) l.key-iterator ≡ count_by (λ q. hash_of l.kind q == h) (keys l.pairs)

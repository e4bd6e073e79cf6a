-- How many keys of a map have each hash.
use Rattle.std.specs.Prelude.{◌≡◌, ℕ, ◌==◌, List, count_by, unwrap_or, if◌then◌else◌}
use Rattle.std.specs.Ordering.{nat_cmp}
use Rattle.std.specs.List.Sorted.{IsStrictlySortedBy}
use Rattle.std.specs.Map.{keys_of, lookup}
use Rattle.std.specs.BTreeMap.{is_at}

-- how many of the entries' keys have this hash
abbrev pub crowd_of : (ℕ → ℕ) → List (ℕ × ℕ) → ℕ → ℕ
crowd_of hash entries h = count_by (λ q. hash q == h) (keys_of entries)

-- the count that is kept for a hash, 0 where there is none
abbrev pub kept_count : List (ℕ × ℕ) → ℕ → ℕ
kept_count counts h = unwrap_or (lookup (is_at (nat_cmp h)) counts) 0

-- the same counts, but at one hash this one
abbrev pub WritesCount : List (ℕ × ℕ) → List (ℕ × ℕ) → ℕ → ℕ → Type 0
WritesCount old new h n = (q : ℕ) → kept_count new q ≡ (if h == q then n else kept_count old q)

-- The keys rise, and for each hash the count that is kept is that of the keys that have it.
pub record IsCounted (hash : ℕ → ℕ) (entries counts : List (ℕ × ℕ)) : Type 0 where
  pub rising : IsStrictlySortedBy nat_cmp (keys_of entries)
  pub counted : (h : ℕ) → kept_count counts h ≡ crowd_of hash entries h

-- Pairs of a key and its value, sorted.
use Rattle.std.specs.Prelude.{ℕ, ◌==◌, Bool, nat_lt, List, if◌then◌else◌}
use Rattle.machine_model.specs.Beneath.ctrie_base.specs.Sorting.{put_by, sorted_by}

-- by key; two pairs of one key, which no map of a machine has, by value
abbrev pub comes_before : ℕ × ℕ → ℕ × ℕ → Bool
comes_before p q = if p.0 == q.0 then nat_lt p.1 q.1 else nat_lt p.0 q.0

abbrev pub put_pair : ℕ × ℕ → List (ℕ × ℕ) → List (ℕ × ℕ)
put_pair = put_by comes_before

-- all of these pairs, by rising key
abbrev pub by_key : List (ℕ × ℕ) → List (ℕ × ℕ)
by_key = sorted_by comes_before

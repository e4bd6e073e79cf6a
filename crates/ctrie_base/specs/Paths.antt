-- Where a hash leads at each level of the trie.
use Rattle.std.specs.Prelude.{ℕ, ◌/◌, ◌%◌, ◌^◌, ◌-◌, bit_and, count_ones}

-- the index of a hash at a level: the five bits that begin there
abbrev pub index_at : ℕ → ℕ → ℕ
index_at hash lev = hash / 2 ^ lev % 32

-- the flag of that index
abbrev pub flag_at : ℕ → ℕ → ℕ
flag_at hash lev = 2 ^ index_at hash lev

-- the position of a flag's entry in a branch: how many lower flags its bitmap has
abbrev pub position_of : ℕ → ℕ → ℕ
position_of flag bitmap = count_ones (bit_and bitmap (flag - 1))

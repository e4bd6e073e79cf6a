-- The levels of the trie. Each stands for five bits of a hash; the root's depth is 0, and an indirection's level is five times
-- its depth.
use Rattle.std.specs.Prelude.{ℕ, zero, suc, ◌+◌, ◌*◌, ◌/◌, ◌==◌, Bool, not, bit_and, if◌then◌else◌}
use Rattle.nodes.specs.Beneath.ctrie_base.specs.Hashes.{bits_of}
use Rattle.nodes.specs.Beneath.ctrie_base.specs.Paths.{index_at, flag_at}
use Rattle.nodes.specs.Beneath.ctrie_base.specs.declared.hashes.HashKind.{HashKind}

-- the depth below all levels of a hash, where lists stand: 7 for 32 bits, 13 for 64
abbrev pub list_depth : HashKind → ℕ
list_depth kind = (bits_of kind + 4) / 5

-- the index of a hash at a depth, and its flag
abbrev pub index_in : ℕ → ℕ → ℕ
index_in hash depth = index_at hash (5 * depth)

abbrev pub flag_of : ℕ → ℕ → ℕ
flag_of hash depth = flag_at hash (5 * depth)

-- the bitmap has the flag
abbrev pub has_flag : ℕ → ℕ → Bool
has_flag bitmap flag = not (bit_and bitmap flag == 0)

-- the first of so many depths at which the hashes have different indices, or the depth after these
abbrev pub parting : ℕ → ℕ → ℕ → ℕ → ℕ
parting zero a b depth = depth
parting (suc left) a b depth = if index_in a depth == index_in b depth then parting left a b (depth + 1) else depth

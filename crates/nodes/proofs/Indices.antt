-- The index of a hash at a depth is one of 32.
use Rattle.std.proofs.Common.{ℕ, ◌<◌, mod-lt, arith}
use Rattle.nodes.specs.Levels.{index_in}

pub index_below : (hash depth : ℕ) → index_in hash depth < 32
index_below hash depth = mod-lt _ (omega arith)

-- No hash of a key has more bits than its kind says.
use Rattle.std.proofs.Common.{ℕ, ◌%◌, ◌/◌, ◌^◌, ◌<◌, arith}
use Rattle.std.proofs.lemmas.Nat.{xor_of_32}
use Rattle.ctrie_base.specs.Hashes.{low_hash, fold_hash, block_hash}

pub low_hash-lt : (key : ℕ) → key < 2 ^ 64 → low_hash key < 2 ^ 32
low_hash-lt key fits = omega arith

pub fold_hash-lt : (key : ℕ) → key < 2 ^ 64 → fold_hash key < 2 ^ 32
fold_hash-lt key fits = xor_of_32 (key % 2 ^ 32) (key / 2 ^ 32) (omega arith) (omega arith)

pub block_hash-lt : (key : ℕ) → key < 2 ^ 64 → block_hash key < 2 ^ 64
block_hash-lt key fits = omega arith

-- Each key has its place in one of the shards.
use Rattle.std.proofs.Common.{◌≡◌, ℕ, ◌*◌, ◌<◌, ◌%◌, ◌/◌, ◌^◌, sym, ap, ◌∙◌, arith, mod-lt}
use Rattle.std.proofs.Math.Nat.{div-lt_iff_lt-mul, mul-lt-mul_of_pos_right}
use Rattle.shared_map.specs.Vocabulary.{hash_of, HashKind}
use Rattle.shared_map.specs.Asks.{place_of, shard_of}

part_within : (shards product : ℕ) → product < 2 ^ 64 → 0 < shards → product * shards / 2 ^ 64 < shards
part_within shards product low some = let less : product * shards < 2 ^ 64 * shards = mul-lt-mul_of_pos_right low some in (div-lt_iff_lt-mul (omega arith)).1 (omega (arith, less))

pub shard_within : (shards hash : ℕ) → 0 < shards → shard_of shards hash < shards
shard_within shards hash some = part_within shards (hash * 11400714819323198485 % 2 ^ 64) (mod-lt (hash * 11400714819323198485) (omega arith)) some

pub only_place : (hash : HashKind) (key : ℕ) → place_of hash 1 key ≡ 0
only_place hash key = let lt : place_of hash 1 key < 1 = shard_within 1 (hash_of hash key) (omega arith) in omega (arith, lt)

-- of as many shards as there are
pub place_if_one : (hash : HashKind) (shards key : ℕ) → shards ≡ 1 → 0 ≡ place_of hash shards key
place_if_one hash shards key one = sym (ap (λ n. place_of hash n key) one ∙ only_place hash key)

-- The four hashes of keys: each is a function of the key.
use Rattle.std.specs.Prelude.{ℕ, ◌%◌, ◌/◌, ◌^◌, ◌<◌, bit_xor, List, codes}
use Rattle.ctrie_base.specs.declared.hashes.HashKind.{HashKind}
use Rattle.ctrie_base.specs.declared.hashes.HashKind.TheVariants.{Low, Fold, Wide, Block}

-- the low half of the key
abbrev pub low_hash : ℕ → ℕ
low_hash key = key % 2 ^ 32

-- the low half xor the high half
abbrev pub fold_hash : ℕ → ℕ
fold_hash key = bit_xor (key % 2 ^ 32) (key / 2 ^ 32)

-- the key itself
abbrev pub wide_hash : ℕ → ℕ
wide_hash key = key

-- the same for each block of 64 keys
abbrev pub block_hash : ℕ → ℕ
block_hash key = key / 64

-- the hash of a key, of that kind
abbrev pub hash_of : HashKind → ℕ → ℕ
hash_of Low key = low_hash key
hash_of Fold key = fold_hash key
hash_of Wide key = wide_hash key
hash_of Block key = block_hash key

-- how many bits a hash of that kind has
abbrev pub bits_of : HashKind → ℕ
bits_of Low = 32
bits_of Fold = 32
bits_of Wide = 64
bits_of Block = 64

-- a kind's name in scripts and reports
abbrev pub name_of : HashKind → List ℕ
name_of Low = codes "low"
name_of Fold = codes "fold"
name_of Wide = codes "wide"
name_of Block = codes "block"

-- no hash of a key has more bits than its kind says
abbrev pub HashesFit : Type 0
HashesFit = (kind : HashKind) (key : ℕ) → key < 2 ^ 64 → hash_of kind key < 2 ^ bits_of kind

-- How many slots a map for so many keys has.
use Rattle.std.specs.Prelude.{ℕ, ◌+◌, ◌-◌, ◌*◌, ◌/◌, ◌^◌, min, max}
use Rattle.ctrie_base.specs.declared.hashes.HashKind.{HashKind}
use Rattle.concurrent_map.specs.declared.room.Taking.{Taking}
use Rattle.concurrent_map.specs.declared.room.Taking.TheVariants.{MediumInOrder, SmallInOrder, SmallAtRandom, WideInOrder}
use Rattle.lock_free.specs.declared.sizes.Sizes.{Sizes}

-- What so many random keys take at a level of a trie that has so many places, in the mean or somewhat more: of small slots those of indirections and of main nodes of two entries.
abbrev pub small_at_random : ℕ → ℕ → ℕ
small_at_random keys places = min (17 * places / 16) (keys * keys / (places + 7 * keys / 8 + keys * keys / (4 * places)))

-- What so many keys take at a level of a trie that has so many places: of small slots the indirections and the main nodes of two entries, of medium slots the main nodes of 3 to 12
-- entries, of wide ones those of more. Keys that follow one another come to the places in turn: first each has one key, then each gets a second one, and so on.
abbrev pub at_level : Taking → ℕ → ℕ → ℕ
at_level SmallInOrder keys places = min (2 * (keys - places)) (max (4 * places - keys) places)
at_level SmallAtRandom keys places = small_at_random keys places
at_level MediumInOrder keys places = min (keys - 2 * places) places
at_level WideInOrder keys places = min (keys - 12 * places) places

-- Each level has 32 times the places of that above it. At none below the seventh do random keys take much, as many as a map can hold.
abbrev pub at_levels : Taking → ℕ → ℕ
at_levels taking keys =
    at_level taking keys 1 + at_level taking keys 32 + at_level taking keys (32 ^ 2) + at_level taking keys (32 ^ 3) + at_level taking keys (32 ^ 4) + at_level taking keys (32 ^ 5)
    + at_level taking keys (32 ^ 6)

-- A key takes a small slot itself. Of random keys there are 23 medium main nodes to 128 keys at most, and a wide one to 25, where those in order take fewer.
abbrev pub small_for : ℕ → ℕ
small_for keys = max (keys + at_levels SmallInOrder keys) (65 * (keys + at_levels SmallAtRandom keys) / 64)

abbrev pub medium_for : ℕ → ℕ
medium_for keys = max (23 * keys / 128) (at_levels MediumInOrder keys)

abbrev pub wide_for : ℕ → ℕ
wide_for keys = max (keys / 25) (at_levels WideInOrder keys)

-- So much a seat may hold back of each class: 16 small slots, 8 medium and 2 wide ones that it keeps for its next call, and what it retires until it has looked at the epoch four times,
-- 64 slots at most, of which 32 at most are medium or wide. Of few keys it holds back less, and no wide slot where no main node has more than 12 entries.
abbrev pub small_held : ℕ → ℕ
small_held keys = min 80 (keys + 16)

abbrev pub medium_held : ℕ → ℕ
medium_held keys = min 40 (keys / 2 + 8)

abbrev pub wide_held : ℕ → ℕ
wide_held keys = min 34 (keys - 12)

-- so many slots, and for each seat and once more so many
abbrev pub with_held : ℕ → ℕ → ℕ → ℕ
with_held slots held seats = min (slots + held * (seats + 1)) (2 ^ 32 - 1)

abbrev pub sizes_for : ℕ → HashKind → ℕ → Sizes
sizes_for keys hash seats = record {
  seats = seats;
  hash = hash;
  small = with_held (small_for keys) (small_held keys) seats;
  medium = with_held (medium_for keys) (medium_held keys) seats;
  wide = with_held (wide_for keys) (wide_held keys) seats;
}

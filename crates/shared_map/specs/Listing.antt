-- Lists of a handle's pairs in all shards.
use Rattle.std.specs.Prelude.{◌≡◌, ℕ, ◌++◌, false, List, [], Option, Some, None, flat_map}
use Rattle.std.specs.Global.{Vec}
use Rattle.std.specs.FinMap as map
use Rattle.shared_map.specs.Vocabulary.{HandleMap}
use Rattle.ctrie_map.specs.Maps.{MapState, handles_of}
use Rattle.shared_map.specs.Beneath.proof_core.specs.Reading.{next_of}
use Rattle.shared_map.specs.declared.listing.Listed.{Listed}
use Rattle.shared_map.specs.declared.listing.Listed.TheVariants.{All, Next}
use Rattle.shared_map.specs.declared.listing.Listing.{Listing}
use Rattle.shared_map.specs.Uniting.{pairs_of}

-- those of these pairs that are listed
abbrev pub listed_of : Listed → List (ℕ × ℕ) → List (ℕ × ℕ)
listed_of All pairs = pairs
listed_of (Next cursor room) pairs = next_of cursor room pairs

-- those of the handle in all worlds
abbrev pub pairs_listed : Listed → ℕ → List HandleMap → List (ℕ × ℕ)
pairs_listed listed handle worlds = flat_map (λ w. listed_of listed (pairs_of (map.get w handle))) worlds

-- what was collected
abbrev pub collected : Option (Vec (ℕ × ℕ)) → List (ℕ × ℕ)
collected None = []
collected (Some pairs) = pairs.items

abbrev pub Lists : Listing → MapState → Listing → MapState → Type 0
Lists before shard after later =
    (later ≡ shard) × (after.handle ≡ before.handle) × (after.listed ≡ before.listed)
    × (after.failed ≡ false → (before.failed ≡ false)
    × (collected after.pairs ≡ collected before.pairs ++ listed_of before.listed (pairs_of (map.get (handles_of shard) before.handle))))

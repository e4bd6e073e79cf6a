-- Keys that are set together, all or none.
use Rattle.std.specs.Prelude.{ℕ, List}
use Rattle.ctrie_map.specs.declared.batches.Batch.TheVariants.{Puts}
use Rattle.ctrie_map.specs.declared.errors.MapError.{MapError}
use Rattle.ctrie_map.specs.Batches.{ChangesAll, RefusesBatch}
use Rattle.ctrie_map.specs.Maps.{MapState}

-- the writable handle has all the pairs, later ones over earlier ones; all other handles stay
abbrev pub PutsAll : MapState → ℕ → List (ℕ × ℕ) → MapState → Type 0
PutsAll = ChangesAll Puts

-- why it was refused
abbrev pub RefusesPuts : MapState → ℕ → List (ℕ × ℕ) → MapState → MapError → Type 0
RefusesPuts = RefusesBatch Puts

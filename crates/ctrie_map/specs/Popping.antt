-- Why no key is taken out.
use Rattle.std.specs.Prelude.{◌≡◌, ℕ, Option, Some, None, Ok}
use Rattle.std.specs.FinMap as map
use Rattle.ctrie_map.specs.Vocabulary.{Remove}
use Rattle.ctrie_map.specs.declared.errors.MapError.{MapError}
use Rattle.ctrie_map.specs.declared.errors.MapError.TheVariants.{NoHandle}
use Rattle.ctrie_map.specs.Changes.{Refuses}
use Rattle.ctrie_map.specs.Maps.{MapState, handles_of}
use Rattle.ctrie_map.specs.Reading.{IsOneOf, Reads}

-- the key to be taken out: key 0, where none has a value
abbrev pub key_in : Option (ℕ × ℕ) → ℕ
key_in None = 0
key_in (Some pair) = pair.0

-- The handle isn't open; or the key that was found isn't removed, for the reasons of a removal.
abbrev pub RefusesPop : MapState → ℕ → MapState → MapError → Type 0
RefusesPop before handle after NoHandle = (map.get (handles_of before) handle ≡ None) × (after ≡ before)
RefusesPop before handle after error =
    (found : Option (ℕ × ℕ)) × Reads before handle IsOneOf (Ok found) × Refuses before (Remove handle (key_in found)) ⊥ after error

-- What any call comes to, for what keeps calls and replies as values.
use Rattle.std.specs.Prelude.{◌≡◌, ◌⊎◌, Result, Err, IsOk}
use Rattle.std.specs.FinMap as map
use Rattle.ctrie_map.specs.Vocabulary.{Call, Get, Entries, Count, Reply}
use Rattle.history.specs.declared.replies.Reply.TheVariants as reply
use Rattle.ctrie_map.specs.declared.errors.MapError.{MapError}
use Rattle.ctrie_map.specs.declared.errors.MapError.TheVariants.{Memory}
use Rattle.ctrie_map.specs.Maps.{MapState}
use Rattle.ctrie_map.specs.Performing.{Performs}
use Rattle.ctrie_map.specs.Reading.{reading}

-- it is what was to be read, or memory was wanting for that
abbrev pub IsRead : Result Reply MapError → Result Reply MapError → Type 0
IsRead read told = (told ≡ read) ⊎ ((told ≡ Err Memory) × IsOk read)

-- what is told of the call, and what becomes of the map: nothing where it was read
abbrev pub Calls : Result Reply MapError → MapState → Call → MapState → Type 0
Calls told before (Get h k) after = (after ≡ before) × (told ≡ reading before h (λ m. reply.Found (map.get m k)))
Calls told before (Entries h) after = (after ≡ before) × IsRead (reading before h (λ m. reply.Pairs (map.entries m))) told
Calls told before (Count h) after = (after ≡ before) × (told ≡ reading before h (λ m. reply.Count (map.len m)))
Calls told before change after = Performs told before change after

-- What a log says of the finite maps that handles name.
use Rattle.std.specs.Prelude.{◌≡◌, ◌≢◌, ℕ, List, [], ◌∷◌, Option, Some, None, Ok, Err}
use Rattle.std.specs.FinMap as map
use Rattle.shared_map.specs.Vocabulary.{hash_of, HashKind, Call, Get, Entries, Count, HandleMap}
use Rattle.history.specs.declared.replies.Reply.TheVariants as reply
use Rattle.ctrie_map.specs.declared.errors.MapError.TheVariants.{Full, Memory, WornOut}
use Rattle.ctrie_map.specs.Calling.{IsRead}
use Rattle.ctrie_map.specs.Changes.{denial_among}
use Rattle.ctrie_map.specs.Performing.{EffectAmong}
use Rattle.ctrie_map.specs.Reading.{read_of, writability_by}
use Rattle.shared_map.specs.declared.asks.Answer.TheVariants as answer
use Rattle.shared_map.specs.declared.asks.Ask.{Ask}
use Rattle.shared_map.specs.declared.asks.Ask.TheVariants.{Do, From, Scan, First, IsWritable, Restore, Handles, Free, HasRoom}
use Rattle.shared_map.specs.declared.asks.Request.{Request}
use Rattle.shared_map.specs.Asks.{MapEntry, Replied, Told, told_as}
use Rattle.shared_map.specs.Restores.{RestoresAmong, restore_denial_among}
use Rattle.shared_map.specs.Readings.{IsFirst, IsPart, IsScan}

module _ (hash : HashKind) (shards : ℕ) (world : HandleMap) where
  -- What is told of a change, and the world after it: the finite map's effect; or it was refused, and nothing has changed.
  abbrev pub ChangesWorld : Call → Replied → HandleMap → Type 0
  ChangesWorld call (Ok reply.NoSlots) next = (denial_among world call ≡ None) × (next ≡ world)
  ChangesWorld call (Ok result) next = (opens : Option ℕ) × EffectAmong (hash_of hash) world call opens result next
  ChangesWorld call (Err WornOut) next = (denial_among world call ≡ None) × (next ≡ world)
  ChangesWorld call (Err error) next = (denial_among world call ≡ Some error) × (next ≡ world)

  -- what is told of a call
  abbrev pub RepliesIn : Call → Replied → HandleMap → Type 0
  RepliesIn (Get h k) told next = (next ≡ world) × (told ≡ read_of (λ m. reply.Found (map.get m k)) (map.get world h))
  RepliesIn (Entries h) told next = (next ≡ world) × IsRead (read_of (λ m. reply.Pairs (map.entries m)) (map.get world h)) told
  RepliesIn (Count h) told next = (next ≡ world) × (told ≡ read_of (λ m. reply.Count (map.len m)) (map.get world h))
  RepliesIn change told next = ChangesWorld change told next

  -- what is told of a restore
  abbrev pub RestoresWorld : ℕ → ℕ → Told → HandleMap → Type 0
  RestoresWorld h copy (Ok told) next = (told ≡ answer.Restored) × RestoresAmong world h copy next
  RestoresWorld h copy (Err Full) next = (restore_denial_among world h copy ≡ None) × (next ≡ world)
  RestoresWorld h copy (Err WornOut) next = (restore_denial_among world h copy ≡ None) × (next ≡ world)
  RestoresWorld h copy (Err error) next = (restore_denial_among world h copy ≡ Some error) × (next ≡ world)

  -- What is told. How many slots are free is nothing of finite maps.
  abbrev pub Shows : Ask → Told → HandleMap → Type 0
  Shows (Do call) told next = (replied : Replied) × (told ≡ told_as answer.Reply replied) × RepliesIn call replied next
  Shows (From h cursor room) told next = (next ≡ world) × IsPart cursor room (map.get world h) told
  Shows (Scan h shard cursor room) told next = (next ≡ world) × IsScan hash shards shard cursor room (map.get world h) told
  Shows (First h) told next = (next ≡ world) × IsFirst (map.get world h) told
  Shows (IsWritable h) told next = (next ≡ world) × (told ≡ told_as answer.Writable (writability_by (map.get world h)))
  Shows (Restore h copy) told next = RestoresWorld h copy told next
  Shows Handles told next = (next ≡ world) × (told ≡ Ok (answer.Reply (reply.Count (map.len world))))
  Shows Free told next = next ≡ world
  Shows HasRoom told next = next ≡ world

-- what is told of a request: one for a map of another hash is refused
pub record IsShown (hash : HashKind) (shards : ℕ) (world : HandleMap) (request : Request) (told : Told) (next : HandleMap) : Type 0 where
  pub shows : request.hash ≡ hash → Shows hash shards world request.ask told next
  pub strange : request.hash ≢ hash → (told ≡ Err Memory) × (next ≡ world)

-- these calls, one after the other, of a map in so many shards, lead from one world to the other, and this was told of them
abbrev pub Replays : HashKind → ℕ → HandleMap → List MapEntry → HandleMap → Type 0
Replays hash shards world [] last = last ≡ world
Replays hash shards world (e ∷ es) last = (next : HandleMap) × IsShown hash shards world e.call e.answer next × Replays hash shards next es last

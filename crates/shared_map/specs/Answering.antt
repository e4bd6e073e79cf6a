-- What a map in shards answers, seen in the world of the whole.
use Rattle.std.specs.Prelude.{◌≡◌, ◌≢◌, ℕ, ◌+◌, ◌*◌, ◌≤◌, true, false, Option, Some, None, List, length, map, Ok, Err}
use Rattle.std.specs.FinMap as map
use Rattle.shared_map.specs.Vocabulary.{hash_of, HashKind, Call, Get, Entries, Count, Snapshot, Reply, HandleMap}
use Rattle.history.specs.declared.replies.Reply.TheVariants as reply
use Rattle.ctrie_map.specs.Calling.{IsRead}
use Rattle.ctrie_map.specs.Changes.{denial_among}
use Rattle.ctrie_map.specs.Costs.{work_of_call}
use Rattle.ctrie_map.specs.declared.errors.MapError.TheVariants.{Full, Memory, WornOut}
use Rattle.ctrie_map.specs.Maps.{MapState}
use Rattle.ctrie_map.specs.Names.{IsNext}
use Rattle.ctrie_map.specs.Performing.{EffectAmong}
use Rattle.ctrie_map.specs.Reading.{read_of, writability_by}
use Rattle.shared_map.specs.declared.asks.Answer.TheVariants as answer
use Rattle.shared_map.specs.declared.asks.Ask.{Ask}
use Rattle.shared_map.specs.declared.asks.Ask.TheVariants.{Do, From, Scan, First, IsWritable, Restore, Handles, Free, HasRoom}
use Rattle.shared_map.specs.declared.asks.Request.{Request}
use Rattle.shared_map.specs.Asks.{Replied, Told, told_as}
use Rattle.shared_map.specs.Shards.{AreShards, IsNoneTight, LackSlots, concerned, free_of_all, have_room, is_any_worn_out, is_any_worn_out_to_restore}
use Rattle.shared_map.specs.Shards.{last_given, steps_of_all, unused_in_all, world_of_all}
use Rattle.shared_map.specs.Restores.{RestoresAmong, restore_denial_among, work_of_a_restore}
use Rattle.shared_map.specs.Readings.{IsFirst, IsPart, IsScan}

-- the whole has these handles then, and this number was given last; hash, slots and life are as before
abbrev pub HaveThen : List MapState → HandleMap → ℕ → List MapState → Type 0
HaveThen before world last after = (map (λ s. s.core.limits) after ≡ map (λ s. s.core.limits) before) × (last_given after ≡ last) × (world_of_all after ≡ world)

-- the whole has these handles then, and no number was given
abbrev pub Become : List MapState → HandleMap → List MapState → Type 0
Become before world after = HaveThen before world (last_given before) after

-- at most so much work is done in all, and five steps of it for each slot by which more are free behind it than before
abbrev pub WorkUpTo : ℕ → List MapState → List MapState → Type 0
WorkUpTo most before after =
    (steps_of_all before ≤ steps_of_all after)
    × (steps_of_all after + 5 * unused_in_all before ≤ steps_of_all before + most + 5 * unused_in_all after)

module _ (hash : HashKind) (before : List MapState) where
  -- a change is begun
  abbrev pub AreBegun : Call → Type 0
  AreBegun call = (denial_among (world_of_all before) call ≡ None) × (is_any_worn_out (concerned hash call before) ≡ false)

  -- its reply, and what it does: as in one map; a copy has the next number
  abbrev pub DoesAll : Call → Reply → List MapState → Type 0
  DoesAll call (reply.Opened copy) after =
      IsNext (last_given before) (world_of_all before) copy
      × ((next : HandleMap) × EffectAmong (hash_of hash) (world_of_all before) call (Some copy) (reply.Opened copy) next × HaveThen before next copy after)
  DoesAll call result after = (opens : Option ℕ) × (next : HandleMap) × EffectAmong (hash_of hash) (world_of_all before) call opens result next × Become before next after

  -- what a change comes to
  abbrev pub ChangesAll : Call → Replied → List MapState → Type 0
  ChangesAll call (Ok reply.NoSlots) after = AreBegun call × LackSlots call (concerned hash call before) × Become before (world_of_all before) after
  ChangesAll call (Ok result) after = AreBegun call × IsNoneTight call (concerned hash call before) × DoesAll call result after
  ChangesAll call (Err WornOut) after =
      (denial_among (world_of_all before) call ≡ None) × (is_any_worn_out (concerned hash call before) ≡ true) × (after ≡ before)
  ChangesAll call (Err error) after = (denial_among (world_of_all before) call ≡ Some error) × (after ≡ before)

  -- what any call comes to
  abbrev pub CallsAll : Call → Replied → List MapState → Type 0
  CallsAll (Get h k) told after = (after ≡ before) × (told ≡ read_of (λ m. reply.Found (map.get m k)) (map.get (world_of_all before) h))
  CallsAll (Entries h) told after = (after ≡ before) × IsRead (read_of (λ m. reply.Pairs (map.entries m)) (map.get (world_of_all before) h)) told
  CallsAll (Count h) told after = (after ≡ before) × (told ≡ read_of (λ m. reply.Count (map.len m)) (map.get (world_of_all before) h))
  CallsAll change told after = ChangesAll change told after

  -- and its work
  abbrev pub RepliesAll : Call → Replied → List MapState → Type 0
  RepliesAll call told after = CallsAll call told after × WorkUpTo (length (concerned hash call before) * work_of_call call) before after

  -- what a restore comes to
  abbrev pub RestoresAll : ℕ → ℕ → Told → List MapState → Type 0
  RestoresAll h copy (Ok told) after =
      (told ≡ answer.Restored) × (h ≡ copy → after ≡ before) × (h ≢ copy → (is_any_worn_out_to_restore before ≡ false) × IsNoneTight (Snapshot copy) before)
      × ((next : HandleMap) × RestoresAmong (world_of_all before) h copy next × Become before next after)
  RestoresAll h copy (Err Full) after =
      (restore_denial_among (world_of_all before) h copy ≡ None) × (h ≢ copy) × (is_any_worn_out_to_restore before ≡ false)
      × LackSlots (Snapshot copy) before × Become before (world_of_all before) after
  RestoresAll h copy (Err WornOut) after =
      (restore_denial_among (world_of_all before) h copy ≡ None) × (h ≢ copy) × (is_any_worn_out_to_restore before ≡ true) × (after ≡ before)
  RestoresAll h copy (Err error) after = (restore_denial_among (world_of_all before) h copy ≡ Some error) × (after ≡ before)

  abbrev pub AnswersAll : Ask → Told → List MapState → Type 0
  AnswersAll (Do call) told after = (replied : Replied) × (told ≡ told_as answer.Reply replied) × RepliesAll call replied after
  AnswersAll (From h cursor room) told after = (after ≡ before) × IsPart cursor room (map.get (world_of_all before) h) told
  AnswersAll (Scan h shard cursor room) told after = (after ≡ before) × IsScan hash (length before) shard cursor room (map.get (world_of_all before) h) told
  AnswersAll (First h) told after = (after ≡ before) × IsFirst (map.get (world_of_all before) h) told
  AnswersAll (IsWritable h) told after = (after ≡ before) × (told ≡ told_as answer.Writable (writability_by (map.get (world_of_all before) h)))
  AnswersAll (Restore h copy) told after = RestoresAll h copy told after × WorkUpTo (length before * work_of_a_restore) before after
  AnswersAll Handles told after = (after ≡ before) × (told ≡ Ok (answer.Reply (reply.Count (map.len (world_of_all before)))))
  AnswersAll Free told after = (after ≡ before) × (told ≡ Ok (answer.Reply (reply.Count (free_of_all before))))
  AnswersAll HasRoom told after = (after ≡ before) × (told ≡ Ok (answer.Reply (reply.Truth (have_room before))))

  -- these are the shards of one map then too; a request for a map of another hash is refused
  pub record IsAnswered (request : Request) (told : Told) (after : List MapState) : Type 0 where
    pub shards : AreShards hash after
    pub answered : request.hash ≡ hash → AnswersAll request.ask told after
    pub strange : request.hash ≢ hash → (told ≡ Err Memory) × (after ≡ before)

-- what the shards of one map may tell a seat, whichever it is, and what becomes of them
abbrev pub MapAnswers : ℕ → List MapState → Request → Told → List MapState → Type 0
MapAnswers seat before request told after = (hash : HashKind) → AreShards hash before → IsAnswered hash before request told after

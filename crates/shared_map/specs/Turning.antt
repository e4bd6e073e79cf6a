-- Changes of all shards, each of which is turned alike.
use Rattle.std.specs.Prelude.{◌≡◌, ◌<◌, ℕ, false, Option, Some, None, List, [], ◌∷◌}
use Rattle.std.specs.FinMap as map
use Rattle.shared_map.specs.Vocabulary.{Writable, Call, Reply, naming, HandleMap, HandleState, KeyMap, handle_of, handle_limit}
use Rattle.history.specs.declared.calls.Call.TheVariants as call
use Rattle.history.specs.declared.replies.Reply.TheVariants as reply
use Rattle.ctrie_map.specs.Changes.{changes_map}
use Rattle.ctrie_map.specs.Cores.{is_worn_out}
use Rattle.ctrie_map.specs.Costs.{WorksUpTo, work_of_call}
use Rattle.ctrie_map.specs.Denials.{denial_by}
use Rattle.ctrie_map.specs.Maps.{MapState, handles_of}
use Rattle.ctrie_map.specs.Names.{IsNext}
use Rattle.ctrie_map.specs.Performing.{copy_call}
use Rattle.ctrie_map.specs.Sharding.{may_lack_slots}
use Rattle.shared_map.specs.declared.turning.Turn.{Turn}
use Rattle.shared_map.specs.declared.turning.Turn.TheVariants as turn
use Rattle.shared_map.specs.declared.turning.Turning.{Turning}

-- the call that it is
abbrev pub call_of : Turn → Call
call_of (turn.Clear h) = call.Clear h
call_of (turn.Close h) = call.Close h
call_of (turn.Copy h number access) = copy_call access h

abbrev pub reply_of : Turn → Reply
reply_of (turn.Clear h) = reply.Cleared
reply_of (turn.Close h) = reply.Closed
reply_of (turn.Copy h number access) = reply.Opened number

-- the handle's map; where it isn't open there is nothing
abbrev pub map_shown : Option HandleState → KeyMap
map_shown None = map.empty
map_shown (Some shown) = shown.pairs

-- what becomes of a shard's handles
abbrev pub turned : Turn → HandleMap → HandleMap
turned (turn.Clear h) world = naming world h Writable map.empty
turned (turn.Close h) world = map.remove world h
turned (turn.Copy h number access) world = naming world number access (map_shown (map.get world h))

-- the number that was given last then
abbrev pub last_by : Turn → ℕ → ℕ
last_by (turn.Copy h number access) last = number
last_by other last = last

-- the number of a copy is the next one
abbrev pub HasNext : Turn → MapState → Type 0
HasNext (turn.Copy h number access) shard = IsNext shard.names.last (handles_of shard) number
HasNext other shard = Unit {0}

-- the number of a copy is free
abbrev pub IsFree : Turn → HandleMap → Type 0
IsFree (turn.Copy h number access) world = (number < handle_limit) × (map.get world number ≡ None)
IsFree other world = Unit {0}

-- nothing stands in its way
pub record IsDue (turn : Turn) (shard : MapState) : Type 0 where
  pub allowed : denial_by (changes_map (call_of turn)) false (map.get (handles_of shard) (handle_of (call_of turn))) 0 ≡ None
  pub free : IsFree turn (handles_of shard)
  pub life : is_worn_out shard.core ≡ false
  pub room : may_lack_slots (call_of turn) shard ≡ false

-- its handles become these, and the number that was given last this one, by so much work at most
pub record HasBecome (become : HandleMap → HandleMap) (gives : ℕ → ℕ) (most : ℕ) (before after : MapState) : Type 0 where
  pub limits : after.core.limits ≡ before.core.limits
  pub last : after.names.last ≡ gives before.names.last
  pub handles : handles_of after ≡ become (handles_of before)
  pub work : WorksUpTo most before after

-- it is done
abbrev pub HasTurned : Turn → MapState → MapState → Type 0
HasTurned turn before after = HasBecome (turned turn) (last_by turn) (work_of_call (call_of turn)) before after

-- what the visitor does with a shard where nothing stands in its way
abbrev pub Turns : Turning → MapState → Turning → MapState → Type 0
Turns before shard after later = (after ≡ before) × (IsDue before.turn shard → HasTurned before.turn shard later)

-- the same of all shards
abbrev pub HaveBecome : (HandleMap → HandleMap) → (ℕ → ℕ) → ℕ → List MapState → List MapState → Type 0
HaveBecome become gives most [] [] = Unit {0}
HaveBecome become gives most [] (t ∷ ts) = ⊥
HaveBecome become gives most (s ∷ ss) [] = ⊥
HaveBecome become gives most (s ∷ ss) (t ∷ ts) = HasBecome become gives most s t × HaveBecome become gives most ss ts

abbrev pub HaveTurned : Turn → List MapState → List MapState → Type 0
HaveTurned turn before after = HaveBecome (turned turn) (last_by turn) (work_of_call (call_of turn)) before after

-- in no shard the handle or the number stands in the way
abbrev pub AreAllowed : Turn → List MapState → Type 0
AreAllowed turn [] = Unit {0}
AreAllowed turn (s ∷ ss) =
    (denial_by (changes_map (call_of turn)) false (map.get (handles_of s) (handle_of (call_of turn))) 0 ≡ None) × IsFree turn (handles_of s) × AreAllowed turn ss

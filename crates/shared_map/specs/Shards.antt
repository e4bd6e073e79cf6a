-- The shards of one map, and the world of the whole.
use Rattle.std.specs.Prelude.{◌≡◌, ℕ, ◌≤◌, Bool, true, Option, Some, None, List, [], ◌∷◌, length, map, option_map, option_to_list, slice_get, sum_by, not, nat_eq}
use Rattle.std.specs.List.{list_any}
use Rattle.shared_map.specs.Vocabulary.{HashKind, Access, Call, HandleMap}
use Rattle.ctrie_map.specs.Changes.{IsFullFor, LacksSlots}
use Rattle.ctrie_map.specs.Cores.{is_worn_out}
use Rattle.ctrie_map.specs.Maps.{MapState, free_of, handles_of, slots_asked}
use Rattle.ctrie_map.specs.Restoring.{is_worn_out_to_restore}
use Rattle.ctrie_map.specs.Sharding.{may_lack_slots}
use Rattle.shared_map.specs.Asks.{key_in, place_of}
use Rattle.shared_map.specs.Uniting.{AreOfKinds, AreOwnFrom, united}

abbrev pub worlds_of : List MapState → List HandleMap
worlds_of shards = map handles_of shards

-- the open handles of the whole, each with its kind and its finite map
abbrev pub world_of_all : List MapState → HandleMap
world_of_all shards = united (worlds_of shards)

abbrev pub AreHashed : HashKind → List MapState → Type 0
AreHashed hash [] = Unit {0}
AreHashed hash (s ∷ ss) = (s.core.limits.hash ≡ hash) × AreHashed hash ss

-- the number that was given last, as the first of these has it
abbrev pub last_given : List MapState → ℕ
last_given [] = 0
last_given (s ∷ ss) = s.names.last

-- These are the shards of one map: they have this hash, the same handles are open in all, and a key has its values in the shard of its place alone.
pub record AreShards (hash : HashKind) (shards : List MapState) : Type 0 where
  pub kinds : ℕ → Option Access
  pub some : 1 ≤ length shards
  pub few : length shards ≤ 64
  pub hashed : AreHashed hash shards
  pub alike : AreOfKinds kinds (worlds_of shards)
  pub own : AreOwnFrom (place_of hash (length shards)) 0 (worlds_of shards)

-- ---- the shards that a call is about

abbrev pub place_in : HashKind → ℕ → Call → Option ℕ
place_in hash shards call = option_map (place_of hash shards) (key_in call)

abbrev pub those_at : Option ℕ → List MapState → List MapState
those_at None shards = shards
those_at (Some i) shards = option_to_list (slice_get shards i)

-- that of its key, or all
abbrev pub concerned : HashKind → Call → List MapState → List MapState
concerned hash call shards = those_at (place_in hash (length shards) call) shards

-- one of these has no more steps left than a call may take
abbrev pub is_any_worn_out : List MapState → Bool
is_any_worn_out shards = list_any (λ s. is_worn_out s.core) shards

-- or than a restore may take, and a call behind it
abbrev pub is_any_worn_out_to_restore : List MapState → Bool
is_any_worn_out_to_restore shards = list_any is_worn_out_to_restore shards

-- one of these may have no slots for such a call
abbrev pub IsAnyTight : Call → List MapState → Type 0
IsAnyTight call shards = (i : ℕ) × (s : MapState) × (slice_get shards i ≡ Some s) × (may_lack_slots call s ≡ true)

-- The only shard has none for it. Where there are several, they are asked before, and one of them may have none.
abbrev pub LackSlots : Call → List MapState → Type 0
LackSlots call (s ∷ []) = LacksSlots s call
LackSlots call shards = IsAnyTight call shards

-- Of several none is tight. The only one isn't asked before: it isn't full for it.
abbrev pub IsNoneTight : Call → List MapState → Type 0
IsNoneTight call (s ∷ []) = ¬ IsFullFor s call
IsNoneTight call shards = ¬ IsAnyTight call shards

-- ---- what is counted of all shards

abbrev pub free_of_all : List MapState → ℕ
free_of_all shards = sum_by free_of shards

-- with those in reserve
abbrev pub unused_in_all : List MapState → ℕ
unused_in_all shards = sum_by (λ s. length s.core.heap.free) shards

abbrev pub steps_of_all : List MapState → ℕ
steps_of_all shards = sum_by (λ s. s.core.steps) shards

abbrev pub slots_of_all : List MapState → ℕ
slots_of_all shards = sum_by slots_asked shards

-- a slot is free in each of these
abbrev pub have_room : List MapState → Bool
have_room shards = not (list_any (λ s. nat_eq (free_of s) 0) shards)

-- What a call comes to, seen in the map.
use Rattle.std.specs.Prelude.{◌≡◌, ℕ, true, Option, Some, None, option_and_then, Result, Ok, Err, if◌then◌else◌}
use Rattle.std.specs.FinMap as map
use Rattle.ctrie_map.specs.Vocabulary.{hash_of, Refusal, Access, Writable, ReadOnly as Frozen, Call, Get, Put, PutIfAbsent, Replace, ReplaceIf, Remove, RemoveIf, Clear, Snapshot, Freeze, Entries}
use Rattle.ctrie_map.specs.Vocabulary.{Count, Reply, NoSlots, Opened, effect, map_of, naming, HandleMap}
use Rattle.ctrie_base.specs.declared.refusals.Refusal.TheVariants as refuse
use Rattle.ctrie_map.specs.declared.errors.MapError.{MapError}
use Rattle.ctrie_map.specs.declared.errors.MapError.TheVariants.{NoHandle, ReadOnly, HandlesFull, BadSizes, WornOut, Memory}
use Rattle.ctrie_map.specs.Changes.{HasLife, LacksSlots, denial_in}
use Rattle.ctrie_map.specs.Cores.{is_worn_out}
use Rattle.ctrie_map.specs.Maps.{MapState, Becomes, HasThen, Stays, handles_of}
use Rattle.ctrie_map.specs.Names.{IsNext}

-- any call but get, entries and count
abbrev pub IsChange : Call → Type 0
IsChange (Get h k) = ⊥
IsChange (Entries h) = ⊥
IsChange (Count h) = ⊥
IsChange call = Unit {0}

-- a call that may change the map of its handle
abbrev pub IsOnMap : Call → Type 0
IsOnMap (Put h k v) = Unit {0}
IsOnMap (PutIfAbsent h k v) = Unit {0}
IsOnMap (Replace h k v) = Unit {0}
IsOnMap (ReplaceIf h k a b) = Unit {0}
IsOnMap (Remove h k) = Unit {0}
IsOnMap (RemoveIf h k v) = Unit {0}
IsOnMap (Clear h) = Unit {0}
IsOnMap call = ⊥

-- the call that opens a copy of this kind
abbrev pub copy_call : Access → ℕ → Call
copy_call Writable handle = Snapshot handle
copy_call Frozen handle = Freeze handle

-- it is begun
abbrev pub IsBegun : MapState → Call → Type 0
IsBegun before call = (denial_in before call ≡ None) × HasLife before

-- a copy of the map of an open handle, under a number that isn't open
abbrev pub copying_any : HandleMap → ℕ → Option ℕ → Access → Option (Reply × HandleMap)
copying_any w h opens access = option_and_then (λ m. option_and_then (λ n. if map.contains_key w n then None else Some (Opened n, naming w n access m)) opens) (map_of w h)

-- A call's reply, and the handles after it; none where it has no effect among these handles. Else than in a history, a read-only map can be copied.
abbrev pub effect_among : (ℕ → ℕ) → HandleMap → Call → Option ℕ → Option (Reply × HandleMap)
effect_among hash w (Snapshot h) opens = copying_any w h opens Writable
effect_among hash w (Freeze h) opens = copying_any w h opens Frozen
effect_among hash w call opens = effect hash w call opens

abbrev pub EffectAmong : (ℕ → ℕ) → HandleMap → Call → Option ℕ → Reply → HandleMap → Type 0
EffectAmong hash w call opens answer next = effect_among hash w call opens ≡ Some (answer, next)

-- This is its reply, and what it does. Of the number under which a copy is opened this is so.
abbrev pub AnswersBy : (ℕ → Type 0) → MapState → Call → Reply → MapState → Type 0
AnswersBy IsNumber before call NoSlots after = LacksSlots before call × Stays before after
AnswersBy IsNumber before call (Opened copy) after =
    IsNumber copy × ((next : HandleMap) × EffectAmong (hash_of before.core.limits.hash) (handles_of before) call (Some copy) (Opened copy) next × HasThen before next copy after)
AnswersBy IsNumber before call answer after =
    (opens : Option ℕ) × (next : HandleMap) × EffectAmong (hash_of before.core.limits.hash) (handles_of before) call opens answer next × Becomes before next after

-- the number is the next one
abbrev pub Answers : MapState → Call → Reply → MapState → Type 0
Answers before = AnswersBy (IsNext before.names.last (handles_of before)) before

-- what the map tells of a refusal of the core
abbrev pub of_refusal : Refusal → MapError
of_refusal refuse.NoHandle = NoHandle
of_refusal refuse.ReadOnly = ReadOnly
of_refusal refuse.HandlesFull = HandlesFull
of_refusal refuse.Spent = WornOut
of_refusal refuse.BadLimits = BadSizes
of_refusal refusal = Memory

-- what it comes to, where this is so of the number of a copy
abbrev pub PerformsBy : (ℕ → Type 0) → Result Reply MapError → MapState → Call → MapState → Type 0
PerformsBy IsNumber (Ok answer) before call after = IsBegun before call × AnswersBy IsNumber before call answer after
PerformsBy IsNumber (Err WornOut) before call after = (denial_in before call ≡ None) × (is_worn_out before.core ≡ true) × (after ≡ before)
PerformsBy IsNumber (Err error) before call after = (denial_in before call ≡ Some error) × (after ≡ before)

-- and where it is the next one
abbrev pub Performs : Result Reply MapError → MapState → Call → MapState → Type 0
Performs told before call after = PerformsBy (IsNext before.names.last (handles_of before)) told before call after

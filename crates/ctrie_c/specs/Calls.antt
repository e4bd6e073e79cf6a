-- What the calls do, each in the words of the map's own contract.
use Rattle.std.specs.Prelude.{◌≡◌, ◌⊎◌, ◌<◌, ◌≤◌, ◌+◌, ◌-◌, ℕ, nat_eq, List, length, Bool, Option, Some, None, Result, Ok, Err, IfOk, IfErr, IsTrue, if◌then◌else◌}
use Rattle.std.specs.Prelude as list
use Rattle.std.specs.FinMap as map
use Rattle.ctrie_c.specs.Vocabulary.{HashKind, Low, Fold, Wide, Block, Access, Writable, ReadOnly, Call, Clear, Close, Freeze, Put, PutIfAbsent, Remove, RemoveIf, Replace, ReplaceIf, Snapshot}
use Rattle.ctrie_c.specs.Vocabulary.{has_value, KeyMap, handle_limit, in_use, most_slots}
use Rattle.shared_map.specs.Beneath.proof_memory.specs.Sweeping.{UsesReached}
use Rattle.shared_map.specs.Beneath.ctrie_map.specs.declared.errors.MapError.{MapError}
use Rattle.shared_map.specs.Beneath.ctrie_map.specs.declared.errors.MapError.TheVariants.{Full, Memory}
use Rattle.shared_map.specs.Beneath.ctrie_map.specs.Batches.{work_of_changes}
use Rattle.shared_map.specs.Beneath.ctrie_map.specs.Changes.{Changes, Closes, Copies, HasLife, HasRoom, IsAny, IsCrowdedAt, IsFullFor, Refuses}
use Rattle.shared_map.specs.Beneath.ctrie_map.specs.Changes.{removed_if_it_has, set_if_absent, set_if_it_has, set_if_there}
use Rattle.shared_map.specs.Beneath.ctrie_map.specs.Costs.{WorksUpTo, work_of_a_change, work_of_a_close, work_of_a_copy}
use Rattle.shared_map.specs.Beneath.ctrie_map.specs.Filling.{PutsAll, RefusesPuts}
use Rattle.shared_map.specs.Beneath.ctrie_map.specs.Names.{IsNext}
use Rattle.shared_map.specs.Beneath.ctrie_map.specs.Popping.{RefusesPop}
use Rattle.shared_map.specs.Beneath.ctrie_map.specs.Maps.{AreSlots, IsNew, MapState, RefusesSizes, free_of, handles_of, slots_asked}
use Rattle.shared_map.specs.Beneath.ctrie_map.specs.Reading.{IsOneOf, Reads, reading, without, writability}
use Rattle.shared_map.specs.Beneath.ctrie_map.specs.Restoring.{HasLifeIfTried, IsFullToRestore, RefusesRestore, Restores}
use Rattle.ctrie_c.specs.Answers.{bad_hash, code_limit, done_told, has_map}
use Rattle.ctrie_c.specs.Buffers.{Fills}
use Rattle.ctrie_c.specs.Listing.{entry_of}
use Rattle.ctrie_c.specs.declared.listing.Pair.{Pair}

-- ---- making

-- the hash of this number
abbrev pub kind_of : ℕ → Option HashKind
kind_of number = if nat_eq number 0 then Some Low else if nat_eq number 1 then Some Fold else if nat_eq number 2 then Some Wide else if nat_eq number 3 then Some Block else None

-- a map of so many slots with this hash, where there was none
abbrev pub Makes : Option HashKind → ℕ → ℕ → Option MapState → Option MapState → Type 0
Makes None slots code before after = (code ≡ bad_hash) × (after ≡ before)
Makes (Some kind) slots code (Some old) after = (code ≡ has_map) × (after ≡ Some old)
Makes (Some kind) slots code None (Some made) = (code ≡ 0) × IsNew slots kind made × AreSlots slots
Makes (Some kind) slots code None None = (code < code_limit) × IfOk (done_told code) (λ _. ⊥) × IfErr (done_told code) (RefusesSizes slots)

-- ---- reading

abbrev pub Gets : ℕ → ℕ → Result (Option ℕ) MapError → MapState → MapState → Type 0
Gets handle key told old new = (told ≡ reading old handle (λ m. map.get m key)) × (new ≡ old)

abbrev pub Contains : ℕ → ℕ → Result Bool MapError → MapState → MapState → Type 0
Contains handle key told old new = (told ≡ reading old handle (λ m. map.contains_key m key)) × (new ≡ old)

abbrev pub TellsOpen : ℕ → Result Bool MapError → MapState → MapState → Type 0
TellsOpen handle told old new =
    (told ≡ Ok (map.contains_key (handles_of old) handle)) × (IsTrue (map.contains_key (handles_of old) handle) → handle < handle_limit) × (new ≡ old)

abbrev pub TellsWritable : ℕ → Result Bool MapError → MapState → MapState → Type 0
TellsWritable handle told old new = (told ≡ writability old handle) × (new ≡ old)

abbrev pub Counts : ℕ → Result ℕ MapError → MapState → MapState → Type 0
Counts handle told old new = (told ≡ reading old handle (λ m. map.len m)) × IfOk told (λ count. count ≤ most_slots) × (new ≡ old)

abbrev pub Finds : ℕ → Result (Option (ℕ × ℕ)) MapError → MapState → MapState → Type 0
Finds handle told old new = Reads old handle IsOneOf told × (new ≡ old)

abbrev pub CountsHandles : Result ℕ MapError → MapState → MapState → Type 0
CountsHandles told old new = (told ≡ Ok (map.len (handles_of old))) × (map.len (handles_of old) ≤ handle_limit) × (new ≡ old)

-- and these, in ascending order, as many as there is room for
abbrev pub ListsHandles : List ℕ → List ℕ → Result ℕ MapError → MapState → MapState → Type 0
ListsHandles before after told old new = CountsHandles told old new × Fills (map.keys (handles_of old)) before after

abbrev pub CountsSlots : Result ℕ MapError → MapState → MapState → Type 0
CountsSlots told old new = (told ≡ Ok (slots_asked old)) × (new ≡ old)

-- the slots that were asked for and that no handle reaches
abbrev pub CountsFree : Result ℕ MapError → MapState → MapState → Type 0
CountsFree told old new =
    (told ≡ Ok (free_of old)) × UsesReached old.core × (free_of old ≡ slots_asked old - length (in_use old.core.heap)) × (new ≡ old)

-- ---- changing

-- a change of a key by this call, which is refused where too many keys have its hash
abbrev pub Sets : Call → ℕ → ℕ → (KeyMap → KeyMap) → Result (Option ℕ) MapError → MapState → MapState → Type 0
Sets call handle key change told old new =
    IfOk told (λ before. HasLife old × Changes old handle (λ m. (before ≡ map.get m key) × HasRoom old key m) change new)
    × IfErr told (Refuses old call (IsCrowdedAt old handle key) new) × (IsFullFor old call → told ≡ Err Full) × WorksUpTo work_of_a_change old new

abbrev pub Puts : ℕ → ℕ → ℕ → Result (Option ℕ) MapError → MapState → MapState → Type 0
Puts handle key value = Sets (Put handle key value) handle key (λ m. map.insert m key value)

abbrev pub PutsIfAbsent : ℕ → ℕ → ℕ → Result (Option ℕ) MapError → MapState → MapState → Type 0
PutsIfAbsent handle key value = Sets (PutIfAbsent handle key value) handle key (set_if_absent key value)

-- all of these keys are set, or none; memory may be wanting for a list of them
abbrev pub PutsThem : ℕ → List Pair → Result (Unit {0}) MapError → MapState → MapState → Type 0
PutsThem handle pairs told old new =
    IfOk told (λ _. PutsAll old handle (list.map entry_of pairs) new)
    × IfErr told (λ error. RefusesPuts old handle (list.map entry_of pairs) new error ⊎ ((error ≡ Memory) × (new ≡ old)))
    × WorksUpTo (work_of_changes (length pairs) + work_of_a_close) old new

-- a change that tells the value before
abbrev pub Exchanges : Call → ℕ → ℕ → (KeyMap → KeyMap) → Result (Option ℕ) MapError → MapState → MapState → Type 0
Exchanges call handle key change told old new =
    IfOk told (λ before. HasLife old × Changes old handle (λ m. before ≡ map.get m key) change new) × IfErr told (Refuses old call ⊥ new)
    × WorksUpTo work_of_a_change old new

abbrev pub Replaces : ℕ → ℕ → ℕ → Result (Option ℕ) MapError → MapState → MapState → Type 0
Replaces handle key value = Exchanges (Replace handle key value) handle key (set_if_there key value)

abbrev pub Removes : ℕ → ℕ → Result (Option ℕ) MapError → MapState → MapState → Type 0
Removes handle key = Exchanges (Remove handle key) handle key (λ m. map.remove m key)

-- a change of a key that has this value
abbrev pub ChangesIf : Call → ℕ → ℕ → ℕ → (KeyMap → KeyMap) → Result Bool MapError → MapState → MapState → Type 0
ChangesIf call handle key value change told old new =
    IfOk told (λ done. HasLife old × Changes old handle (λ m. done ≡ has_value m key value) change new) × IfErr told (Refuses old call ⊥ new)
    × WorksUpTo work_of_a_change old new

abbrev pub ReplacesIf : ℕ → ℕ → ℕ → ℕ → Result Bool MapError → MapState → MapState → Type 0
ReplacesIf handle key before value = ChangesIf (ReplaceIf handle key before value) handle key before (set_if_it_has key before value)

abbrev pub RemovesIf : ℕ → ℕ → ℕ → Result Bool MapError → MapState → MapState → Type 0
RemovesIf handle key value = ChangesIf (RemoveIf handle key value) handle key value (removed_if_it_has key value)

-- any one key is taken out
abbrev pub Pops : ℕ → Result (Option (ℕ × ℕ)) MapError → MapState → MapState → Type 0
Pops handle told old new =
    IfOk told (λ popped. HasLife old × Changes old handle (λ m. IsOneOf m popped) (without popped) new)
    × IfErr told (RefusesPop old handle new) × WorksUpTo work_of_a_change old new

abbrev pub Clears : ℕ → Result (Unit {0}) MapError → MapState → MapState → Type 0
Clears handle told old new =
    IfOk told (λ _. HasLife old × Changes old handle IsAny (λ m. map.empty) new) × IfErr told (Refuses old (Clear handle) ⊥ new) × WorksUpTo work_of_a_copy old new

-- ---- handles

-- a copy of this kind by this call, which has the next number
abbrev pub Opens : Call → ℕ → Access → Result ℕ MapError → MapState → MapState → Type 0
Opens call handle access told old new =
    IfOk told (λ copy. HasLife old × Copies old handle access copy new) × IfOk told (IsNext old.names.last (handles_of old)) × IfErr told (Refuses old call ⊥ new)
    × (IsFullFor old call → told ≡ Err Full) × WorksUpTo work_of_a_copy old new

abbrev pub Snapshots : ℕ → Result ℕ MapError → MapState → MapState → Type 0
Snapshots handle = Opens (Snapshot handle) handle Writable

abbrev pub Freezes : ℕ → Result ℕ MapError → MapState → MapState → Type 0
Freezes handle = Opens (Freeze handle) handle ReadOnly

abbrev pub RestoresIt : ℕ → ℕ → Result (Unit {0}) MapError → MapState → MapState → Type 0
RestoresIt handle copy told old new =
    IfOk told (λ _. Restores old handle copy new) × (handle ≡ copy → new ≡ old) × IfErr told (RefusesRestore old handle copy new)
    × HasLifeIfTried told old handle copy × (IsFullToRestore old handle copy → told ≡ Err Full) × WorksUpTo (work_of_a_copy + work_of_a_close) old new

abbrev pub ClosesIt : ℕ → Result (Unit {0}) MapError → MapState → MapState → Type 0
ClosesIt handle told old new =
    IfOk told (λ _. HasLife old × Closes old handle new) × IfErr told (Refuses old (Close handle) ⊥ new) × WorksUpTo work_of_a_close old new

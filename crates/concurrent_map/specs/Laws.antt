-- Laws of orders that explain calls: what threads may count on, whatever the order is.
use Rattle.std.specs.Prelude.{◌≡◌, ◌≢◌, ◌⊎◌, ◌+◌, ◌&&◌, ℕ, Bool, true, false, All, List, [], ◌∷◌, Some, None, if◌then◌else◌}
use Rattle.std.specs.FinMap as map
use Rattle.std.specs.List.Sorted.{IsPermutation}
use Rattle.history.specs.declared.calls.Call.{Call}
use Rattle.history.specs.declared.calls.Call.TheVariants.{Get, Put, PutIfAbsent, ReplaceIf, RemoveIf, Snapshot, Freeze, Close, Entries}
use Rattle.history.specs.declared.replies.Reply.{Reply}
use Rattle.history.specs.declared.replies.Reply.TheVariants.{Opened, Pairs, Truth}
use Rattle.history.specs.Effects.{writable_map_of, Effect}
use Rattle.history.specs.Orders.{Answered, Replays}
use Rattle.history.specs.Worlds.{HandleMap, KeyMap}
use Rattle.lock_free.specs.OneKey.{touches, value_in}
use Rattle.lock_free.specs.Scans.{by_key}

-- ---- exports

-- An export is of the moment of its freeze: what is listed of a copy is what the map had where the copy was frozen, whatever was called in between, but for a close of it.
abbrev pub ExportsAreOfTheFreeze : Type 0
ExportsAreOfTheFreeze =
    (hash : ℕ → ℕ) (handle copy : ℕ) (between : List Answered) (before frozen now after : HandleMap) (listed : List (ℕ × ℕ)) →
    Effect hash before (Freeze handle) (Some copy) (Opened copy) frozen → All (λ one. one.call ≢ Close copy) between → Replays hash between frozen now →
    Effect hash now (Entries copy) None (Pairs listed) after → (m : KeyMap) × (writable_map_of before handle ≡ Some m) × (listed ≡ map.entries m)

-- ---- listings in parts

-- The parts of a listing of a copy, all together, have each pair once that the map had where the copy was frozen, and no other one.
abbrev pub ScansListOneMoment : Type 0
ScansListOneMoment =
    (hash : ℕ → ℕ) (handle copy : ℕ) (between : List Answered) (before frozen now after : HandleMap) (told : List (ℕ × ℕ)) →
    Effect hash before (Freeze handle) (Some copy) (Opened copy) frozen → All (λ one. one.call ≢ Close copy) between → Replays hash between frozen now →
    Effect hash now (Entries copy) None (Pairs (by_key told)) after → (m : KeyMap) × (writable_map_of before handle ≡ Some m) × IsPermutation told (map.entries m)

-- ---- counts

-- it looks at a key, or adds one to it where it has a certain number
abbrev pub IsCount : Call → Type 0
IsCount (Get h k) = Unit {0}
IsCount (ReplaceIf h k a b) = b ≡ a + 1
IsCount call = ⊥

abbrev pub CountsAt : ℕ → ℕ → Answered → Type 0
CountsAt handle key one = (touches handle key one.call one.opens ≡ false) ⊎ IsCount one.call

abbrev pub is_yes : Reply → Bool
is_yes (Truth so) = so
is_yes answer = false

-- how many calls on the key were answered yes
abbrev pub counted : ℕ → ℕ → List Answered → ℕ
counted handle key [] = 0
counted handle key (one ∷ more) = (if touches handle key one.call one.opens && is_yes one.answer then 1 else 0) + counted handle key more

-- No count is lost: where each call on a key counts it, its number grows by as much as were answered yes.
abbrev pub NoCountIsLost : Type 0
NoCountIsLost =
    (hash : ℕ → ℕ) (handle key number : ℕ) (calls : List Answered) (before after : HandleMap) → value_in before handle key ≡ Some number → All (CountsAt handle key) calls →
    Replays hash calls before after → value_in after handle key ≡ Some (number + counted handle key calls)

-- ---- tasks

-- it gives a value to a key that has none, or opens a handle
abbrev pub gives : Call → Bool
gives (Put h k v) = true
gives (PutIfAbsent h k v) = true
gives (Snapshot h) = true
gives (Freeze h) = true
gives call = false

abbrev pub GivesNone : ℕ → ℕ → Answered → Type 0
GivesNone handle key one = (touches handle key one.call one.opens ≡ false) ⊎ (gives one.call ≡ false)

-- A task is done once: of two that remove a key, where nobody gives it a value in between, one at most is answered yes.
abbrev pub TasksAreDoneOnce : Type 0
TasksAreDoneOnce =
    (hash : ℕ → ℕ) (handle key first second : ℕ) (between : List Answered) (before removed now after : HandleMap) →
    Effect hash before (RemoveIf handle key first) None (Truth true) removed → All (GivesNone handle key) between → Replays hash between removed now →
    ¬ Effect hash now (RemoveIf handle key second) None (Truth true) after

-- The pairs of a map that a closure wants.
use Rattle.std.specs.Prelude.{◌≡◌, ◌≢◌, ◌≤◌, ◌+◌, ℕ, Bool, true, List, [], ◌∷◌, ◌++◌, length, Some, None, if◌then◌else◌}
use Rattle.std.specs.FinMap as map
use Rattle.std.specs.List.{FoldsTo}
use Rattle.ctrie_map.specs.Vocabulary.{Writable, naming, KeyMap}
use Rattle.ctrie_map.specs.declared.batches.Batch.TheVariants.{Removes}
use Rattle.ctrie_map.specs.declared.errors.MapError.{MapError}
use Rattle.ctrie_map.specs.declared.errors.MapError.TheVariants.{Full, WornOut, Memory}
use Rattle.ctrie_map.specs.Batches.{HasLifeFor, LacksSlotsAmong, batch_denial, work_of_changes}
use Rattle.ctrie_map.specs.Costs.{WorksUpTo, work_of_a_close}
use Rattle.ctrie_map.specs.Drafts.{HasMap, is_worn_out_by}
use Rattle.ctrie_map.specs.Maps.{MapState, Becomes, Stays, handles_of}

-- f may be asked of each of these pairs, whatever it has said of those before it: a call leads from one state of it to another
abbrev pub CanBeAsked : {F : Type 0} → (F → ℕ → ℕ → Type 0) → (F → ℕ → ℕ → Bool → F → Type 0) → F → List (ℕ × ℕ) → Type 0
CanBeAsked {F} Allows asks f pairs =
    (before : List (ℕ × ℕ)) (key value : ℕ) (after : List (ℕ × ℕ)) (now : F) → pairs ≡ before ++ (key, value) ∷ after →
    FoldsTo (λ g pair next. (wants : Bool) × asks g pair.0 pair.1 wants next) f before now → Allows now key value

-- f, asked of these pairs one after the other, wants some of them, and doesn't want the others
abbrev pub Sifts : {F : Type 0} → (F → ℕ → ℕ → Bool → F → Type 0) → F → List (ℕ × ℕ) → List (ℕ × ℕ) → List (ℕ × ℕ) → Type 0
Sifts asks f [] wanted unwanted = (wanted ≡ []) × (unwanted ≡ [])
Sifts {F} asks f (pair ∷ pairs) wanted unwanted =
    (wants : Bool) × (next : F) × (more : List (ℕ × ℕ)) × (less : List (ℕ × ℕ)) × asks f pair.0 pair.1 wants next × Sifts asks next pairs more less
    × (wanted ≡ (if wants then pair ∷ more else more)) × (unwanted ≡ (if wants then less else pair ∷ less))

-- f, asked of each pair of the handle's map in ascending order of keys, wants those that are left, and doesn't want the others
abbrev pub Divides : {F : Type 0} → (F → ℕ → ℕ → Bool → F → Type 0) → F → MapState → ℕ → KeyMap → List (ℕ × ℕ) → Type 0
Divides asks f before handle left unwanted = (m : KeyMap) × HasMap (handles_of before) handle m × Sifts asks f (map.entries m) (map.entries left) unwanted

-- The writable handle has the pairs that are wanted, and no others; all other handles stay. Where all are, nothing has changed; else steps were left for it, and so many
-- it took at most.
abbrev pub Retains : {F : Type 0} → (F → ℕ → ℕ → Bool → F → Type 0) → F → MapState → ℕ → MapState → Type 0
Retains asks f before handle after =
    (left : KeyMap) × (unwanted : List (ℕ × ℕ)) × Divides asks f before handle left unwanted × (unwanted ≡ [] → after ≡ before)
    × (unwanted ≢ [] → HasLifeFor before unwanted × WorksUpTo (work_of_changes (length unwanted) + work_of_a_close) before after)
    × Becomes before (naming (handles_of before) handle Writable left) after

-- Why it was refused: by the pairs that aren't wanted, of which there are some, or before the closure was asked of any. All maps stay as they are.
abbrev pub RefusesRetain : {F : Type 0} → (F → ℕ → ℕ → Bool → F → Type 0) → F → MapState → ℕ → MapState → MapError → Type 0
RefusesRetain asks f before handle after Full =
    (batch_denial before handle ≡ None) × (2 ≤ map.len (handles_of before))
    × ((left : KeyMap) × (unwanted : List (ℕ × ℕ)) × Divides asks f before handle left unwanted × (unwanted ≢ []) × HasLifeFor before unwanted
    × LacksSlotsAmong Removes before handle unwanted × WorksUpTo (work_of_changes (length unwanted) + work_of_a_close) before after) × Stays before after
RefusesRetain asks f before handle after WornOut =
    (batch_denial before handle ≡ None)
    × ((left : KeyMap) × (unwanted : List (ℕ × ℕ)) × Divides asks f before handle left unwanted × (unwanted ≢ [])
    × (is_worn_out_by (work_of_changes (length unwanted)) before.core ≡ true)) × (after ≡ before)
RefusesRetain asks f before handle after Memory = (batch_denial before handle ≡ None) × (after ≡ before)
RefusesRetain asks f before handle after error = (batch_denial before handle ≡ Some error) × (after ≡ before)

-- What the parts of a restore in all shards come to.
use Rattle.std.specs.Prelude.{◌≡◌, ◌≢◌, ℕ, Bool, true, false, not, List, [], ◌∷◌, Option, Some, None, Result, Ok, Err, IfOk, IfErr, if◌then◌else◌}
use Rattle.shared_map.specs.Vocabulary.{Writable, Snapshot}
use Rattle.ctrie_map.specs.Costs.{WorksUpTo}
use Rattle.ctrie_map.specs.declared.errors.MapError.{MapError}
use Rattle.ctrie_map.specs.declared.errors.MapError.TheVariants.{Full, HandlesFull, ReadOnly, WornOut}
use Rattle.ctrie_map.specs.Maps.{MapState}
use Rattle.ctrie_map.specs.Restoring.{HasLifeIfTried, IsFullToRestore, RefusesRestore, Restores, restore_denial}
use Rattle.shared_map.specs.declared.asks.Answer.TheVariants.{Restored}
use Rattle.shared_map.specs.declared.restoring.Restoring.{Restoring}
use Rattle.shared_map.specs.declared.turning.Turn.TheVariants as turn
use Rattle.shared_map.specs.Asks.{Told}
use Rattle.shared_map.specs.Restores.{work_of_a_restore}
use Rattle.shared_map.specs.Shards.{IsAnyTight, is_any_worn_out_to_restore}
use Rattle.shared_map.specs.Turning.{HaveBecome, turned}

-- what one map tells, and what becomes of it
abbrev pub ComesTo : MapState → ℕ → ℕ → Result (Unit {0}) MapError → MapState → Type 0
ComesTo before handle copy told after =
    IfOk told (λ _. Restores before handle copy after) × (handle ≡ copy → after ≡ before)
    × IfErr told (RefusesRestore before handle copy after) × HasLifeIfTried told before handle copy × (IsFullToRestore before handle copy → told ≡ Err Full)

abbrev pub RestoresOne : Restoring → MapState → Restoring → MapState → Type 0
RestoresOne before shard after later =
    (after.handle ≡ before.handle) × (after.copy ≡ before.copy) × ComesTo shard before.handle before.copy after.told later × WorksUpTo work_of_a_restore shard later

-- the only shard is asked
abbrev pub IsRestoredAlone : ℕ → ℕ → List MapState → Result (Unit {0}) MapError → List MapState → Type 0
IsRestoredAlone handle copy before told after =
    (s t : MapState) × (before ≡ s ∷ []) × (after ≡ t ∷ []) × ComesTo s handle copy told t × WorksUpTo work_of_a_restore s t

-- why it isn't begun: by what is known of both handles, and whether there is no handle for it
abbrev pub restore_denial_from : Result Bool MapError → Result Bool MapError → Bool → Option MapError
restore_denial_from (Err error) copy full = Some error
restore_denial_from (Ok writable) (Err error) full = Some error
restore_denial_from (Ok writable) (Ok known) full = if not writable then Some ReadOnly else (if full then Some HandlesFull else None)

-- no shard denies it
abbrev pub AreUndenied : ℕ → ℕ → List MapState → Type 0
AreUndenied handle copy [] = Unit {0}
AreUndenied handle copy (s ∷ ss) = (restore_denial s handle copy ≡ None) × AreUndenied handle copy ss

-- a restore in all shards that nothing denies: it is refused before any shard has changed, or it is done in all, by a copy that gets the handle's number
abbrev pub RestoresEach : ℕ → ℕ → List MapState → Told → List MapState → Type 0
RestoresEach handle copy before (Err WornOut) after = (handle ≢ copy) × (is_any_worn_out_to_restore before ≡ true) × (after ≡ before)
RestoresEach handle copy before (Err Full) after =
    (handle ≢ copy) × (is_any_worn_out_to_restore before ≡ false) × IsAnyTight (Snapshot copy) before × (after ≡ before)
RestoresEach handle copy before (Err error) after = ⊥
RestoresEach handle copy before (Ok told) after =
    (told ≡ Restored) × (handle ≡ copy → after ≡ before)
    × (handle ≢ copy → (is_any_worn_out_to_restore before ≡ false) × ¬ IsAnyTight (Snapshot copy) before)
    × (handle ≢ copy → AreUndenied handle copy before → HaveBecome (turned (turn.Copy copy handle Writable)) (λ last. last) work_of_a_restore before after)

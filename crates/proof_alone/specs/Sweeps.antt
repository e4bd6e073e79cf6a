-- The sweep while nothing runs.
use Rattle.std.specs.Prelude.{◌≡◌, ◌≢◌, ℕ, zero, suc, ◌+◌, ◌*◌, ◌≤◌, false, [], length, Ok}
use Rattle.proof_alone.specs.Vocabulary.{in_use, Outcome, Sweep, is_busy, next, State, world_of, UsesReached, steps_for_a_slot, IsOfRun}

-- so many steps of the sweep lead from one state to the other, and limbo isn't empty before any of them
pub data Sweeps (before : State) : ℕ → State → Type 0 where
  unswept : Sweeps before zero before
  sweeps : {n : ℕ} {middle after : State} {outcome : Outcome} → Sweeps before n middle → middle.limbo ≢ [] → next middle Sweep ≡ Ok (outcome, after) → Sweeps before (suc n) after

-- and the most, whatever stands in limbo
abbrev pub most_sweeps : State → ℕ
most_sweeps state = steps_for_a_slot state.limits.actors * (state.limits.slots + 1)

-- what the sweep leaves
pub record Swept (before : State) (n : ℕ) (after : State) : Type 0 where
  pub of_run : IsOfRun after
  pub limits : after.limits ≡ before.limits
  pub rest : is_busy after ≡ false
  pub world : world_of after ≡ world_of before
  pub steps : after.steps ≡ before.steps + n
  -- it takes no more for each slot that is freed, and once more so many
  pub few : n + steps_for_a_slot before.limits.actors * length before.heap.free ≤ steps_for_a_slot before.limits.actors * (length after.heap.free + 1)
  pub most : n ≤ most_sweeps before

abbrev pub SweepsLeave : Type 0
SweepsLeave = (before : State) (n : ℕ) (after : State) → IsOfRun before → is_busy before ≡ false → Sweeps before n after → Swept before n after

-- ---- where limbo is empty

-- so it is where nothing runs and limbo is empty; and slots in use and free ones are all slots
abbrev pub CleanIsReached : Type 0
CleanIsReached =
    (state : State) → IsOfRun state → is_busy state ≡ false → state.limbo ≡ [] →
    UsesReached state × (length (in_use state.heap) + length state.heap.free ≡ state.limits.slots)

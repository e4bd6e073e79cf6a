-- The sweep, step by step, as long as something stands in limbo.
use Rattle.std.specs.Prelude.{◌≡◌, ◌≢◌, ℕ, zero, suc, [], Ok}
use Rattle.machine_core.specs.Vocabulary.{Outcome, Sweep, next, Worked, WorksLittle}

-- so many steps of the sweep lead from one state to the other, each of little work, and limbo isn't empty before any of them
pub data Reclaims (before : Worked) : ℕ → Worked → Type 0 where
  at_first : Reclaims before zero before
  one_more : {n : ℕ} {middle after : Worked} {outcome : Outcome} → Reclaims before n middle → middle.state.limbo ≢ [] → next middle.state Sweep ≡ Ok (outcome, after.state) →
      WorksLittle middle after → Reclaims before (suc n) after

-- How many steps of the sweep it takes to free slots, where no operation runs.
use Rattle.std.specs.Prelude.{◌≡◌, ◌≢◌, ◌≤◌, ◌+◌, ◌*◌, ℕ, false, [], length}
use Rattle.std.specs.Prelude.{Ok}
use Rattle.std.proofs.Common.{sym, ap, ◌∙◌}
use Rattle.proof_alone.specs.Vocabulary.{Bounds, Outcome, is_busy, next, State, IsOfRun}
use Rattle.proof_alone.specs.Beneath.machine_model.specs.declared.steps.Step.TheVariants as step
use Rattle.proof_alone.specs.Beneath.machine_model.proofs.Along.{limits_along}
use Rattle.proof_alone.specs.Beneath.machine_model.proofs.Moves.{moved}
use Rattle.proof_alone.specs.Beneath.proof_memory.proofs.Holding.Sizes.{sizes_stay}
use Rattle.proof_alone.specs.Beneath.proof_memory.proofs.Limbo.Epochs.{LimboLies, limbo_lies}
use Rattle.proof_alone.specs.Beneath.proof_memory.proofs.Safety.AtEachTime.{safe_along}
use Rattle.proof_alone.specs.Beneath.proof_memory.proofs.Safety.States.{IsSafe}
use Rattle.proof_alone.proofs.Runs.{by_run}
use Rattle.proof_alone.specs.Beneath.proof_memory.proofs.Limbo.Nearing.{Nears, counts_along, move_nears, ripe_most, until_ripe}

-- ---- a state that a run leads to

-- what the sweep finds there
pub record IsSwept (state : State) : Type 0 where
  pub safe : IsSafe state
  pub lies : LimboLies state
  pub counts : 1 ≤ state.cursor
  pub actors : length state.actors ≡ state.limits.actors

pub is_swept : (state : State) → IsOfRun state → IsSwept state
is_swept = by_run IsSwept (λ limits steps ok fit. record {
  safe = safe_along limits ok steps;
  lies = limbo_lies limits steps;
  counts = counts_along limits steps;
  actors = (sizes_stay limits steps).1 ∙ ap (λ (b : Bounds). b.actors) (sym (limits_along limits steps));
})

-- how many steps it is until the next slot is freed
abbrev pub until : State → ℕ
until state = until_ripe state.limits.actors state.cursor state.epoch state.limbo

pub until_at_most : (state : State) → IsSwept state → until state ≤ 2 * state.limits.actors + 2
until_at_most state h = ripe_most state.limits.actors state.cursor state.epoch h.counts state.limbo

-- a step of the sweep frees a slot or comes nearer to it, and nothing runs behind it
pub step_nears : (state : State) → IsSwept state → is_busy state ≡ false → state.limbo ≢ [] → (o : Outcome) (after : State) → next state step.Sweep ≡ Ok (o, after) →
    Nears state.limits.actors state after × (is_busy after ≡ false)
step_nears state h idle some o after e = move_nears state h.safe h.lies idle some state.limits.actors h.actors o after (moved state step.Sweep o after e)

-- A step adds at most one place to the order.
use Rattle.std.proofs.Common.{◌+◌, ◌≤◌, length, Result, sym, subst, inl, inr, arith}
use Rattle.step_machine.specs.Vocabulary.{Refusal, Outcome, Step, bounded}
use Rattle.proof_runs.specs.Laws.{OnePlaceAStep}
use Rattle.proof_runs.specs.Machines.{Taken, past_of, Applied}
use Rattle.proof_runs.proofs.Applying.{outcome_of}

pub one_place_more : OnePlaceAStep → (result : Result Outcome Refusal) (before : Taken) (s : Step) (after : Taken) → Applied result before s after →
    length (past_of after).places ≤ length (past_of before).places + 1
one_place_more law result before s after is = elim (outcome_of result before s after is) [
  | inl taken ↦ subst (λ (m : Taken). length (past_of m).places ≤ length (past_of before).places + 1) (sym taken.1) (law (bounded before.limits) before.steps s)
  | inr same ↦ subst (λ (m : Taken). length (past_of m).places ≤ length (past_of before).places + 1) (sym same) (omega arith)
]

-- A call that begins and goes on.
use Rattle.std.specs.Prelude.{◌≡◌, ℕ, Option, Some, None, Result, Ok, Err}
use Rattle.std.proofs.Common.{refl, subst, arith, inl, inr}
use Rattle.proof_runs.specs.Vocabulary.{Refusal, Call, Reply, State, next, begin_denial, begin_unless}
use Rattle.proof_runs.specs.Beneath.ctrie_base.specs.declared.refusals.Refusal.TheVariants as refuse
use Rattle.proof_runs.specs.Beneath.machine_model.specs.declared.steps.Step.TheVariants.{Begin}
use Rattle.proof_runs.specs.Machines.{Taken, state_of, Applied}
use Rattle.proof_runs.specs.Callers.{Stepped, Resumes, Completes}

-- what denies a begin is what denies the step
denies_by : (state : State) (actor : ℕ) (call : Call) (denial : Option Refusal) (refusal : Refusal) → begin_unless state actor call None denial ≡ Err refusal →
    denial ≡ Some refusal
denies_by state actor call (Some reason) refusal e = grind (arith, e)
denies_by state actor call None refusal e = grind (arith, e)

allows_by : (state : State) (actor : ℕ) (call : Call) (denial : Option Refusal) (done : _) → begin_unless state actor call None denial ≡ Ok done → denial ≡ None
allows_by state actor call (Some reason) done e = grind (arith, e)
allows_by state actor call None done e = refl

-- where the begin is refused
pub not_begun : (before after : Taken) (actor : ℕ) (call : Call) (refusal : Refusal) → Applied (Err refusal) before (Begin actor call None) after →
    Completes (Err refusal) before actor call after
unfolding next
not_begun before after actor call refuse.Memory step = rw step.1 (inl (refl, step.0))
not_begun before after actor call refusal step = rw (denies_by (state_of before) actor call (begin_denial (state_of before) actor call None) refusal step.1) (refl, step.0)

-- where it is taken
pub begun : (before middle after : Taken) (actor : ℕ) (call : Call) (result : Result (Option Reply) Refusal) → Stepped (Ok tt) before (Begin actor call None) middle →
    Resumes result middle actor after → Completes result before actor call after
unfolding next
begun before middle after actor call result taken goes =
    rw (allows_by (state_of before) actor call (begin_denial (state_of before) actor call None) _ taken.1.1)
    (inr (subst (λ m. Resumes result m actor after) taken.1.0 goes))

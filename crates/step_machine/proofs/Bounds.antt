-- A core of a machine's bounds is refused for want of memory alone, and takes 2^40 steps at most.
use Rattle.std.proofs.Common.{◌≡◌, ◌≤◌, ◌^◌, ℕ, List, ap, arith, sym, subst, inl, inr}
use Rattle.step_machine.specs.Vocabulary.{Refusal, Bounds, Limits, Step, AreLimits, bounded, run, RefusesLimits}
use Rattle.machine_model.proofs.Along.{limits_along}
use Rattle.step_machine.specs.Beneath.proof_core.specs.Bounds.{AreInRange, RefusesBounds}
use Rattle.proof_runs.proofs.Bounds.{few_actors, few_slots, in_bounds, in_life}

pub refuses : (limits : Limits) (bounds : Bounds) (refusal : Refusal) → bounds ≡ bounded limits → AreLimits limits → RefusesBounds bounds refusal → RefusesLimits limits refusal
refuses limits bounds refusal is ok (inl (bad, told)) = absurd (bad (subst AreInRange (sym is) (in_bounds limits ok, few_actors limits ok, in_life limits ok, few_slots limits ok)))
refuses limits bounds refusal is ok (inr (fits, told)) = inr (ok, told)

-- no more steps than a machine of these limits may take
pub most_taken : (limits : Limits) (steps : List Step) (n : ℕ) → n ≤ (run (bounded limits) steps).limits.steps → n ≤ 2 ^ 40
most_taken limits steps n most = omega (arith, most, ap (λ (l : Bounds). l.steps) (limits_along (bounded limits) steps))

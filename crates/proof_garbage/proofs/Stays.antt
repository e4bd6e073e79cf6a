-- What is dead and in use stays dead.
use Rattle.std.proofs.Common.{ℕ, List, Ok, Err, sym, ◌∙◌, inl, inr}
use Rattle.std.proofs.lemmas.Option.{none-some}
use Rattle.proof_garbage.specs.Beneath.slot_arena.specs.declared.refs.Ref.{Ref}
use Rattle.proof_garbage.specs.Beneath.machine_model.specs.declared.steps.Bounds.{Bounds}
use Rattle.proof_garbage.specs.Beneath.machine_model.specs.declared.steps.Step.{Step}
use Rattle.proof_garbage.specs.Beneath.machine_model.specs.declared.steps.Step.TheVariants as step
use Rattle.proof_garbage.specs.Beneath.machine_model.specs.States.{State}
use Rattle.proof_garbage.specs.Beneath.machine_model.specs.Machine.{AreBounds, run, next, next_state, Answer, state_after}
use Rattle.proof_garbage.specs.Beneath.machine_model.specs.Moves.{MovesIfTaken}
use Rattle.proof_garbage.specs.Beneath.machine_model.proofs.Moves.{moves}
use Rattle.proof_garbage.specs.Beneath.proof_memory.specs.Laws.{IsInUse}
use Rattle.proof_garbage.specs.Beneath.proof_memory.proofs.Safety.States.{IsSafe}
use Rattle.proof_garbage.specs.Beneath.proof_memory.proofs.Safety.AtEachTime.{safe_along}
use Rattle.proof_garbage.specs.Live.{IsKnown, IsLive}
use Rattle.proof_garbage.proofs.Step.{WasKnown, Counts, step_known}

-- be the step taken or denied
pub next_known : (state : State) (I : IsSafe state) (P : ℕ → Type 0) (s : Step) → Counts state I P s → (r : Ref) → IsInUse state.heap r → IsKnown (next_state state s) P r → IsKnown state P r
next_known state I P s counts r used h = by_answer (next state s) (moves state s) h
  where
    by_was : WasKnown state I P r → IsKnown state P r
    by_was (inl k) = k
    by_was (inr none) = absurd (none-some used.0 (sym none ∙ used.1))

    by_answer : (answer : Answer) → MovesIfTaken state s answer → IsKnown (state_after state answer) P r → IsKnown state P r
    by_answer (Ok done) m h = by_was (step_known state I P s done.0 done.1 m counts h)
    by_answer (Err why) m h = h

pub all_count : (state : State) (I : IsSafe state) (s : Step) → Counts state I (λ id. Unit {0}) s
all_count state I (step.Begin actor call number) = tt
all_count state I (step.Go actor) = λ operation e g. tt
all_count state I step.Sweep = tt
all_count state I (step.GiveUp actor) = tt

pub stays_dead : (limits : Bounds) (steps : List Step) (s : Step) (r : Ref) → AreBounds limits → IsInUse (run limits steps).heap r → IsLive (next_state (run limits steps) s) r →
    IsLive (run limits steps) r
stays_dead limits steps s r ok used h =
    let I = safe_along limits ok steps in next_known (run limits steps) I (λ id. Unit {0}) s (all_count (run limits steps) I s) r used h

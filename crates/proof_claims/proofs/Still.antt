-- A step that changes neither heap nor root words nor claims.
use Rattle.std.proofs.Common.{◌≡◌, ◌⊎◌, inl, ℕ, Some}
use Rattle.proof_claims.specs.Beneath.slot_arena.specs.declared.refs.Ref.{Ref}
use Rattle.proof_claims.specs.Beneath.machine_model.specs.declared.lines.Line.TheVariants as line
use Rattle.proof_claims.specs.Beneath.machine_model.specs.declared.lines.Purpose.{Purpose}
use Rattle.proof_claims.specs.Beneath.machine_model.specs.declared.operations.Operation.{Operation}
use Rattle.proof_claims.specs.Beneath.machine_model.specs.declared.steps.Outcome.{Outcome}
use Rattle.proof_claims.specs.Beneath.machine_model.specs.declared.steps.Step.{Step}
use Rattle.proof_claims.specs.Beneath.machine_model.specs.declared.steps.Step.TheVariants as step
use Rattle.proof_claims.specs.Beneath.machine_model.specs.Moves.{Moves}
use Rattle.proof_claims.specs.Beneath.machine_model.specs.States.{State, operation_of}
use Rattle.proof_claims.specs.Beneath.machine_model.specs.Swapping.{swapping}
use Rattle.proof_claims.specs.Held.{Held, OfHandle, OfNode, held_after}
use Rattle.proof_claims.specs.Changes.{no_change}
use Rattle.proof_claims.specs.Clauses.{EachIsHeld}
use Rattle.proof_claims.proofs.Along.{own_still}
use Rattle.proof_claims.proofs.Frame.{roots_still, same_has, seconds_still, still_publishes, successors_still}
use Rattle.proof_claims.proofs.Quiet.{quiet_before, quiet_nodes}

module _ (state : State) (s : Step) (o : Outcome) (after : State) (m : Moves state s o after) (held : Held) (Gone Lost : Ref → Type 0) (h : EachIsHeld state held Gone)
    (lost : (j : Ref) → Gone j → Lost j)
    (own : (actor : ℕ) (operation : Operation) (why : Purpose) (i p f : Ref) → operation_of state actor ≡ Some operation → operation.line ≡ line.Swap why (swapping i p f) →
    (s ≡ step.Go actor) ⊎ (s ≡ step.GiveUp actor) → Lost f)
    (heap : after.heap ≡ state.heap) (roots : after.roots ≡ state.roots) where
  abbrev later : Held
  later = held_after no_change held

  pub still : EachIsHeld after later Lost
  still = record {
    roots = roots_still state after held later Gone h roots (λ handle r has. same_has held (OfHandle handle) r has);
    successors = successors_still state after held later Gone h roots (λ handle r has. same_has held (OfHandle handle) r has);
    seconds = seconds_still state after held later Gone h roots (λ handle r has. same_has held (OfHandle handle) r has);
    nodes = quiet_nodes state after held later Gone Lost h heap lost (own_still no_change held) (λ j k u n has. inl (same_has held (OfNode j) k has)) (still_publishes state s o after m Lost own);
    before = quiet_before state after held later Gone Lost h heap lost (own_still no_change held) (λ j k u n has. inl (same_has held (OfNode j) k has)) (still_publishes state s o after m Lost own);
  }

-- Who makes the node for a goal is about to swap it in there.
use Rattle.std.proofs.Common.{◌≡◌, ℕ, List, Some, refl, ap, subst, ◌∙◌}
use Rattle.std.proofs.lemmas.Option.{none-some, same_Some}
use Rattle.proof_claims.specs.Beneath.slot_arena.specs.declared.refs.Ref.{Ref}
use Rattle.proof_claims.specs.Beneath.slot_arena.specs.declared.nodes.Node.{Node}
use Rattle.proof_claims.specs.Beneath.slot_arena.specs.Heaps.{next_ref}
use Rattle.proof_claims.specs.Beneath.machine_model.specs.declared.actions.Action.TheVariants as act
use Rattle.proof_claims.specs.Beneath.machine_model.specs.declared.building.BuildLine.TheVariants as build
use Rattle.proof_claims.specs.Beneath.machine_model.specs.declared.lines.Line.{Line}
use Rattle.proof_claims.specs.Beneath.machine_model.specs.declared.lines.Line.TheVariants as line
use Rattle.proof_claims.specs.Beneath.machine_model.specs.declared.lines.Purpose.{Purpose}
use Rattle.proof_claims.specs.Beneath.machine_model.specs.declared.lines.Purpose.TheVariants as purpose
use Rattle.proof_claims.specs.Beneath.machine_model.specs.declared.operations.Operation.{Operation}
use Rattle.proof_claims.specs.Beneath.machine_model.specs.declared.repairs.CleanLine.TheVariants as clean
use Rattle.proof_claims.specs.Beneath.machine_model.specs.declared.repairs.ClimbLine.TheVariants as climb
use Rattle.proof_claims.specs.Beneath.machine_model.specs.declared.repairs.RenewLine.TheVariants as renew
use Rattle.proof_claims.specs.Beneath.machine_model.specs.declared.steps.Bounds.{Bounds}
use Rattle.proof_claims.specs.Beneath.machine_model.specs.declared.steps.Step.{Step}
use Rattle.proof_claims.specs.Beneath.machine_model.specs.Building.{build_if_made}
use Rattle.proof_claims.specs.Beneath.machine_model.specs.Cleaning.{clean_after_contracted}
use Rattle.proof_claims.specs.Beneath.machine_model.specs.Climbing.{climb_after_contracted}
use Rattle.proof_claims.specs.Beneath.machine_model.specs.Renewing.{renew_after_branch}
use Rattle.proof_claims.specs.Beneath.machine_model.specs.Machine.{AreBounds, run}
use Rattle.proof_claims.specs.Beneath.machine_model.specs.Operations.{line_action, line_after}
use Rattle.proof_claims.specs.Beneath.machine_model.specs.States.{State, operation_of}
use Rattle.proof_claims.specs.Beneath.machine_model.specs.Swapping.{swapping}
use Rattle.proof_claims.specs.Beneath.proof_memory.proofs.Claims.Uses.{safe_of}
use Rattle.proof_claims.specs.Beneath.proof_memory.proofs.Safety.AtEachTime.{safe_along}
use Rattle.proof_claims.specs.Beneath.proof_memory.proofs.Safety.AtTimes.{line_finds}
use Rattle.proof_claims.specs.Beneath.proof_memory.specs.Laws.{IsInUse}
use Rattle.proof_claims.specs.Beneath.proof_memory.specs.Wants.{AllHold, line_wants}
use Rattle.proof_claims.specs.Changes.{goal_of}

module _ (state : State) (operation : Operation) (x : Ref) (is : next_ref state.heap ≡ Some x) where
  abbrev Goes : Line → Ref × Ref → Type 0
  Goes l goal = (why : Purpose) × (line_after state operation l ≡ line.Swap why (swapping goal.0 goal.1 x))

  pub goal_line : (l : Line) (goal : Ref × Ref) → goal_of l ≡ Some goal → Goes l goal
  goal_line (line.Build (build.Main path main change former)) goal e =
      (purpose.Update path former, ap (build_if_made state operation (build.Main path main change former)) is ∙ ap (λ g. line.Swap (purpose.Update path former) (swapping g.0 g.1 x)) (same_Some _ _ e))
  goal_line (line.Build (build.Single path main site former)) goal e = absurd (none-some goal e)
  goal_line (line.Build (build.Pair path main position single depth)) goal e = absurd (none-some goal e)
  goal_line (line.Build (build.Link path main position below depth)) goal e = absurd (none-some goal e)
  goal_line (line.Build (build.Rung path main position below depth)) goal e = absurd (none-some goal e)
  goal_line (line.Renew (renew.Branch path main done)) goal e =
      (purpose.Renew path, ap (renew_after_branch path main) is ∙ ap (λ g. line.Swap (purpose.Renew path) (swapping g.0 g.1 x)) (same_Some _ _ e))
  goal_line (line.Renew (renew.Entry path main done)) goal e = absurd (none-some goal e)
  goal_line (line.Renew (renew.Read path main done read)) goal e = absurd (none-some goal e)
  goal_line (line.Renew (renew.Link path main done child)) goal e = absurd (none-some goal e)
  goal_line (line.Clean (clean.Contracted path main done)) goal e =
      (purpose.Clean, ap (clean_after_contracted path main) is ∙ ap (λ g. line.Swap purpose.Clean (swapping g.0 g.1 x)) (same_Some _ _ e))
  goal_line (line.Clean (clean.Read path read)) goal e = absurd (none-some goal e)
  goal_line (line.Clean (clean.Main path main)) goal e = absurd (none-some goal e)
  goal_line (line.Clean (clean.Entry path main done)) goal e = absurd (none-some goal e)
  goal_line (line.Clean (clean.Child path main done read)) goal e = absurd (none-some goal e)
  goal_line (line.Clean (clean.Tomb path main done child)) goal e = absurd (none-some goal e)
  goal_line (line.Climb (climb.Contracted c main)) goal e =
      (purpose.Climb c, ap (climb_after_contracted operation c main) is ∙ ap (λ g. line.Swap (purpose.Climb c) (swapping g.0 g.1 x)) (same_Some _ _ e))
  goal_line (line.Climb (climb.Read c read)) goal e = absurd (none-some goal e)
  goal_line (line.Climb (climb.Main c main)) goal e = absurd (none-some goal e)
  goal_line (line.Climb (climb.Root c root)) goal e = absurd (none-some goal e)
  goal_line (line.Root l) goal e = absurd (none-some goal e)
  goal_line (line.Key l) goal e = absurd (none-some goal e)
  goal_line (line.Swap why s) goal e = absurd (none-some goal e)
  goal_line (line.Copy l) goal e = absurd (none-some goal e)
  goal_line (line.Walk l) goal e = absurd (none-some goal e)
  goal_line (line.End answer) goal e = absurd (none-some goal e)
  goal_line line.Impossible goal e = absurd (none-some goal e)

-- who makes the node for a goal makes a node
pub goal_makes : (state : State) (operation : Operation) (l : Line) (goal : Ref × Ref) → goal_of l ≡ Some goal → (n : Node) × (line_action state operation l ≡ act.Make n)
goal_makes state operation (line.Build (build.Main path main change former)) goal e = (_, refl)
goal_makes state operation (line.Renew (renew.Branch path main done)) goal e = (_, refl)
goal_makes state operation (line.Clean (clean.Contracted path main done)) goal e = (_, refl)
goal_makes state operation (line.Climb (climb.Contracted c main)) goal e = (_, refl)
goal_makes state operation (line.Build (build.Single path main site former)) goal e = absurd (none-some goal e)
goal_makes state operation (line.Build (build.Pair path main position single depth)) goal e = absurd (none-some goal e)
goal_makes state operation (line.Build (build.Link path main position below depth)) goal e = absurd (none-some goal e)
goal_makes state operation (line.Build (build.Rung path main position below depth)) goal e = absurd (none-some goal e)
goal_makes state operation (line.Renew (renew.Entry path main done)) goal e = absurd (none-some goal e)
goal_makes state operation (line.Renew (renew.Read path main done r)) goal e = absurd (none-some goal e)
goal_makes state operation (line.Renew (renew.Link path main done child)) goal e = absurd (none-some goal e)
goal_makes state operation (line.Clean (clean.Read path r)) goal e = absurd (none-some goal e)
goal_makes state operation (line.Clean (clean.Main path main)) goal e = absurd (none-some goal e)
goal_makes state operation (line.Clean (clean.Entry path main done)) goal e = absurd (none-some goal e)
goal_makes state operation (line.Clean (clean.Child path main done r)) goal e = absurd (none-some goal e)
goal_makes state operation (line.Clean (clean.Tomb path main done child)) goal e = absurd (none-some goal e)
goal_makes state operation (line.Climb (climb.Read c r)) goal e = absurd (none-some goal e)
goal_makes state operation (line.Climb (climb.Main c main)) goal e = absurd (none-some goal e)
goal_makes state operation (line.Climb (climb.Root c l)) goal e = absurd (none-some goal e)
goal_makes state operation (line.Root l) goal e = absurd (none-some goal e)
goal_makes state operation (line.Key l) goal e = absurd (none-some goal e)
goal_makes state operation (line.Swap why w) goal e = absurd (none-some goal e)
goal_makes state operation (line.Copy l) goal e = absurd (none-some goal e)
goal_makes state operation (line.Walk l) goal e = absurd (none-some goal e)
goal_makes state operation (line.End answer) goal e = absurd (none-some goal e)
goal_makes state operation line.Impossible goal e = absurd (none-some goal e)

-- ---- the goal's main node is in use

goal_by : (state : State) (operation : Operation) (l : Line) → AllHold (IsInUse state.heap) state.heap (line_wants state.limits.hash operation.call operation.access l) → (goal : Ref × Ref) →
    goal_of l ≡ Some goal → IsInUse state.heap goal.1
goal_by state operation (line.Build (build.Main path main change former)) w goal e = subst (λ (g : Ref × Ref). IsInUse state.heap g.1) (same_Some _ goal e) (safe_of w.1.1.0)
goal_by state operation (line.Renew (renew.Branch path main done)) w goal e = subst (λ (g : Ref × Ref). IsInUse state.heap g.1) (same_Some _ goal e) (safe_of w.1.1.0)
goal_by state operation (line.Clean (clean.Contracted path main done)) w goal e = subst (λ (g : Ref × Ref). IsInUse state.heap g.1) (same_Some _ goal e) (safe_of w.1.1.0)
goal_by state operation (line.Climb (climb.Contracted c main)) w goal e = subst (λ (g : Ref × Ref). IsInUse state.heap g.1) (same_Some _ goal e) (safe_of w.1.1.1.0)
goal_by state operation l w goal e = absurd (none-some goal e)

pub goal_in_use : (limits : Bounds) → AreBounds limits → (xs : List Step) (actor : ℕ) (operation : Operation) → operation_of (run limits xs) actor ≡ Some operation → (goal : Ref × Ref) →
    goal_of operation.line ≡ Some goal → IsInUse (run limits xs).heap goal.1
goal_in_use limits ok xs actor operation runs goal e = goal_by (run limits xs) operation operation.line (line_finds (run limits xs) (safe_along limits ok xs) actor operation runs) goal e

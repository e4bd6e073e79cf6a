-- What came to be an indirection's own by the list of steps is its own in the run.
use Rattle.std.proofs.Common.{◌≡◌, ◌<◌, ℕ, suc, true, List, [], ◌∷◌, ◌++◌, Some, Ok, sym, ap, subst, ◌∙◌, arith, append_assoc}
use Rattle.proof_claims.specs.Beneath.slot_arena.specs.declared.nodes.Node.TheVariants.{Indirection}
use Rattle.proof_claims.specs.Beneath.slot_arena.specs.declared.refs.Ref.{Ref}
use Rattle.proof_claims.specs.Beneath.slot_arena.specs.Heaps.{main_at, main_of, next_ref, node_at, node_of}
use Rattle.proof_claims.specs.Beneath.slot_arena.specs.Refs.{ref_to}
use Rattle.proof_claims.specs.Beneath.machine_model.specs.declared.operations.Operation.{Operation}
use Rattle.proof_claims.specs.Beneath.machine_model.specs.declared.steps.Bounds.{Bounds}
use Rattle.proof_claims.specs.Beneath.machine_model.specs.declared.steps.Outcome.{Outcome}
use Rattle.proof_claims.specs.Beneath.machine_model.specs.declared.steps.Step.{Step}
use Rattle.proof_claims.specs.Beneath.machine_model.specs.declared.steps.Step.TheVariants as step
use Rattle.proof_claims.specs.Beneath.machine_model.specs.Machine.{AreBounds, next, run}
use Rattle.proof_claims.specs.Beneath.machine_model.specs.States.{State, first_state, operation_of}
use Rattle.proof_claims.specs.Beneath.machine_model.specs.Times.{IsRun, last_of, states_of}
use Rattle.proof_claims.specs.Beneath.machine_model.proofs.Grown.{node_grown}
use Rattle.proof_claims.specs.Beneath.machine_model.proofs.Times.{run_is}
use Rattle.proof_claims.specs.Beneath.proof_commits.specs.Protocol.{Builds}
use Rattle.proof_claims.specs.Beneath.proof_commits.specs.Runs.{HasIndirection}
use Rattle.proof_claims.specs.Beneath.proof_commits.specs.Stages.{stage_of, stage_of_actor}
use Rattle.proof_claims.specs.Beneath.proof_followed.proofs.LastStep as one_more
use Rattle.proof_claims.specs.Beneath.proof_memory.specs.Laws.{IsInUse}
use Rattle.proof_claims.specs.Beneath.proof_memory.specs.Wants.{is_indirection}
use Rattle.proof_claims.specs.Beneath.proof_memory.proofs.Heap.Moves.{not_yet_drawn}
use Rattle.proof_claims.specs.Beneath.proof_owned.specs.Owned.{IsOwn, built, first}
use Rattle.proof_claims.specs.Beneath.proof_reuse.proofs.InLists.{is_own, state_then, time_within}
use Rattle.proof_claims.specs.Held.{is_owned}
use Rattle.proof_claims.specs.Claims.{held_of}
use Rattle.proof_claims.proofs.FirstClaims.{root_node, root_used}
use Rattle.proof_claims.proofs.Owning.{CameOwn, at_first, built_over, came_own, swapped_in}

module _ (limits : Bounds) (ok : AreBounds limits) (steps : List Step) (i m : Ref) where
  abbrev states : ℕ → State
  states = states_of limits steps

  abbrev is_run : IsRun limits states (last_of limits steps)
  is_run = run_is limits steps ok

  module _ (before : List Step) (actor : ℕ) (more : List Step) (operation : Operation) (o : Outcome) (after : State) (goes_on : steps ≡ (before ++ step.Go actor ∷ []) ++ more)
      (runs : operation_of (run limits before) actor ≡ Some operation) (stage : stage_of operation.line ≡ Builds m) (taken : next (run limits before) (step.Go actor) ≡ Ok (o, after))
      (drawn : next_ref (run limits before).heap ≡ Some i) (has_then : HasIndirection (run limits (before ++ step.Go actor ∷ [])) i)
      (stands : main_at (run limits (before ++ step.Go actor ∷ [])).heap i ≡ m) where
    abbrev through : List Step
    through = before ++ step.Go actor ∷ []

    abbrev u : ℕ
    u = last_of limits before

    through_is : last_of limits through ≡ suc u
    through_is = one_more.last_is limits ok before (step.Go actor) o after taken

    then_is : states u ≡ run limits before
    then_is = state_then limits steps before (step.Go actor ∷ more) (goes_on ∙ append_assoc before (step.Go actor ∷ []) more)

    next_is : states (suc u) ≡ run limits through
    next_is = ap states (sym through_is) ∙ state_then limits steps through more goes_on

    within : u < last_of limits steps
    within = let low = time_within limits steps through more goes_on in omega (arith, low, through_is)

    has : HasIndirection (states (suc u)) i
    has = subst (λ (s : State). HasIndirection s i) (sym next_is) has_then

    by_building : IsOwn states (last_of limits steps) i m
    by_building =
        built u actor within (ap stage_of_actor (ap (λ (s : State). operation_of s actor) then_is ∙ runs) ∙ stage)
        (ap (λ g. is_indirection (node_of g)) (not_yet_drawn is_run u (omega (arith, within)) i (ap (λ (s : State). next_ref s.heap) then_is ∙ drawn)))
        (ap is_indirection (sym (node_grown states (suc u) i has.0.0 has.0.1)) ∙ has.1)
        (ap main_of (sym (node_grown states (suc u) i has.0.0 has.0.1)) ∙ ap (λ (s : State). main_at s.heap i) next_is ∙ stands)

  first_node : i ≡ ref_to 2 1 → (IsInUse (states 0).heap i) × (node_at (states 0).heap i ≡ Indirection 0 (ref_to 1 0))
  first_node at_root = (
    subst (λ (s : State). IsInUse s.heap i) (sym is_run.first) (subst (IsInUse (first_state limits).heap) (sym at_root) (root_used limits ok)),
    ap (λ (s : State). node_at s.heap i) is_run.first ∙ ap (node_at (first_state limits).heap) at_root ∙ root_node limits ok,
  )

  by_first : i ≡ ref_to 2 1 → m ≡ ref_to 1 0 → IsOwn states (last_of limits steps) i m
  by_first at_root of_branch =
      let (used, node) = first_node at_root in
      let found = sym (node_grown states 0 i used.0 used.1) ∙ node in
      first (ap is_indirection found) (ap main_of found ∙ sym of_branch)

  pub own_by : CameOwn limits steps i m → IsOwn states (last_of limits steps) i m
  own_by (swapped_in h) = is_own limits ok steps i m h
  own_by (built_over before actor more operation o after e runs stage done drawn has is) = by_building before actor more operation o after e runs stage done drawn has is
  own_by (at_first a b) = by_first a b

-- what is own is the indirection's own
pub owned_is_own : (limits : Bounds) (ok : AreBounds limits) (xs : List Step) (i m : Ref) → is_owned (held_of limits xs) i m ≡ true → IsOwn (states_of limits xs) (last_of limits xs) i m
owned_is_own limits ok xs i m owned = own_by limits ok xs i m (came_own limits ok xs i m owned)

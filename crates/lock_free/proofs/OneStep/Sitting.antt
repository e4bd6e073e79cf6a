-- What is left by a step that begins or ends an operation.
use Rattle.std.proofs.Common.{◌≡◌, ◌≢◌, ◌⊎◌, ◌+◌, ◌++◌, ℕ, [], ◌∷◌, length, Option, Some, None, get_or, refl, sym, ap, subst, ◌∙◌, inl, inr}
use Rattle.std.proofs.lemmas.Bool.{cases_eq}
use Rattle.std.proofs.lemmas.Option.{same_Some, none-some}
use Rattle.history.specs.declared.replies.Reply.{Reply}
use Rattle.machine_model.specs.Beneath.slot_arena.specs.declared.refs.Ref.{Ref}
use Rattle.machine_model.specs.Beneath.slot_arena.specs.Heaps.{Heap}
use Rattle.machine_model.specs.declared.actions.Action.TheVariants as act
use Rattle.machine_model.specs.declared.operations.Operation.{Operation}
use Rattle.machine_model.specs.declared.steps.Outcome.{Outcome}
use Rattle.machine_model.specs.declared.steps.Outcome.TheVariants as outcome
use Rattle.machine_model.specs.declared.steps.Step.{Step}
use Rattle.machine_model.specs.declared.steps.Step.TheVariants as step
use Rattle.machine_model.specs.Acting.{ended}
use Rattle.machine_model.specs.Counting.{settled}
use Rattle.machine_model.specs.Grown.{standing}
use Rattle.machine_model.specs.Machine.{AreBounds, next, next_state, state_after, step_by, go_unless, go_on}
use Rattle.machine_model.specs.Moves.{Moves, Ends as Ended}
use Rattle.machine_model.specs.Operations.{action_of}
use Rattle.machine_model.specs.States.{State, operation_of}
use Rattle.proof_memory.specs.Laws.{IsInUse}
use Rattle.proof_memory.proofs.Safety.AtEachTime.{safe_along}
use Rattle.proof_memory.proofs.Safety.States.{IsSafe}
use Rattle.proof_memory.proofs.Safety.Steps.{safe_after}
use Rattle.proof_commits.proofs.Known.StepsAt.{end_others, end_own, actor_counts}
use Rattle.proof_garbage.proofs.Known.{known_used}
use Rattle.proof_garbage.proofs.Step.{step_known}
use Rattle.proof_waiting.specs.Beneath.proof_slots.specs.Lasting.{widened}
use Rattle.lock_free.specs.declared.accounts.Account.{Account}
use Rattle.lock_free.specs.declared.sizes.Sizes.{Sizes}
use Rattle.lock_free.specs.Accounts.{bounds_for, state_of, running}
use Rattle.lock_free.specs.Beginning.{Ends, taking}
use Rattle.lock_free.specs.Live.{IsLive}
use Rattle.lock_free.specs.Nodes.{IsAhead}
use Rattle.lock_free.specs.Offering.{LeavesNodes}
use Rattle.lock_free.proofs.OneStep.Aheads.{ahead_of, ahead_acts}
use Rattle.lock_free.proofs.OneStep.Going.{allowed}
use Rattle.lock_free.proofs.OneStep.Longer.{bounds_more, run_next}
use Rattle.lock_free.proofs.OneStep.Reached.{reached_left}
use Rattle.lock_free.proofs.OneStep.Widened.{slot_in, live_in, ahead_in, ahead_wide}

-- ---- any step

module _ (sizes : Sizes) (account : Account) (bounds : AreBounds (bounds_for sizes account.steps)) (taken : Step) (o : Outcome) (later : State) (moves : Moves (state_of sizes account) taken o later)
    (next_is : next_state (state_of sizes account) taken ≡ later) where
  abbrev pub state : State
  state = state_of sizes account

  abbrev pub after : State
  after = state_of sizes (taking taken account)

  abbrev steps : ℕ
  steps = length (account.steps ++ taken ∷ []) + 1

  pub whole : after ≡ widened 1 steps later
  whole = run_next sizes account.steps bounds taken ∙ ap (widened 1 steps) next_is

  safe : IsSafe state
  safe = safe_along (bounds_for sizes account.steps) bounds account.steps

  -- that changes no node, and by which nobody comes to be about to swap one in, or is so no more
  module _ (heap_is : later.heap ≡ state.heap) (generations_are : later.generations ≡ state.generations) (was_live : (r : Ref) → IsLive later r → IsLive state r ⊎ (standing state.heap r ≡ None))
      (actor : ℕ)
      (others : (a : ℕ) → a ≢ actor → operation_of later a ≡ operation_of state a) (none_before : (x : Operation) → operation_of state actor ≡ Some x → ahead_of x.line ≡ None)
      (none_after : (x : Operation) → operation_of later actor ≡ Some x → ahead_of x.line ≡ None) where
    live_then : (r : Ref) → IsLive after r → IsLive state r
    live_then r k = by (was_live r in_later)
      where
        in_later : IsLive later r
        in_later = live_in 1 steps later (subst (λ s. IsLive s r) whole k)

        by : IsLive state r ⊎ (standing state.heap r ≡ None) → IsLive state r
        by (inl was) = was
        by (inr none) =
            let (slot, stood) = subst (λ heap. IsInUse heap r) heap_is (known_used later (safe_after state safe taken o later moves) (λ id. Unit {0}) in_later) in absurd
            (none-some slot (sym none ∙ stood))

    aheads_then : (i a f : Ref) → IsAhead after i a f → IsAhead state i a f
    aheads_then i a f x = by (ahead_in 1 steps later i a f (subst (λ s. IsAhead s i a f) whole x))
      where
        by : IsAhead later i a f → IsAhead state i a f
        by h = elim (cases_eq h.actor actor) [
          | inl own ↦ absurd (none-some (i, a, f) (sym (none_after h.operation (ap (operation_of later) (sym own) ∙ h.runs)) ∙ ap ahead_of h.on))
          | inr other ↦ record { actor = h.actor; operation = h.operation; runs = sym (others h.actor other) ∙ h.runs; why = h.why; on = h.on }
        ]

    still_then : (i a f : Ref) → IsAhead state i a f → IsAhead after i a f
    still_then i a f h = subst (λ s. IsAhead s i a f) (sym whole) (ahead_wide 1 steps later i a f (elim (cases_eq h.actor actor) [
      | inl own ↦ absurd (none-some (i, a, f) (sym (none_before h.operation (ap (operation_of state) (sym own) ∙ h.runs)) ∙ ap ahead_of h.on))
      | inr other ↦ record { actor = h.actor; operation = h.operation; runs = others h.actor other ∙ h.runs; why = h.why; on = h.on }
    ]))

    pub leaves_nodes : LeavesNodes sizes account (taking taken account)
    leaves_nodes = record {
      bounds = bounds_more sizes account.steps (taken ∷ []) bounds;
      nodes = λ k. ap (λ (s : State). get_or s.heap.slots k None) whole ∙ slot_in 1 steps later k ∙ ap (λ (x : Heap). get_or x.slots k None) heap_is;
      births = ap (λ (s : State). s.heap.births) whole ∙ ap (λ (x : Heap). x.births) heap_is;
      live = live_then;
      reached = reached_left sizes account (taking taken account) bounds taken refl live_then;
      generations = ap (λ (s : State). s.generations) whole ∙ generations_are;
      aheads = aheads_then;
      still = still_then;
    }

-- ---- an end

module _ (sizes : Sizes) (account : Account) (bounds : AreBounds (bounds_for sizes account.steps)) (actor : ℕ) (operation : Operation) (runs : running sizes account actor operation) (answer : Reply)
    (is : action_of (state_of sizes account) operation ≡ act.End answer) where
  abbrev now : State
  now = state_of sizes account

  abbrev end_state : State
  end_state = settled now (ended now actor)

  end_move : Moves now (step.Go actor) (outcome.Ended operation.id answer) end_state
  end_move = Ended (allowed sizes account bounds actor operation runs) runs is

  end_next : next_state now (step.Go actor) ≡ end_state
  unfolding next
  end_next =
      ap (λ d. state_after now (go_unless now actor d)) (allowed sizes account bounds actor operation runs) ∙ ap (λ x. state_after now (go_on now actor x)) runs
      ∙ ap (λ x. state_after now (step_by now actor operation x)) is

  not_ahead : (x : Operation) → operation_of now actor ≡ Some x → ahead_of x.line ≡ None
  not_ahead x e = by (ahead_of x.line) refl
    where
      by : (y : Option (Ref × Ref × Ref)) → ahead_of x.line ≡ y → y ≡ None
      by None f = refl
      by (Some y) f =
          let same : x ≡ operation = same_Some x operation (sym e ∙ runs) in
          let both = sym (ahead_acts now x x.line y f) ∙ ap (action_of now) same ∙ is in let no : ⊥ = cc both in absurd no

  pub ends_of : Ends sizes account actor
  ends_of =
      let w = whole sizes account bounds (step.Go actor) (outcome.Ended operation.id answer) end_state end_move end_next in
      let positive = actor_counts now actor operation runs in
      record {
        leaves = leaves_nodes sizes account bounds (step.Go actor) (outcome.Ended operation.id answer) end_state end_move end_next refl refl
            (λ r k. step_known now (safe_along (bounds_for sizes account.steps) bounds account.steps) (λ id. Unit {0}) (step.Go actor) _ end_state end_move (λ o e on. tt) k) actor
            (λ a differs. end_others now actor operation answer positive a differs) not_ahead (λ x e. absurd (none-some x (sym (end_own now actor operation answer) ∙ e)));
        roots = ap (λ (s : State). s.roots) w;
        others = λ a differs. ap (λ s. operation_of s a) w ∙ end_others now actor operation answer positive a differs;
        own = ap (λ s. operation_of s actor) w ∙ end_own now actor operation answer;
      }

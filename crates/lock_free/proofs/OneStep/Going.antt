-- One step more of an actor's operation, seen as a step of the definition.
use Rattle.std.proofs.Common.{◌≡◌, ◌+◌, ◌<◌, ◌≤◌, ◌++◌, ℕ, suc, Bool, true, false, not, List, [], ◌∷◌, get_or, length, Some, None, Ok, is_some, refl, ap, ◌∙◌, arith}
use Rattle.std.proofs.lemmas.Bool.{lt-leb}
use Rattle.machine_model.specs.Beneath.ctrie_base.specs.declared.refusals.Refusal.TheVariants as refuse
use Rattle.machine_model.specs.declared.actions.Action.{Action}
use Rattle.machine_model.specs.declared.actions.Action.TheVariants as act
use Rattle.machine_model.specs.declared.operations.Operation.{Operation}
use Rattle.machine_model.specs.declared.steps.Bounds.{Bounds}
use Rattle.machine_model.specs.declared.steps.Outcome.TheVariants as outcome
use Rattle.machine_model.specs.declared.steps.Step.{Step}
use Rattle.machine_model.specs.declared.steps.Step.TheVariants as step
use Rattle.machine_model.specs.Acting.{gone}
use Rattle.machine_model.specs.Counting.{settled}
use Rattle.machine_model.specs.Machine.{AreBounds, run_from, next, next_state, state_after, first_reason, go_denial, go_unless, go_on, step_by, is_actor, is_running, is_spent}
use Rattle.machine_model.specs.Moves.{Moves, GoesOn, Goes}
use Rattle.machine_model.specs.Operations.{action_of, kind_of}
use Rattle.machine_model.specs.States.{State, first_state, operation_of}
use Rattle.machine_model.proofs.Actors.{actor_by}
use Rattle.machine_model.proofs.Along.{limits_along, kept_by_moves}
use Rattle.machine_model.proofs.Fates.{place_of_actor}
use Rattle.machine_model.proofs.Found.{found_within}
use Rattle.machine_model.proofs.Frames.{steps_counted}
use Rattle.proof_memory.proofs.Holding.Sizes.{sizes_stay}
use Rattle.proof_waiting.specs.Beneath.proof_slots.specs.Lasting.{widened}
use Rattle.lock_free.specs.declared.accounts.Account.{Account}
use Rattle.lock_free.specs.declared.sizes.Sizes.{Sizes}
use Rattle.lock_free.specs.Accounts.{bounds_for, state_of, running, gone_on}
use Rattle.lock_free.proofs.OneStep.Longer.{run_next, bounds_more}

-- each step counts once at most
steps_grow : (state : State) (s : Step) → (next_state state s).steps ≤ state.steps + 1
steps_grow state s = kept_by_moves (λ after. after.steps ≤ state.steps + 1) state s (omega arith) (λ o after m. omega (arith, steps_counted state s o after m))

pub steps_from : (steps : List Step) (state : State) → (run_from state steps).steps ≤ state.steps + length steps
unfolding run_from
steps_from [] state = omega arith
steps_from (s ∷ steps) state = omega (arith, steps_grow state s, steps_from steps (next_state state s))

pub first_none : (limits : Bounds) → (first_state limits).steps ≡ 0
unfolding first_state
first_none limits = refl

pub no_denial : (own running spent : Bool) → own ≡ true → running ≡ true → spent ≡ false →
    first_reason ((not own, refuse.NoActor) ∷ (not running, refuse.Idle) ∷ (spent, refuse.Spent) ∷ []) ≡ None
no_denial own running spent a b c = grind (arith, a, b, c)

pub goes_by : (state : State) (actor : ℕ) (operation : Operation) → go_denial state actor ≡ None → operation_of state actor ≡ Some operation →
    next state (step.Go actor) ≡ step_by state actor operation (action_of state operation)
unfolding next
goes_by state actor operation d runs = ap (go_unless state actor) d ∙ ap (go_on state actor) runs

going : (state : State) (actor : ℕ) (operation : Operation) (action : Action) → GoesOn action → state_after state (step_by state actor operation action) ≡ settled state (gone state actor operation)
going state actor operation (act.End answer) g = absurd g
going state actor operation action g = refl

pub going_ok : (state : State) (actor : ℕ) (operation : Operation) (action : Action) → GoesOn action →
    step_by state actor operation action ≡ Ok (outcome.Went (kind_of action), settled state (gone state actor operation))
going_ok state actor operation (act.End answer) g = absurd g
going_ok state actor operation action g = refl

module _ (sizes : Sizes) (account : Account) (bounds : AreBounds (bounds_for sizes account.steps)) (actor : ℕ) (operation : Operation) (runs : running sizes account actor operation) where
  abbrev pub now : State
  now = state_of sizes account

  -- the actor's place
  pub place : (k : ℕ) × (actor ≡ suc k) × (get_or now.actors k None ≡ Some operation)
  place = place_of_actor now actor operation runs

  its_actor : is_actor now actor ≡ true
  its_actor =
      let within = found_within now.actors place.0 operation place.2 in
      let count : length now.actors ≡ sizes.seats = (sizes_stay (bounds_for sizes account.steps) account.steps).1 in
      let most : now.limits.actors ≡ sizes.seats = ap (λ (b : Bounds). b.actors) (limits_along (bounds_for sizes account.steps) account.steps) in
      actor_by actor now.limits.actors (omega (arith, place.1)) (omega (arith, place.1, within, count, most))

  unspent : now.steps < now.limits.steps
  unspent =
      let most : now.limits.steps ≡ length account.steps + 1 = ap (λ (b : Bounds). b.steps) (limits_along (bounds_for sizes account.steps) account.steps) in
      omega (arith, most, steps_from account.steps (first_state (bounds_for sizes account.steps)), first_none (bounds_for sizes account.steps))

  pub allowed : go_denial now actor ≡ None
  allowed = no_denial (is_actor now actor) (is_running now actor) (is_spent now) its_actor (ap is_some runs) (lt-leb now.limits.steps now.steps unspent)

  abbrev pub later : State
  later = settled now (gone now actor operation)

  module _ (g : GoesOn (action_of now operation)) where
    pub moves : Moves now (step.Go actor) (outcome.Went (kind_of (action_of now operation))) later
    moves = Goes allowed runs refl g

    pub next_ok : next now (step.Go actor) ≡ Ok (outcome.Went (kind_of (action_of now operation)), later)
    next_ok = goes_by now actor operation allowed runs ∙ going_ok now actor operation (action_of now operation) g

    pub next_is : next_state now (step.Go actor) ≡ later
    next_is = ap (state_after now) (goes_by now actor operation allowed runs) ∙ going now actor operation (action_of now operation) g

    abbrev pub more : ℕ
    more = length (account.steps ++ step.Go actor ∷ []) + 1

    pub after_is : state_of sizes (gone_on actor account) ≡ widened 1 more later
    after_is = run_next sizes account.steps bounds (step.Go actor) ∙ ap (widened 1 more) next_is

    pub bounds_after : AreBounds (bounds_for sizes (gone_on actor account).steps)
    bounds_after = bounds_more sizes account.steps (step.Go actor ∷ []) bounds

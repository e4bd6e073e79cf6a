-- The state after some of an account's steps, under the bounds of all of them; one more of them; and what is in use then is so after all.
use Rattle.std.proofs.Common.{◌≡◌, ◌<◌, ◌+◌, ◌++◌, ℕ, suc, true, List, [], get_or, length, Some, None, Ok, is_some, sym, ap, subst, ◌∙◌, arith, append-nil, length-append}
use Rattle.std.proofs.lemmas.Bool.{lt-leb}
use Rattle.machine_model.specs.Beneath.slot_arena.specs.declared.nodes.Slot.{Slot}
use Rattle.machine_model.specs.Beneath.slot_arena.specs.declared.refs.Ref.{Ref}
use Rattle.machine_model.specs.declared.operations.Operation.{Operation}
use Rattle.machine_model.specs.declared.steps.Bounds.{Bounds}
use Rattle.machine_model.specs.declared.steps.Outcome.TheVariants as outcome
use Rattle.machine_model.specs.declared.steps.Step.{Step}
use Rattle.machine_model.specs.declared.steps.Step.TheVariants as step
use Rattle.machine_model.specs.Acting.{gone}
use Rattle.machine_model.specs.Counting.{settled}
use Rattle.machine_model.specs.Grown.{standing}
use Rattle.machine_model.specs.Machine.{AreBounds, run, next, go_denial, is_actor, is_running, is_spent}
use Rattle.machine_model.specs.Moves.{GoesOn}
use Rattle.machine_model.specs.Operations.{action_of, kind_of}
use Rattle.machine_model.specs.States.{State, first_state, operation_of}
use Rattle.machine_model.proofs.Actors.{actor_by}
use Rattle.machine_model.proofs.Along.{limits_along}
use Rattle.machine_model.proofs.Fates.{place_of_actor}
use Rattle.machine_model.proofs.Found.{found_within}
use Rattle.proof_memory.proofs.Holding.Sizes.{sizes_stay}
use Rattle.proof_memory.specs.Laws.{IsInUse, SameNode}
use Rattle.proof_waiting.specs.Beneath.proof_slots.specs.Lasting.{widened}
use Rattle.proof_waiting.specs.Beneath.proof_slots.specs.Unswept.{HasNoSweeps}
use Rattle.proof_waiting.specs.Beneath.proof_slots.proofs.Unswept.Kept.{nothing_is_freed}
use Rattle.proof_waiting.specs.Beneath.proof_slots.proofs.Unswept.Shrinking.{unswept_behind}
use Rattle.lock_free.specs.declared.sizes.Sizes.{Sizes}
use Rattle.lock_free.specs.Accounts.{bounds_for}
use Rattle.lock_free.proofs.OneStep.Going.{steps_from, first_none, no_denial, goes_by, going_ok}
use Rattle.lock_free.proofs.OneStep.LinksWide.{standing_wide}
use Rattle.lock_free.proofs.OneStep.Longer.{run_longer, bounds_less}

module _ (sizes : Sizes) (all first rest : List Step) (goes_on : all ≡ first ++ rest) (bounds : AreBounds (bounds_for sizes all)) where
  abbrev limits : Bounds
  limits = bounds_for sizes all

  pub run_part : run (bounds_for sizes all) first ≡ widened (length rest) (length all + 1) (run (bounds_for sizes first) first)
  run_part =
      subst (λ l. run (bounds_for sizes l) first ≡ widened (length rest) (length l + 1) (run (bounds_for sizes first) first)) (sym goes_on)
      (run_longer sizes first (bounds_less sizes first rest (subst (λ l. AreBounds (bounds_for sizes l)) goes_on bounds)) first [] rest (sym (append-nil first)))

  module _ (quiet : HasNoSweeps all) (r : Ref) where
    pub used_by : (was : Slot) → standing (run (bounds_for sizes all) first).heap r ≡ Some was →
        (slot : Slot) × (standing (run (bounds_for sizes all) all).heap r ≡ Some slot) × SameNode was.node slot.node
    used_by was stands =
        subst (λ l. (slot : Slot) × (standing (run limits l).heap r ≡ Some slot) × SameNode was.node slot.node) (sym goes_on)
        (nothing_is_freed limits first rest r was bounds (unswept_behind first rest (subst HasNoSweeps goes_on quiet)) stands)

    pub used_still : (used : IsInUse (run (bounds_for sizes first) first).heap r) →
        (slot : Slot) × (standing (run (bounds_for sizes all) all).heap r ≡ Some slot) × SameNode used.0.node slot.node
    used_still used =
        used_by used.0 (ap (λ (s : State). standing s.heap r) run_part ∙ standing_wide (length rest) (length all + 1) (run (bounds_for sizes first) first) r ∙ used.1)

  module _ (actor : ℕ) (operation : Operation) (runs : operation_of (run (bounds_for sizes all) first) actor ≡ Some operation) where
    abbrev now : State
    now = run limits first

    place : (k : ℕ) × (actor ≡ suc k) × (get_or now.actors k None ≡ Some operation)
    place = place_of_actor now actor operation runs

    its_actor : is_actor now actor ≡ true
    its_actor =
        let within = found_within now.actors place.0 operation place.2 in
        let count : length now.actors ≡ sizes.seats = (sizes_stay limits first).1 in
        let most : now.limits.actors ≡ sizes.seats = ap (λ (b : Bounds). b.actors) (limits_along limits first) in
        actor_by actor now.limits.actors (omega (arith, place.1)) (omega (arith, place.1, within, count, most))

    unspent : now.steps < now.limits.steps
    unspent =
        let most : now.limits.steps ≡ length all + 1 = ap (λ (b : Bounds). b.steps) (limits_along limits first) in
        omega (arith, most, steps_from first (first_state limits), first_none limits, ap length goes_on, length-append first rest)

    allowed : go_denial now actor ≡ None
    allowed = no_denial (is_actor now actor) (is_running now actor) (is_spent now) its_actor (ap is_some runs) (lt-leb now.limits.steps now.steps unspent)

    pub part_goes : GoesOn (action_of (run (bounds_for sizes all) first) operation) →
        next (run (bounds_for sizes all) first) (step.Go actor) ≡
        Ok (
          outcome.Went (kind_of (action_of (run (bounds_for sizes all) first) operation)),
          settled (run (bounds_for sizes all) first) (gone (run (bounds_for sizes all) first) actor operation),
        )
    part_goes g = goes_by now actor operation allowed runs ∙ going_ok now actor operation (action_of now operation) g

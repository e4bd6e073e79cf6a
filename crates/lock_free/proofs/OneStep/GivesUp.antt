-- What is left where an operation gives up: all that it made and nobody met is given up with it.
use Rattle.std.proofs.Common.{◌≡◌, ◌≢◌, ◌⊎◌, ◌-◌, ◌++◌, ◌+◌, ℕ, zero, suc, true, false, [], ◌∷◌, Contains, length, get_or, set, Some, None, refl, sym, ap, subst, ◌∙◌, inl}
use Rattle.std.proofs.Common.{inr, arith}
use Rattle.std.specs.Prelude.{option_map}
use Rattle.std.proofs.lemmas.Bool.{cases_eq, true≢false}
use Rattle.std.proofs.lemmas.List.{get_or-set_same}
use Rattle.std.proofs.lemmas.Option.{none-some, same_Some}
use Rattle.machine_model.specs.Beneath.history.specs.declared.replies.Reply.{Reply}
use Rattle.machine_model.specs.Beneath.slot_arena.specs.declared.refs.Ref.{Ref}
use Rattle.machine_model.specs.Beneath.slot_arena.specs.Refs.{slot_of}
use Rattle.machine_model.specs.declared.lines.Line.TheVariants as line
use Rattle.machine_model.specs.declared.operations.Operation.{Operation}
use Rattle.machine_model.specs.Beneath.ctrie_base.specs.declared.kinds.Kind.TheVariants as kind
use Rattle.machine_model.specs.declared.steps.Outcome.TheVariants as outcome
use Rattle.machine_model.specs.declared.steps.Step.TheVariants as step
use Rattle.machine_model.specs.Counting.{settled}
use Rattle.machine_model.specs.GivingUp.{given_up, gave_up}
use Rattle.machine_model.specs.Grown.{standing}
use Rattle.machine_model.specs.Machine.{AreBounds, is_taken_step, next, next_state, state_after, give_up_unless, give_up_on, give_up_by}
use Rattle.machine_model.specs.Moves.{Moves, GivesUp}
use Rattle.machine_model.specs.States.{State, operation_of, with_operation}
use Rattle.machine_model.proofs.Fates.{place_of_actor}
use Rattle.machine_model.proofs.Found.{found_within, found_elsewhere}
use Rattle.proof_memory.specs.Laws.{IsInUse}
use Rattle.proof_memory.proofs.Safety.AtEachTime.{safe_along}
use Rattle.proof_memory.proofs.Safety.States.{IsSafe}
use Rattle.proof_memory.proofs.Safety.Standing.{none_contained}
use Rattle.proof_memory.proofs.Safety.Steps.{safe_after}
use Rattle.proof_garbage.proofs.GivenUp.{SameElsewhere, dead_with_nothing, fresh_private}
use Rattle.proof_garbage.proofs.Known.{known_used}
use Rattle.proof_garbage.proofs.Step.{step_known}
use Rattle.proof_waiting.specs.Beneath.proof_slots.specs.Lasting.{widened}
use Rattle.proof_waiting.specs.Beneath.proof_slots.specs.Unswept.{HasNoSweeps}
use Rattle.lock_free.specs.declared.accounts.Account.{Account}
use Rattle.lock_free.specs.declared.sizes.Sizes.{Sizes}
use Rattle.lock_free.specs.Accounts.{bounds_for, state_of, running}
use Rattle.lock_free.specs.Beginning.{taking}
use Rattle.lock_free.specs.Live.{IsLive, at_hand}
use Rattle.lock_free.specs.Nodes.{IsAhead}
use Rattle.lock_free.specs.Steps.{Leads}
use Rattle.lock_free.specs.Trying.{try_of, try_at, SameTries, as_before}
use Rattle.lock_free.proofs.OneStep.Giving.{is_one_of, one_of_them, none_of_them}
use Rattle.lock_free.proofs.OneStep.Going.{allowed}
use Rattle.lock_free.proofs.OneStep.Longer.{run_next, bounds_more}
use Rattle.lock_free.proofs.OneStep.Reached.{reached_apart}
use Rattle.lock_free.proofs.OneStep.Retired.{retired_apart}
use Rattle.lock_free.proofs.OneStep.Widened.{slot_in, live_in}

module _ (sizes : Sizes) (account : Account) (bounds : AreBounds (bounds_for sizes account.steps)) (actor : ℕ) (operation : Operation) (runs : running sizes account actor operation) (answer : Reply)
    (may : given_up operation.call operation.line ≡ Some answer) (quiet : HasNoSweeps account.steps) where
  abbrev state : State
  state = state_of sizes account

  abbrev ended : Operation
  ended = gave_up operation answer

  abbrev then : State
  then = settled state (with_operation state actor (Some ended))

  abbrev after : State
  after = state_of sizes (taking (step.GiveUp actor) account)

  abbrev steps : ℕ
  steps = length (account.steps ++ step.GiveUp actor ∷ []) + 1

  next_is : next_state state (step.GiveUp actor) ≡ then
  unfolding next
  next_is =
      ap (λ d. state_after state (give_up_unless state actor d)) (allowed sizes account bounds actor operation runs) ∙ ap (λ o. state_after state (give_up_on state actor o)) runs
      ∙ ap (λ a. state_after state (give_up_by state actor operation a)) may

  pub is_taken : is_taken_step (next state (step.GiveUp actor)) ≡ true
  unfolding next
  is_taken =
      ap (λ d. is_taken_step (give_up_unless state actor d)) (allowed sizes account bounds actor operation runs) ∙ ap (λ o. is_taken_step (give_up_on state actor o)) runs
      ∙ ap (λ a. is_taken_step (give_up_by state actor operation a)) may

  whole : after ≡ widened 1 steps then
  whole = run_next sizes account.steps bounds (step.GiveUp actor) ∙ ap (widened 1 steps) next_is

  safe : IsSafe state
  safe = safe_along (bounds_for sizes account.steps) bounds account.steps

  moves : Moves state (step.GiveUp actor) (outcome.Went kind.Make) then
  moves = GivesUp (allowed sizes account bounds actor operation runs) runs may

  -- ---- who runs what

  others : (a : ℕ) → a ≢ actor → operation_of then a ≡ operation_of state a
  others zero apart = refl
  others (suc j) apart =
      let (k, its, at_k) = place_of_actor state actor operation runs in found_elsewhere state.actors (actor - 1) j _ (λ e. apart (omega (arith, its, e)))

  own : operation_of then actor ≡ Some ended
  own =
      let (k, its, at_k) = place_of_actor state actor operation runs in
      let place : actor - 1 ≡ k = omega (arith, its) in
      ap (operation_of then) its ∙ ap (λ i. get_or (set state.actors i (Some ended)) k None) place ∙ get_or-set_same state.actors k (Some ended) None (found_within state.actors k operation at_k)

  others_then : (a : ℕ) → a ≢ actor → operation_of after a ≡ operation_of state a
  others_then a apart = ap (λ s. operation_of s a) whole ∙ others a apart

  own_then : operation_of after actor ≡ Some ended
  own_then = ap (λ s. operation_of s actor) whole ∙ own

  tries : SameTries state after
  tries a = elim (cases_eq a actor) [
    | inl its ↦ ap (λ n. try_at after n) its ∙ ap (λ o. option_map try_of o) own_then ∙ ap (λ o. option_map try_of o) (sym runs) ∙ ap (λ n. try_at state n) (sym its)
    | inr apart ↦ ap (λ o. option_map try_of o) (others_then a apart)
  ]

  -- ---- what is live

  elsewhere : SameElsewhere (bounds_for sizes account.steps) account.steps bounds actor operation runs then
  elsewhere = record { roots = refl; heap = refl; bounds = refl; others = others }

  nothing_left : (o : Operation) → operation_of then actor ≡ Some o → (r : Ref) → Contains (at_hand then o) r → ⊥
  nothing_left o e r c = none_contained r (subst (λ x. Contains (at_hand then x) r) (same_Some o ended (sym e ∙ own)) c)

  dead : (x : Ref) → Contains operation.private x → IsLive then x → ⊥
  dead x c live = dead_with_nothing (bounds_for sizes account.steps) account.steps bounds actor operation runs then elsewhere nothing_left x c live

  used : (r : Ref) → IsLive then r → IsInUse state.heap r
  used r live = known_used then (safe_after state safe (step.GiveUp actor) (outcome.Went kind.Make) then moves) (λ id. Unit {0}) live

  was_live : (r : Ref) → IsLive then r → IsLive state r
  was_live r live = by (step_known state safe (λ id. Unit {0}) (step.GiveUp actor) (outcome.Went kind.Make) then moves tt live)
    where
      by : IsLive state r ⊎ (standing state.heap r ≡ None) → IsLive state r
      by (inl was) = was
      by (inr none) = absurd (none-some (used r live).0 (sym none ∙ (used r live).1))

  given : (r : Ref) → IsLive then r → is_one_of operation.private (slot_of r) ≡ false
  given r live =
      let (k, its, at_k) = place_of_actor state actor operation runs in none_of_them state.heap operation.private (safe.privates k operation at_k) r (used r live) (λ c. dead r c live)

  -- ---- who is about to swap a node in

  aheads : (i a f : Ref) → IsAhead after i a f → IsAhead state i a f
  aheads i a f h = elim (cases_eq h.actor actor) [
    | inl its ↦
        let one = same_Some _ _ (sym own_then ∙ ap (operation_of after) (sym its) ∙ h.runs) in
        let both : line.End answer ≡ _ = ap (λ (o : Operation). o.line) one ∙ h.on in
        let wrong : ⊥ = cc both in absurd wrong
    | inr apart ↦ record { actor = h.actor; operation = h.operation; runs = sym (others_then h.actor apart) ∙ h.runs; why = h.why; on = h.on }
  ]

  still : (i a f : Ref) → IsAhead state i a f → is_one_of operation.private (slot_of f) ≡ false → IsAhead after i a f
  still i a f h kept = elim (cases_eq h.actor actor) [
    | inl its ↦
        let one = same_Some _ _ (sym h.runs ∙ ap (operation_of state) its ∙ runs) in
        let on = ap (λ (o : Operation). o.line) (sym one) ∙ h.on in
        absurd (true≢false (sym (one_of_them operation.private f (fresh_private (bounds_for sizes account.steps) account.steps bounds actor operation runs i a f h.why on)) ∙ kept))
    | inr apart ↦ record { actor = h.actor; operation = h.operation; runs = others_then h.actor apart ∙ h.runs; why = h.why; on = h.on }
  ]

  -- ---- all of it

  pub gives_up : Leads sizes account (taking (step.GiveUp actor) account) actor (is_one_of operation.private) (gave_up operation answer)
  gives_up = record {
    bounds = bounds_more sizes account.steps (step.GiveUp actor ∷ []) bounds;
    nodes = λ k. ap (λ (s : State). get_or s.heap.slots k None) whole ∙ slot_in 1 steps then k;
    births = ap (λ (s : State). s.heap.births) whole;
    live = λ r k. let live = live_in 1 steps then (subst (λ s. IsLive s r) whole k) in (was_live r live, given r live);
    reached = λ r h. reached_apart sizes account bounds quiet r h actor operation runs;
    retired = λ x h g. retired_apart sizes account bounds quiet x h g actor operation runs;
    roots = ap (λ (s : State). s.roots) whole;
    generations = ap (λ (s : State). s.generations) whole;
    others = others_then;
    own = own_then;
    tries = as_before tries;
    aheads = aheads;
    still = still;
  }

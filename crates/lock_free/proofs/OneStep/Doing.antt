-- Who runs what after an operation's own step that carries no offer out, and who is about to swap a node in.
use Rattle.std.proofs.Common.{◌≡◌, ◌≢◌, ◌-◌, ◌⊎◌, ℕ, zero, suc, Some, None, get_or, set, refl, sym, ap, ◌∙◌, inl, inr, arith}
use Rattle.std.proofs.lemmas.Bool.{cases_eq}
use Rattle.std.proofs.lemmas.List.{get_or-set_same}
use Rattle.std.proofs.lemmas.Option.{same_Some}
use Rattle.machine_model.specs.Beneath.slot_arena.specs.declared.refs.Ref.{Ref}
use Rattle.machine_model.specs.declared.actions.Action.{Action}
use Rattle.machine_model.specs.declared.actions.Action.TheVariants as act
use Rattle.machine_model.specs.declared.operations.Operation.{Operation}
use Rattle.machine_model.specs.Acting.{gone, operation_after}
use Rattle.machine_model.specs.Calls.{handle_of}
use Rattle.machine_model.specs.Counting.{settled}
use Rattle.machine_model.specs.Operations.{action_of}
use Rattle.machine_model.specs.States.{State, operation_of}
use Rattle.machine_model.proofs.Actors.{marks_of, after_marks, gone_actors}
use Rattle.machine_model.proofs.Fates.{place_of_actor}
use Rattle.machine_model.proofs.Found.{found_within, found_elsewhere}
use Rattle.lock_free.specs.Nodes.{IsAhead}
use Rattle.lock_free.proofs.OneStep.Aheads.{ahead_of, ComesAhead, comes_ahead}

-- the action carries no offer out
abbrev pub CompletesNone : Action → Type 0
CompletesNone (act.Complete offer main) = ⊥
CompletesNone action = Unit {0}

marks_none : (state : State) (handle : ℕ) (action : Action) → CompletesNone action → marks_of state handle action ≡ None
marks_none state handle (act.Complete offer main) h = absurd h
marks_none state handle action h = refl

module _ (state : State) (actor : ℕ) (operation : Operation) (runs : operation_of state actor ≡ Some operation) (none : CompletesNone (action_of state operation)) where
  abbrev then : State
  then = settled state (gone state actor operation)

  actors_are : then.actors ≡ set state.actors (actor - 1) (Some (operation_after state operation))
  actors_are =
      gone_actors state actor operation
      ∙ ap (λ m. after_marks m (set state.actors (actor - 1) (Some (operation_after state operation)))) (marks_none state (handle_of operation.call) (action_of state operation) none)

  pub others : (a : ℕ) → a ≢ actor → operation_of then a ≡ operation_of state a
  others zero apart = refl
  others (suc j) apart =
      let (k, own, at_k) = place_of_actor state actor operation runs in
      ap (λ xs. get_or xs j None) actors_are ∙ found_elsewhere state.actors (actor - 1) j _ (λ e. apart (omega (arith, own, e)))

  pub own : operation_of then actor ≡ Some (operation_after state operation)
  own =
      let (k, own, at_k) = place_of_actor state actor operation runs in
      let place : actor - 1 ≡ k = omega (arith, own) in
      let put = Some (operation_after state operation) in
      ap (operation_of then) own ∙ ap (λ xs. get_or xs k None) actors_are ∙ ap (λ i. get_or (set state.actors i put) k None) place
      ∙ get_or-set_same state.actors k put None (found_within state.actors k operation at_k)

  -- who is ahead was so, or comes to be by this step
  pub aheads : (i a f : Ref) → IsAhead then i a f → IsAhead state i a f ⊎ ComesAhead state operation operation.line (i, a, f)
  aheads i a f h = elim (cases_eq h.actor actor) [
    | inl same ↦
        let is = same_Some _ _ (sym own ∙ ap (operation_of then) (sym same) ∙ h.runs) in
        inr (comes_ahead state operation operation.line (i, a, f) (ap (λ (o : Operation). ahead_of o.line) is ∙ ap ahead_of h.on))
    | inr apart ↦ inl (record { actor = h.actor; operation = h.operation; runs = sym (others h.actor apart) ∙ h.runs; why = h.why; on = h.on })
  ]

  -- who was ahead is so still, but for the operation itself
  pub still : (i a f : Ref) → IsAhead state i a f → IsAhead then i a f ⊎ (ahead_of operation.line ≡ Some (i, a, f))
  still i a f h = elim (cases_eq h.actor actor) [
    | inl same ↦
        let is = same_Some _ _ (sym runs ∙ ap (operation_of state) (sym same) ∙ h.runs) in
        inr (ap (λ (o : Operation). ahead_of o.line) is ∙ ap ahead_of h.on)
    | inr apart ↦ inl (record { actor = h.actor; operation = h.operation; runs = others h.actor apart ∙ h.runs; why = h.why; on = h.on })
  ]

-- What an action names, others than the one who makes it have met: nobody is about to swap it in.
use Rattle.std.proofs.Common.{◌≡◌, ◌≢◌, ℕ, [], ◌∷◌, Contains, Some, sym, ap, subst, ◌∙◌, inl, inr, arith}
use Rattle.std.proofs.lemmas.Bool.{cases_eq}
use Rattle.std.proofs.lemmas.List.Elements.{Contains-get_or}
use Rattle.std.proofs.lemmas.Option.{same_Some}
use Rattle.machine_model.specs.Beneath.slot_arena.specs.declared.refs.Ref.{Ref}
use Rattle.machine_model.specs.Beneath.slot_arena.specs.Refs.{slot_of}
use Rattle.machine_model.specs.declared.actions.Action.TheVariants as act
use Rattle.machine_model.specs.declared.operations.Operation.{Operation}
use Rattle.machine_model.specs.declared.steps.Bounds.{Bounds}
use Rattle.machine_model.specs.Machine.{AreBounds}
use Rattle.machine_model.specs.Operations.{action_of}
use Rattle.machine_model.specs.States.{State, operation_of}
use Rattle.proof_memory.specs.Wants.{action_wants}
use Rattle.proof_memory.proofs.Safety.AtEachTime.{safe_along}
use Rattle.proof_memory.proofs.Safety.States.{IsSafe}
use Rattle.proof_garbage.proofs.GivenUp.{other_id, private_known, fresh_private}
use Rattle.proof_garbage.proofs.Known.{known_used, named_known}
use Rattle.proof_garbage.proofs.Private.{Others}
use Rattle.proof_waiting.specs.Beneath.proof_slots.proofs.Unswept.Kept.{one_ref}
use Rattle.lock_free.specs.declared.accounts.Account.{Account}
use Rattle.lock_free.specs.declared.sizes.Sizes.{Sizes}
use Rattle.lock_free.specs.Accounts.{bounds_for, state_of, running}
use Rattle.lock_free.specs.Live.{IsKnown, refs_of_claims}
use Rattle.lock_free.specs.Nodes.{IsAhead}
use Rattle.lock_free.proofs.OneStep.Aheads.{ahead_of, ahead_acts}
use Rattle.lock_free.proofs.OneStep.Found.{ahead_used}

module _ (sizes : Sizes) (account : Account) (bounds : AreBounds (bounds_for sizes account.steps)) (actor : ℕ) (operation : Operation) (runs : running sizes account actor operation)
    (not_ahead : (x : Ref × Ref × Ref) → ahead_of operation.line ≡ Some x → ⊥) where
  abbrev state : State
  state = state_of sizes account

  abbrev limits : Bounds
  limits = bounds_for sizes account.steps

  safe : IsSafe state
  safe = safe_along limits bounds account.steps

  -- what is known to it, as to others than any one who is about to swap a node in
  pub known_met : (r : Ref) → ((P : ℕ → Type 0) → P operation.id → IsKnown state P r) → (i a f : Ref) → IsAhead state i a f → slot_of f ≢ slot_of r
  known_met r known i a f h same = elim (cases_eq h.actor actor) [
    | inl its ↦
        let one = same_Some _ _ (sym h.runs ∙ ap (operation_of state) its ∙ runs) in
        not_ahead (i, a, f) (ap (λ (o : Operation). ahead_of o.line) (sym one) ∙ ap ahead_of h.on)
    | inr apart ↦
        let is = one_ref state.heap f r (ahead_used sizes account bounds i a f h).2 (known_used state safe (λ id. Unit {0}) (known (λ id. Unit {0}) tt)) same in
        let differ = other_id limits account.steps bounds h.actor h.operation h.runs actor operation (λ e. apart (sym e)) runs in
        private_known limits account.steps bounds h.actor h.operation h.runs f (fresh_private limits account.steps bounds h.actor h.operation h.runs i a f h.why h.on)
        (subst (IsKnown state (Others h.operation.id)) (sym is) (known (Others h.operation.id) differ))
  ]

  pub named_met : (r : Ref) → Contains (refs_of_claims (action_wants (action_of state operation))) r → (i a f : Ref) → IsAhead state i a f → slot_of f ≢ slot_of r
  named_met r c = known_met r (λ P own. named_known state safe P actor operation runs own r c)

-- so it is with the main node whose prev word is read next
pub read_is_met : (sizes : Sizes) (account : Account) (bounds : AreBounds (bounds_for sizes account.steps)) (actor : ℕ) (operation : Operation) → running sizes account actor operation → (main : Ref) →
    action_of (state_of sizes account) operation ≡ act.ReadPrev main → (j a f : Ref) → IsAhead (state_of sizes account) j a f → slot_of f ≢ slot_of main
read_is_met sizes account bounds actor operation runs main is =
    named_met sizes account bounds actor operation runs (λ x ahead. let both = sym (ahead_acts (state_of sizes account) operation operation.line x ahead) ∙ is in cc) main
    (subst (λ action. Contains (refs_of_claims (action_wants action)) main) (sym is) (Contains-get_or (main ∷ []) 0 main (omega arith)))

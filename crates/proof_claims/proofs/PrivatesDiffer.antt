-- What is private to an operation stands in its list once.
use Rattle.std.proofs.Common.{◌≡◌, inl, inr, ℕ, List, [], ◌∷◌, Contains, Option, Some, None, sym, refl, subst, append-nil}
use Rattle.proof_claims.specs.Beneath.slot_arena.specs.declared.refs.Ref.{Ref}
use Rattle.proof_claims.specs.Beneath.slot_arena.specs.Heaps.{next_ref}
use Rattle.proof_claims.specs.Beneath.machine_model.specs.declared.actions.Action.{Action}
use Rattle.proof_claims.specs.Beneath.machine_model.specs.declared.actions.Action.TheVariants as act
use Rattle.proof_claims.specs.Beneath.machine_model.specs.declared.operations.Operation.{Operation}
use Rattle.proof_claims.specs.Beneath.machine_model.specs.declared.steps.Bounds.{Bounds}
use Rattle.proof_claims.specs.Beneath.machine_model.specs.declared.steps.Step.{Step}
use Rattle.proof_claims.specs.Beneath.machine_model.specs.Acting.{operation_after, private_after, with_made}
use Rattle.proof_claims.specs.Beneath.machine_model.specs.Machine.{AreBounds, run}
use Rattle.proof_claims.specs.Beneath.machine_model.specs.Operations.{action_of}
use Rattle.proof_claims.specs.Beneath.machine_model.specs.States.{State, operation_of}
use Rattle.proof_claims.specs.Beneath.machine_model.proofs.Actors.{mark_only, marks_by, marks_in}
use Rattle.proof_claims.specs.Beneath.machine_model.proofs.EachOperation.{OfEach, of_each_along, of_running}
use Rattle.proof_claims.specs.Beneath.proof_memory.proofs.Heap.Later.{drawn_once}
use Rattle.proof_claims.specs.Beneath.proof_memory.proofs.Safety.AtEachTime.{safe_along}
use Rattle.proof_claims.specs.Beneath.proof_memory.proofs.Safety.Standing.{in_private_list}
use Rattle.proof_claims.specs.Different.{AreDifferent}
use Rattle.proof_claims.proofs.Differing.{different_append, in_cons, nothing_in}
use Rattle.proof_claims.proofs.NamesOnce.{one_alone}

module _ (limits : Bounds) (ok : AreBounds limits) where
  abbrev Differ : State → Operation → Type 0
  Differ state operation = AreDifferent operation.private

  -- a slot that is made is new
  is_new : (steps : List Step) (actor : ℕ) (operation : Operation) (made : Ref) → operation_of (run limits steps) actor ≡ Some operation →
      next_ref (run limits steps).heap ≡ Some made → Contains operation.private made → ⊥
  is_new steps actor operation made is next c =
      drawn_once limits ok steps [] made (subst (λ xs. next_ref (run limits xs).heap ≡ Some made) (sym (append-nil steps)) next)
      (in_private_list (run limits steps) (safe_along limits ok steps) actor operation made is c)

  made_differ : (private : List Ref) (next : Option Ref) → AreDifferent private → ((made : Ref) → next ≡ Some made → Contains private made → ⊥) → AreDifferent (with_made private next)
  made_differ private None h new = tt
  made_differ private (Some made) h new =
      different_append private (made ∷ []) h (one_alone made)
      (λ y c d. elim (in_cons made [] y d) [ inl same ↦ new made refl (subst (Contains private) (sym same) c) | inr none ↦ nothing_in y none ])

  gone_differ : (steps : List Step) (actor : ℕ) (operation : Operation) (action : Action) → operation_of (run limits steps) actor ≡ Some operation → AreDifferent operation.private →
      AreDifferent (private_after (run limits steps) operation.private action)
  gone_differ steps actor operation (act.Make node) is h = made_differ operation.private _ h (λ made. is_new steps actor operation made is)
  gone_differ steps actor operation (act.MakeRoot main) is h = made_differ operation.private _ h (λ made. is_new steps actor operation made is)
  gone_differ steps actor operation (act.Publish indirection replaced fresh) is h = tt
  gone_differ steps actor operation (act.Offer offer) is h = tt
  gone_differ steps actor operation action is h = h

  each_differ : (steps : List Step) → OfEach Differ (run limits steps)
  each_differ =
      of_each_along limits Differ (λ steps actor call number d. tt)
      (λ steps actor operation is g h. rw (mark_only (marks_by (run limits steps) (Some operation)) (operation_after (run limits steps) operation))
      (gone_differ steps actor operation (action_of (run limits steps) operation) is h))
      (λ steps actor operation answer is a h. tt)
      (λ steps s o after m k other operation found h. rw (mark_only (marks_in (run limits steps) s) operation) h)

  pub privates_differ : (steps : List Step) (actor : ℕ) (operation : Operation) → operation_of (run limits steps) actor ≡ Some operation → AreDifferent operation.private
  privates_differ steps actor operation is = of_running Differ (run limits steps) (each_differ steps) actor operation is

-- What nobody holds any more is garbage.
use Rattle.history.specs.declared.calls.Call.{Call}
use Rattle.std.proofs.Common.{◌≡◌, ◌&&◌, ◌++◌, inl, inr, ℕ, true, List, Contains, Some, refl, sym, ap, subst, ◌∙◌, arith, eq-eqb}
use Rattle.std.proofs.lemmas.Bool.{cases_Bool}
use Rattle.atomic_table.specs.Table as Table
use Rattle.machine_model.specs.Beneath.slot_arena.specs.declared.refs.Ref.{Ref}
use Rattle.machine_model.specs.Beneath.slot_arena.specs.Refs.{slot_of}
use Rattle.machine_model.specs.declared.operations.Operation.{Operation}
use Rattle.machine_model.specs.declared.steps.Step.{Step}
use Rattle.machine_model.specs.Machine.{run}
use Rattle.machine_model.specs.States.{State, operation_of}
use Rattle.proof_claims.specs.Claims.{Has, claims_of}
use Rattle.proof_claims.specs.Held.{Holder, OfHandle, OfNode}
use Rattle.proof_claims.specs.Laws.{IsUnheld}
use Rattle.proof_claims.proofs.Unheld.{garbage}
use Rattle.proof_claims.specs.Beneath.proof_reuse.specs.Laws.{IsGarbage}
use Rattle.lock_free.specs.declared.accounts.Account.{Account}
use Rattle.lock_free.specs.declared.rules.View.{View}
use Rattle.lock_free.specs.declared.sizes.Sizes.{Sizes}
use Rattle.lock_free.specs.Accounts.{bounds_for, state_of}
use Rattle.lock_free.specs.Claims.{claims_there, held_now, is_there}
use Rattle.lock_free.specs.Holdings.{IsHere, WasGarbageBefore}
use Rattle.lock_free.specs.Rules.{IsKept}
use Rattle.lock_free.proofs.HeldRetiring.{some_claims}
use Rattle.lock_free.proofs.OneStep.GarbageWide.{garbage_wide}
use Rattle.lock_free.proofs.Reclaimable.{prefix_is}

module _ (sizes : Sizes) (s : Table.State Call View) (kept : IsKept sizes s) (k : Ref) (here : IsHere sizes kept.account kept.stands k)
    (none : claims_there kept.stands k (held_now sizes kept.account).claims ≡ 0) where
  abbrev account : Account
  account = kept.account

  not_there : (by : Holder) → Has (held_now sizes account) by k → is_there kept.stands by ≡ true → ⊥
  not_there by has there =
      let some = some_claims kept.stands k (held_now sizes account).claims (record { by = by; on = k }) has (ap (λ b. b && is_there kept.stands by) (eq-eqb k k refl) ∙ there) in
      omega (arith, some, none)

  abbrev WasGarbage : Holder → Type 0
  WasGarbage by = (j : Ref) × (before since : List Step) × (by ≡ OfNode j) × (account.steps ≡ before ++ since) × IsGarbage (run (bounds_for sizes account.steps) before) j

  fallen : (j : Ref) → WasGarbageBefore sizes account j → WasGarbage (OfNode j)
  fallen j g = (
    j,
    g.first.steps,
    g.grown.steps,
    refl,
    g.grown.goes_on,
    subst (λ (x : State). IsGarbage x j) (sym (prefix_is sizes account kept.bounds g.first g.grown)) (garbage_wide _ _ (state_of sizes g.first) j g.garbage),
  )

  by_garbage : (by : Holder) → Has (held_now sizes account) by k → WasGarbage by
  by_garbage (OfHandle handle) has = absurd (not_there (OfHandle handle) has refl)
  by_garbage (OfNode j) has = elim (cases_Bool (kept.stands (slot_of j))) [
    | inl stood ↦ absurd (not_there (OfNode j) has stood)
    | inr gone ↦ fallen j (kept.held.gone j k has gone)
  ]

  unheld : IsUnheld (bounds_for sizes account.steps) account.steps k
  unheld c has on = by_garbage c.by (subst (λ r. Contains (claims_of (bounds_for sizes account.steps) account.steps) (record { by = c.by; on = r })) on has)

  pub dead_is_garbage : ((a : ℕ) (o : Operation) → operation_of (state_of sizes account) a ≡ Some o → ¬ Contains o.private k) → IsGarbage (state_of sizes account) k
  dead_is_garbage private = garbage (bounds_for sizes account.steps) kept.bounds account.steps k unheld here.0 private

-- Who ran nothing at some time runs later only what has begun since.
use Rattle.std.proofs.Common.{◌≡◌, ◌<◌, ◌≤◌, ◌+◌, ◌++◌, inl, inr, ℕ, zero, suc, List, [], length, get_or, Option, Some, None, refl, sym, ap, ◌∙◌, subst, arith, append-nil}
use Rattle.std.proofs.lemmas.Bool.{cases_lt}
use Rattle.std.proofs.lemmas.Option.{none-some, same_Some}
use Rattle.machine_model.specs.declared.operations.Operation.{Operation}
use Rattle.machine_model.specs.declared.steps.Step.{Step}
use Rattle.machine_model.specs.Machine.{AreBounds, run}
use Rattle.machine_model.specs.States.{State, operation_of}
use Rattle.proof_claims.specs.Beneath.proof_reuse.proofs.BegunSince.{Since, begun_later, since_along}
use Rattle.proof_waiting.specs.Beneath.proof_slots.specs.Lasting.{widened}
use Rattle.lock_free.specs.declared.accounts.Account.{Account}
use Rattle.lock_free.specs.declared.sizes.Sizes.{Sizes}
use Rattle.lock_free.specs.Accounts.{bounds_for, state_of, running, HasGrown}
use Rattle.lock_free.proofs.OneStep.Longer.{run_longer, bounds_less}

module _ (sizes : Sizes) (first account : Account) (bounds : AreBounds (bounds_for sizes account.steps)) (grown : HasGrown first account) where
  abbrev all : List Step
  all = first.steps ++ grown.steps

  ok : AreBounds (bounds_for sizes all)
  ok = subst (λ l. AreBounds (bounds_for sizes l)) grown.goes_on bounds

  pub first_bounds : AreBounds (bounds_for sizes first.steps)
  first_bounds = bounds_less sizes first.steps grown.steps ok

  abbrev then : State
  then = run (bounds_for sizes all) first.steps

  then_is : then ≡ widened (length grown.steps) (length all + 1) (state_of sizes first)
  then_is = run_longer sizes first.steps first_bounds first.steps [] grown.steps (sym (append-nil first.steps))

  same_begun : then.begun ≡ (state_of sizes first).begun
  same_begun = ap (λ (s : State). s.begun) then_is

  -- operations are numbered as they begin
  pub begun_grown : (state_of sizes first).begun ≤ (state_of sizes account).begun
  begun_grown =
      subst (λ n. n ≤ (state_of sizes account).begun) same_begun
      (subst (λ l. then.begun ≤ (run (bounds_for sizes l) l).begun) (sym grown.goes_on) (begun_later (bounds_for sizes all) first.steps grown.steps))

  -- where n had begun, and what ran in this place wasn't one of these
  at_end : (place n : ℕ) → n ≤ (state_of sizes first).begun → ((operation : Operation) → get_or (state_of sizes first).actors place None ≡ Some operation → n ≤ operation.id) →
      Since (λ k. k ≡ place) n (state_of sizes account)
  at_end place n low newer =
      subst (λ l. Since (λ k. k ≡ place) n (run (bounds_for sizes l) l)) (sym grown.goes_on)
      (since_along (bounds_for sizes all) first.steps (λ k. k ≡ place) n grown.steps (record {
        later = subst (λ b. n ≤ b) (sym same_begun) low;
        newer = λ k operation found same.
            newer operation (ap (λ j. get_or (state_of sizes first).actors j None) (sym same) ∙ subst (λ (s : State). get_or s.actors k None ≡ Some operation) then_is found);
      }))

  pub begun_since : (actor : ℕ) → operation_of (state_of sizes first) actor ≡ None → (operation : Operation) → running sizes account actor operation → (state_of sizes first).begun ≤ operation.id
  begun_since zero idle operation runs = absurd (none-some operation runs)
  begun_since (suc k) idle operation runs = (at_end k (state_of sizes first).begun (omega arith) (λ o e. absurd (none-some o (sym idle ∙ e)))).newer k operation runs refl

  -- who runs one of these later ran one of them then
  pub ran_before : (n : ℕ) → n ≤ (state_of sizes first).begun → (actor : ℕ) (operation : Operation) → running sizes account actor operation → operation.id < n →
      (was : Operation) × running sizes first actor was × (was.id < n)
  ran_before n low zero operation runs early = absurd (none-some operation runs)
  ran_before n low (suc k) operation runs early = by (get_or (state_of sizes first).actors k None) refl
    where
      newer : ((o : Operation) → get_or (state_of sizes first).actors k None ≡ Some o → n ≤ o.id) → ⊥
      newer h = let late = (at_end k n low h).newer k operation runs refl in omega (arith, late, early)

      by : (x : Option Operation) → get_or (state_of sizes first).actors k None ≡ x → (was : Operation) × (get_or (state_of sizes first).actors k None ≡ Some was) × (was.id < n)
      by None e = absurd (newer (λ o is. absurd (none-some o (sym e ∙ is))))
      by (Some was) e = elim (cases_lt was.id n) [
        | inl low_id ↦ (was, e, low_id)
        | inr high ↦ absurd (newer (λ o is. subst (λ (x : Operation). n ≤ x.id) (same_Some was o (sym e ∙ is)) high))
      ]

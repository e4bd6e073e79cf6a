-- A node whose slot was retired is in use for ever, and no operation's own.
use Rattle.std.proofs.Common.{◌≡◌, ◌+◌, ◌++◌, ℕ, length, suc, false, List, [], get_or, Some, None, sym, ap, subst, ◌∙◌, append-nil}
use Rattle.machine_model.specs.Beneath.slot_arena.specs.Refs.{birth_of}
use Rattle.machine_model.specs.Beneath.slot_arena.specs.declared.refs.Ref.{Ref}
use Rattle.machine_model.specs.declared.operations.Operation.{Operation}
use Rattle.machine_model.specs.declared.steps.Step.{Step}
use Rattle.machine_model.specs.Grown.{of_birth}
use Rattle.machine_model.specs.Machine.{AreBounds, run}
use Rattle.machine_model.specs.States.{State}
use Rattle.machine_model.proofs.Fates.{place_of_actor}
use Rattle.proof_memory.specs.Laws.{IsInUse}
use Rattle.proof_memory.proofs.Safety.AtEachTime.{safe_along}
use Rattle.proof_garbage.proofs.Public.{IsPublic, public_on}
use Rattle.proof_waiting.specs.Beneath.proof_slots.specs.Lasting.{widened}
use Rattle.proof_waiting.specs.Beneath.proof_slots.specs.Unswept.{HasNoSweeps}
use Rattle.proof_waiting.specs.Beneath.proof_slots.proofs.Padded.Heaps.{stored_wide}
use Rattle.proof_waiting.specs.Beneath.proof_slots.proofs.Unswept.Kept.{nothing_is_freed}
use Rattle.proof_waiting.specs.Beneath.proof_slots.proofs.Unswept.Shrinking.{unswept_behind}
use Rattle.lock_free.specs.declared.accounts.Account.{Account}
use Rattle.lock_free.specs.declared.rules.Retired.{Retired}
use Rattle.lock_free.specs.declared.sizes.Sizes.{Sizes}
use Rattle.lock_free.specs.Accounts.{bounds_for, state_of, running, HasGrown}
use Rattle.lock_free.specs.Rules.{WasGarbage}
use Rattle.lock_free.proofs.OneStep.Giving.{is_one_of, none_of_them}
use Rattle.lock_free.proofs.OneStep.Longer.{run_longer, bounds_less}

-- under the bounds of a longer account too
pub used_wide : (more m : ℕ) (state : State) (r : Ref) → IsInUse state.heap r → IsInUse (widened more m state).heap r
used_wide more m state r used = (used.0, ap (of_birth (birth_of r)) (stored_wide more state.limits.slots state.heap r) ∙ used.1)

module _ (sizes : Sizes) (account : Account) (bounds : AreBounds (bounds_for sizes account.steps)) (quiet : HasNoSweeps account.steps) (x : Retired) (was : WasGarbage sizes x)
    (grown : HasGrown x.account account) where
  abbrev before : List Step
  before = x.account.steps

  abbrev all : List Step
  all = before ++ grown.steps

  ok : AreBounds (bounds_for sizes all)
  ok = subst (λ l. AreBounds (bounds_for sizes l)) grown.goes_on bounds

  abbrev then : State
  then = run (bounds_for sizes all) before

  then_is : then ≡ widened (length grown.steps) (length all + 1) (state_of sizes x.account)
  then_is = run_longer sizes before (bounds_less sizes before grown.steps ok) before [] grown.steps (sym (append-nil before))

  used_then : IsInUse then.heap was.node
  used_then = subst (λ (s : State). IsInUse s.heap was.node) (sym then_is) (used_wide (length grown.steps) (length all + 1) (state_of sizes x.account) was.node was.garbage.in_use)

  public_then : IsPublic was.node then
  public_then = record {
    made = (safe_along (bounds_for sizes all) ok before).births was.node used_then.0 used_then.1;
    apart = λ k operation found c. was.garbage.private_to_none (suc k) operation (subst (λ (s : State). get_or s.actors k None ≡ Some operation) then_is found) c;
  }

  pub retired_used : IsInUse (state_of sizes account).heap was.node
  retired_used =
      let still = nothing_is_freed (bounds_for sizes all) before grown.steps was.node used_then.0 ok (unswept_behind before grown.steps (subst HasNoSweeps grown.goes_on quiet)) used_then.1 in
      subst (λ l. IsInUse (run (bounds_for sizes l) l).heap was.node) (sym grown.goes_on) (still.0, still.1)

  pub retired_apart : (actor : ℕ) (operation : Operation) → running sizes account actor operation → is_one_of operation.private x.number ≡ false
  retired_apart actor operation runs =
      let (k, own, at_k) = place_of_actor (state_of sizes account) actor operation runs in
      subst (λ n. is_one_of operation.private n ≡ false) was.number
      (none_of_them (state_of sizes account).heap operation.private ((safe_along (bounds_for sizes account.steps) bounds account.steps).privates k operation at_k) was.node retired_used
      (λ c.
      (public_on (bounds_for sizes all) ok before grown.steps was.node public_then).apart k operation
      (subst (λ (l : List Step). get_or (run (bounds_for sizes l) l).actors k None ≡ Some operation) grown.goes_on at_k) c))

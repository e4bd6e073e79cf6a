-- The handle of a running operation is one of the machine's.
use Rattle.std.proofs.Common.{◌≡◌, ◌<◌, ◌||◌, ℕ, Bool, true, false, is_some, Option, Some, None, refl, arith}
use Rattle.std.proofs.lemmas.Bool.{false≢true}
use Rattle.machine_model.specs.declared.operations.Operation.{Operation}
use Rattle.machine_model.specs.declared.roots.Root.{Root}
use Rattle.machine_model.specs.Calls.{handle_of}
use Rattle.machine_model.specs.Machine.{AreBounds}
use Rattle.machine_model.specs.Moves.{GoesOn}
use Rattle.machine_model.specs.Operations.{action_of}
use Rattle.machine_model.specs.States.{State, root_at}
use Rattle.machine_model.proofs.Found.{found_within}
use Rattle.proof_memory.specs.Laws.{is_end}
use Rattle.proof_memory.proofs.Holding.Sizes.{sizes_stay}
use Rattle.proof_memory.proofs.Safety.AtEachTime.{safe_along}
use Rattle.proof_memory.proofs.Safety.Base.{HasHandle, goes_no_end}
use Rattle.proof_memory.proofs.Safety.Steps.{of_actor}
use Rattle.lock_free.specs.declared.accounts.Account.{Account}
use Rattle.lock_free.specs.declared.sizes.Sizes.{Sizes}
use Rattle.lock_free.specs.Accounts.{bounds_for, state_of, running}

module _ (sizes : Sizes) (account : Account) (bounds : AreBounds (bounds_for sizes account.steps)) (actor : ℕ) (operation : Operation) (runs : running sizes account actor operation)
    (goes : GoesOn (action_of (state_of sizes account) operation)) where
  abbrev state : State
  state = state_of sizes account

  abbrev handle : ℕ
  handle = handle_of operation.call

  open_by : (ends opened : Bool) → is_end operation.line ≡ ends → (ends || opened) ≡ true → opened ≡ true
  open_by true opened e h = absurd (goes_no_end state operation operation.line goes e)
  open_by false opened e h = h

  is_open : is_some (root_at state handle) ≡ true
  is_open =
      let has = (of_actor state (λ k o. HasHandle state o) (safe_along (bounds_for sizes account.steps) bounds account.steps).handles actor operation runs).1 in
      open_by (is_end operation.line) (is_some (root_at state handle)) refl has

  within : (r : Option Root) → root_at state handle ≡ r → is_some r ≡ true → handle < 256
  within None e h = absurd (false≢true h)
  within (Some root) e h =
      let low = found_within state.roots handle root e in let long = (sizes_stay (bounds_for sizes account.steps) account.steps).0 in omega (arith, low, long)

  pub handle_low : handle < 256
  handle_low = within (root_at state handle) refl is_open

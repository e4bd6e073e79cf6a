-- An operation begins, ends, or closes a handle: what the definition's steps leave.
use Rattle.std.specs.Prelude.{◌≡◌, ◌≢◌, ℕ, false, [], ◌∷◌, ◌++◌, Contains, Option, Some, None}
use Rattle.history.specs.declared.calls.Call.{Call}
use Rattle.history.specs.declared.calls.Call.TheVariants.{Close}
use Rattle.machine_model.specs.declared.operations.Operation.{Operation}
use Rattle.machine_model.specs.declared.roots.RootWord.TheVariants.{Offer}
use Rattle.machine_model.specs.declared.steps.Step.{Step}
use Rattle.machine_model.specs.declared.steps.Step.TheVariants as step
use Rattle.machine_model.specs.Keys.{FitsKey}
use Rattle.machine_model.specs.States.{operation_of, root_at, word_at}
use Rattle.lock_free.specs.declared.accounts.Account.{Account}
use Rattle.lock_free.specs.declared.accounts.Known.{Known}
use Rattle.lock_free.specs.declared.sizes.Sizes.{Sizes}
use Rattle.lock_free.specs.Accounts.{state_of, gone_on, IsOfOther}
use Rattle.lock_free.specs.Fates.{TellsFate}
use Rattle.lock_free.specs.Offering.{LeavesNodes}
use Rattle.lock_free.specs.Roots.{IsItsTry}

-- one more step
abbrev pub taking : Step → Account → Account
taking taken account = record account { steps = account.steps ++ taken ∷ [] }

-- by this step the actor begins an operation, which has reserved this number, or none
pub record Begins (sizes : Sizes) (account : Account) (actor : ℕ) (taken : Step) (call : Call) (opens : Option ℕ) : Type 0 where
  pub leaves : LeavesNodes sizes account (taking taken account)
  pub fits : FitsKey taken
  pub its : (a : ℕ) → a ≢ actor → IsOfOther a taken
  pub roots : (state_of sizes (taking taken account)).roots ≡ (state_of sizes account).roots
  pub others : (a : ℕ) → a ≢ actor → operation_of (state_of sizes (taking taken account)) a ≡ operation_of (state_of sizes account) a
  pub operation : Operation
  pub own : operation_of (state_of sizes (taking taken account)) actor ≡ Some operation
  pub its_call : operation.call ≡ call
  pub its_opens : operation.opens ≡ opens
  pub unmarked : operation.is_marked ≡ false
  pub alone : operation.private ≡ []
  -- it has offered nothing yet
  pub fresh : (k : Known) → Contains account.offers k → IsItsTry operation k.offer → ⊥

-- the actor's operation ends
pub record Ends (sizes : Sizes) (account : Account) (actor : ℕ) : Type 0 where
  pub leaves : LeavesNodes sizes account (gone_on actor account)
  pub roots : (state_of sizes (gone_on actor account)).roots ≡ (state_of sizes account).roots
  pub others : (a : ℕ) → a ≢ actor → operation_of (state_of sizes (gone_on actor account)) a ≡ operation_of (state_of sizes account) a
  pub own : operation_of (state_of sizes (gone_on actor account)) actor ≡ None

-- an operation that closes the handle begins and ends at once
abbrev pub closed_by : ℕ → ℕ → Account → Account
closed_by actor handle account = record account { steps = account.steps ++ step.Begin actor (Close handle) None ∷ step.Go actor ∷ [] }

pub record Closes (sizes : Sizes) (account : Account) (actor handle : ℕ) : Type 0 where
  pub leaves : LeavesNodes sizes account (closed_by actor handle account)
  pub closed : root_at (state_of sizes (closed_by actor handle account)) handle ≡ None
  pub roots : (g : ℕ) → g ≢ handle → root_at (state_of sizes (closed_by actor handle account)) g ≡ root_at (state_of sizes account) g
  -- what stands on other handles is settled by neither step
  pub fates : (k : Known) (n : ℕ) → (word_at (state_of sizes account) k.handle ≡ Offer k.offer → k.handle ≢ handle) → TellsFate sizes account k n → TellsFate sizes (closed_by actor handle account) k n
  pub operations : (a : ℕ) → operation_of (state_of sizes (closed_by actor handle account)) a ≡ operation_of (state_of sizes account) a

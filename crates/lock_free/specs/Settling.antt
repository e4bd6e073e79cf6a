-- An offer is carried out or taken back: what the definition's step leaves.
use Rattle.std.specs.Prelude.{◌≡◌, ◌≢◌, ◌<◌, ℕ, Some}
use Rattle.history.specs.declared.calls.Access.TheVariants.{Writable}
use Rattle.machine_model.specs.declared.operations.Operation.{Operation}
use Rattle.machine_model.specs.declared.roots.RootWord.TheVariants.{Offer}
use Rattle.machine_model.specs.Calls.{handle_of}
use Rattle.machine_model.specs.States.{operation_of, root_at, handle_limit}
use Rattle.lock_free.specs.declared.accounts.Account.{Account}
use Rattle.lock_free.specs.declared.accounts.Known.{Known}
use Rattle.lock_free.specs.declared.sizes.Sizes.{Sizes}
use Rattle.machine_model.specs.Acting.{operation_after}
use Rattle.lock_free.specs.Accounts.{state_of, gone_on}
use Rattle.lock_free.specs.Fates.{IsSettled}
use Rattle.lock_free.specs.Offering.{LeavesNodes}
use Rattle.lock_free.specs.Roots.{open_with, meant, opened_by}

-- the actor's operation settles an offer that stands on its handle
pub record Settles (sizes : Sizes) (account : Account) (actor n : ℕ) (operation : Operation) (k : Known) : Type 0 where
  pub leaves : LeavesNodes sizes account (gone_on actor account)
  pub stood : root_at (state_of sizes account) (handle_of operation.call) ≡ open_with Writable (Offer k.offer)
  pub settled : root_at (state_of sizes (gone_on actor account)) (handle_of operation.call) ≡ open_with Writable (meant n k.offer)
  pub opened : (handle : ℕ) → handle < handle_limit → k.offer.opens ≡ Some handle → root_at (state_of sizes (gone_on actor account)) handle ≡ opened_by n k.offer
  pub roots : (handle : ℕ) → handle ≢ handle_of operation.call → (k.offer.opens ≡ Some handle → ⊥) → root_at (state_of sizes (gone_on actor account)) handle ≡ root_at (state_of sizes account) handle
  pub tries : IsSettled n k.offer (state_of sizes account) (state_of sizes (gone_on actor account))
  pub next : Operation
  pub own : operation_of (state_of sizes (gone_on actor account)) actor ≡ Some next
  pub same_call : next.call ≡ operation.call
  pub same_opens : next.opens ≡ operation.opens
  pub keeps : next.private ≡ (operation_after (state_of sizes account) operation).private
  pub line : next.line ≡ (operation_after (state_of sizes account) operation).line

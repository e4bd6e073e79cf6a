-- What a step of an actor's operation that changes no word leaves: all but its operation, and the nodes of its own that it gives up.
use Rattle.std.specs.Prelude.{◌≡◌, ℕ, ◌≢◌, Bool, false, Some, None, slice_index_or}
use Rattle.machine_model.specs.declared.operations.Operation.{Operation}
use Rattle.machine_model.specs.Acting.{operation_after}
use Rattle.machine_model.specs.Machine.{AreBounds}
use Rattle.machine_model.specs.States.{operation_of}
use Rattle.machine_model.specs.Beneath.slot_arena.specs.declared.refs.Ref.{Ref}
use Rattle.machine_model.specs.Beneath.slot_arena.specs.Refs.{slot_of}
use Rattle.lock_free.specs.Live.{IsLive}
use Rattle.lock_free.specs.Nodes.{IsAhead}
use Rattle.lock_free.specs.Trying.{KeepsTries}
use Rattle.lock_free.specs.declared.accounts.Account.{Account}
use Rattle.lock_free.specs.declared.sizes.Sizes.{Sizes}
use Rattle.lock_free.specs.declared.rules.Retired.{Retired}
use Rattle.lock_free.specs.Accounts.{state_of, bounds_for, gone_on, HasGrown, WasRoot}
use Rattle.lock_free.specs.Rules.{WasGarbage}

-- the nodes that are given up, by their numbers
abbrev pub Dropped : Type 0
Dropped = ℕ → Bool

abbrev pub nothing : Dropped
nothing = λ k. false

pub record Leads (sizes : Sizes) (account after : Account) (actor : ℕ) (dropped : Dropped) (next : Operation) : Type 0 where
  pub bounds : AreBounds (bounds_for sizes after.steps)
  pub nodes : (k : ℕ) → slice_index_or (state_of sizes after).heap.slots k None ≡ slice_index_or (state_of sizes account).heap.slots k None
  pub births : (state_of sizes after).heap.births ≡ (state_of sizes account).heap.births
  -- nothing more is live, and nothing that is given up
  pub live : (r : Ref) → IsLive (state_of sizes after) r → IsLive (state_of sizes account) r × (dropped (slot_of r) ≡ false)
  -- nor what was a root once
  pub reached : (r : Ref) → WasRoot sizes account r → dropped (slot_of r) ≡ false
  -- nor what is retired
  pub retired : (x : Retired) → WasGarbage sizes x → HasGrown x.account account → dropped x.number ≡ false
  pub roots : (state_of sizes after).roots ≡ (state_of sizes account).roots
  pub generations : (state_of sizes after).generations ≡ (state_of sizes account).generations
  pub others : (a : ℕ) → a ≢ actor → operation_of (state_of sizes after) a ≡ operation_of (state_of sizes account) a
  pub own : operation_of (state_of sizes after) actor ≡ Some next
  pub tries : KeepsTries account.offers (state_of sizes account) (state_of sizes after)
  -- nobody is about to swap a node in but who was, and who was still is, but for what is given up
  pub aheads : (i a f : Ref) → IsAhead (state_of sizes after) i a f → IsAhead (state_of sizes account) i a f
  pub still : (i a f : Ref) → IsAhead (state_of sizes account) i a f → dropped (slot_of f) ≡ false → IsAhead (state_of sizes after) i a f

-- a step that only reads
abbrev pub Reads : Sizes → Account → ℕ → Operation → Type 0
Reads sizes account actor operation = Leads sizes account (gone_on actor account) actor nothing (operation_after (state_of sizes account) operation)

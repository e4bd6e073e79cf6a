-- A pending main node is decided: what the definition's step leaves, and how its header says it.
use Rattle.std.specs.Prelude.{◌≡◌, ◌≢◌, ◌⊎◌, ℕ, Some, None, slice_index_or}
use Rattle.trie_words.specs.declared.headers.Previous.{Previous}
use Rattle.trie_words.specs.declared.headers.Previous.TheVariants as previous
use Rattle.machine_model.specs.Beneath.slot_arena.specs.declared.refs.Ref.{Ref}
use Rattle.machine_model.specs.Beneath.slot_arena.specs.declared.nodes.Prev.{Prev}
use Rattle.machine_model.specs.Beneath.slot_arena.specs.declared.nodes.Prev.TheVariants as prev
use Rattle.machine_model.specs.Beneath.slot_arena.specs.declared.nodes.Slot.{Slot}
use Rattle.machine_model.specs.Beneath.slot_arena.specs.Refs.{slot_of}
use Rattle.machine_model.specs.declared.operations.Operation.{Operation}
use Rattle.machine_model.specs.Acting.{operation_after}
use Rattle.machine_model.specs.Machine.{AreBounds}
use Rattle.machine_model.specs.States.{operation_of}
use Rattle.lock_free.specs.declared.accounts.Account.{Account}
use Rattle.lock_free.specs.declared.sizes.Sizes.{Sizes}
use Rattle.lock_free.specs.Accounts.{bounds_for, state_of, gone_on}
use Rattle.lock_free.specs.Live.{IsLive}
use Rattle.lock_free.specs.Nodes.{IsAhead}
use Rattle.lock_free.specs.Trying.{SameTries}

-- what a header says of a node that was pending: committed, or failed over the same one
abbrev pub says_then : Prev → Previous → Previous
says_then prev.None says = previous.None
says_then (prev.Pending p) says = says
says_then (prev.Failed p) (previous.Pending over) = previous.Failed over
says_then (prev.Failed p) says = says

-- the operation of this actor decides this main node, which is pending over that one
pub record Decides (sizes : Sizes) (account : Account) (actor : ℕ) (operation : Operation) (main replaced : Ref) : Type 0 where
  pub bounds : AreBounds (bounds_for sizes (gone_on actor account).steps)
  pub slot : Slot
  pub is : slice_index_or (state_of sizes account).heap.slots (slot_of main) None ≡ Some slot
  pub pending : slot.prev ≡ prev.Pending replaced
  pub verdict : Prev
  pub committed_or_failed : (verdict ≡ prev.None) ⊎ (verdict ≡ prev.Failed replaced)
  pub then_is : slice_index_or (state_of sizes (gone_on actor account)).heap.slots (slot_of main) None ≡ Some (record slot { prev = verdict })
  pub nodes : (k : ℕ) → k ≢ slot_of main → slice_index_or (state_of sizes (gone_on actor account)).heap.slots k None ≡ slice_index_or (state_of sizes account).heap.slots k None
  pub births : (state_of sizes (gone_on actor account)).heap.births ≡ (state_of sizes account).heap.births
  pub live : (r : Ref) → IsLive (state_of sizes (gone_on actor account)) r → IsLive (state_of sizes account) r
  pub roots : (state_of sizes (gone_on actor account)).roots ≡ (state_of sizes account).roots
  pub generations : (state_of sizes (gone_on actor account)).generations ≡ (state_of sizes account).generations
  pub others : (a : ℕ) → a ≢ actor → operation_of (state_of sizes (gone_on actor account)) a ≡ operation_of (state_of sizes account) a
  pub own : operation_of (state_of sizes (gone_on actor account)) actor ≡ Some (operation_after (state_of sizes account) operation)
  pub tries : SameTries (state_of sizes account) (state_of sizes (gone_on actor account))
  -- who is about to swap a node in is so still, and nobody with this one
  pub aheads : (i a f : Ref) → IsAhead (state_of sizes (gone_on actor account)) i a f → IsAhead (state_of sizes account) i a f
  pub still : (i a f : Ref) → IsAhead (state_of sizes account) i a f → IsAhead (state_of sizes (gone_on actor account)) i a f
  pub not_ahead : (i a f : Ref) → IsAhead (state_of sizes account) i a f → slot_of f ≢ slot_of main

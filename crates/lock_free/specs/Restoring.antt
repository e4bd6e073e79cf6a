-- In the place of a failed main node the one before it is put back: what the definition's step leaves.
use Rattle.std.specs.Prelude.{◌≡◌, ◌≢◌, ℕ, Some, None, slice_index_or}
use Rattle.machine_model.specs.Beneath.slot_arena.specs.declared.refs.Ref.{Ref}
use Rattle.machine_model.specs.Beneath.slot_arena.specs.declared.nodes.Node.TheVariants.{Indirection}
use Rattle.machine_model.specs.Beneath.slot_arena.specs.declared.nodes.Prev.TheVariants as prev
use Rattle.machine_model.specs.Beneath.slot_arena.specs.declared.nodes.Slot.{Slot}
use Rattle.machine_model.specs.Beneath.slot_arena.specs.Refs.{slot_of}
use Rattle.machine_model.specs.declared.operations.Operation.{Operation}
use Rattle.machine_model.specs.Acting.{operation_after}
use Rattle.machine_model.specs.Machine.{AreBounds}
use Rattle.machine_model.specs.States.{operation_of}
use Rattle.lock_free.specs.declared.accounts.Account.{Account}
use Rattle.lock_free.specs.declared.sizes.Sizes.{Sizes}
use Rattle.lock_free.specs.Accounts.{bounds_for, state_of, gone_on}
use Rattle.lock_free.specs.Live.{IsLive}
use Rattle.lock_free.specs.Nodes.{IsAhead}
use Rattle.lock_free.specs.Trying.{SameTries}
use Rattle.lock_free.specs.Publishing.{with_main_of}

-- the operation of this actor puts the decided main node `former` back in the place of `main`, which failed over it
pub record Restores (sizes : Sizes) (account : Account) (actor : ℕ) (operation : Operation) (i main former : Ref) : Type 0 where
  pub bounds : AreBounds (bounds_for sizes (gone_on actor account).steps)
  pub generation : ℕ
  pub link : Slot
  pub link_is : slice_index_or (state_of sizes account).heap.slots (slot_of i) None ≡ Some link
  pub link_node : link.node ≡ Indirection generation main
  pub link_then : slice_index_or (state_of sizes (gone_on actor account)).heap.slots (slot_of i) None ≡ Some (with_main_of link generation former)
  pub failed : Slot
  pub failed_is : slice_index_or (state_of sizes account).heap.slots (slot_of main) None ≡ Some failed
  pub failed_over : failed.prev ≡ prev.Failed former
  pub former_decided : (slot : Slot) → slice_index_or (state_of sizes account).heap.slots (slot_of former) None ≡ Some slot → slot.prev ≡ prev.None
  pub nodes : (k : ℕ) → k ≢ slot_of i → slice_index_or (state_of sizes (gone_on actor account)).heap.slots k None ≡ slice_index_or (state_of sizes account).heap.slots k None
  pub births : (state_of sizes (gone_on actor account)).heap.births ≡ (state_of sizes account).heap.births
  pub live : (r : Ref) → IsLive (state_of sizes (gone_on actor account)) r → IsLive (state_of sizes account) r
  pub roots : (state_of sizes (gone_on actor account)).roots ≡ (state_of sizes account).roots
  pub generations : (state_of sizes (gone_on actor account)).generations ≡ (state_of sizes account).generations
  pub others : (a : ℕ) → a ≢ actor → operation_of (state_of sizes (gone_on actor account)) a ≡ operation_of (state_of sizes account) a
  pub own : operation_of (state_of sizes (gone_on actor account)) actor ≡ Some (operation_after (state_of sizes account) operation)
  pub tries : SameTries (state_of sizes account) (state_of sizes (gone_on actor account))
  pub aheads : (j b g : Ref) → IsAhead (state_of sizes (gone_on actor account)) j b g → IsAhead (state_of sizes account) j b g
  pub still : (j b g : Ref) → IsAhead (state_of sizes account) j b g → IsAhead (state_of sizes (gone_on actor account)) j b g

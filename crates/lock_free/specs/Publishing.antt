-- A fresh main node is swapped in: what the definition's step leaves, and the seat's account then.
use Rattle.std.specs.Prelude.{◌≡◌, ◌≢◌, ℕ, true, [], ◌∷◌, ◌++◌, Some, None, slice_index_or}
use Rattle.machine_model.specs.Beneath.slot_arena.specs.declared.refs.Ref.{Ref}
use Rattle.machine_model.specs.Beneath.slot_arena.specs.declared.nodes.Node.TheVariants.{Indirection}
use Rattle.machine_model.specs.Beneath.slot_arena.specs.declared.nodes.Prev.TheVariants as prev
use Rattle.machine_model.specs.Beneath.slot_arena.specs.declared.nodes.Slot.{Slot}
use Rattle.machine_model.specs.Beneath.slot_arena.specs.Refs.{birth_of, slot_of}
use Rattle.machine_model.specs.Beneath.slot_arena.specs.Heaps.{main_at}
use Rattle.machine_model.specs.declared.lines.Line.TheVariants as line
use Rattle.machine_model.specs.declared.lines.Purpose.{Purpose}
use Rattle.machine_model.specs.declared.operations.Operation.{Operation}
use Rattle.machine_model.specs.declared.steps.Step.TheVariants as step
use Rattle.machine_model.specs.Acting.{operation_after}
use Rattle.machine_model.specs.Machine.{AreBounds}
use Rattle.machine_model.specs.States.{operation_of}
use Rattle.machine_model.specs.Swapping.{swapping}
use Rattle.proof_memory.specs.Wants.{is_main_node}
use Rattle.lock_free.specs.declared.accounts.Account.{Account}
use Rattle.lock_free.specs.declared.accounts.Owned.{Owned}
use Rattle.lock_free.specs.declared.sizes.Sizes.{Sizes}
use Rattle.lock_free.specs.Accounts.{bounds_for, state_of, running}
use Rattle.lock_free.specs.Live.{IsLive}
use Rattle.lock_free.specs.Nodes.{IsAhead}
use Rattle.lock_free.specs.Trying.{SameTries}

-- the fresh main node is the indirection's own
abbrev pub owned_now : Ref → Ref → Owned
owned_now indirection fresh = record { holder = slot_of indirection; held = slot_of fresh; is_own = true }

abbrev pub swapped_in : ℕ → Ref → Ref → Account → Account
swapped_in actor indirection fresh account =
    record account { steps = account.steps ++ step.Go actor ∷ []; owned = owned_now indirection fresh ∷ account.owned }

-- the slot with this main word, or this prev word
abbrev pub with_main_of : Slot → ℕ → Ref → Slot
with_main_of slot generation fresh = record slot { node = Indirection generation fresh }

abbrev pub over : Slot → Ref → Slot
over slot replaced = record slot { prev = prev.Pending replaced }

-- the operation of this actor swaps the fresh main node in, over the one that stands there
pub record Publishes (sizes : Sizes) (account after : Account) (actor : ℕ) (operation : Operation) (i a f : Ref) : Type 0 where
  pub bounds : AreBounds (bounds_for sizes after.steps)
  pub runs : running sizes account actor operation
  pub on : (why : Purpose) × (operation.line ≡ line.Swap why (swapping i a f))
  pub generation : ℕ
  pub link : Slot
  pub link_is : slice_index_or (state_of sizes account).heap.slots (slot_of i) None ≡ Some link
  pub link_node : link.node ≡ Indirection generation a
  pub link_birth : link.birth ≡ birth_of i
  pub link_then : slice_index_or (state_of sizes after).heap.slots (slot_of i) None ≡ Some (with_main_of link generation f)
  pub fresh : Slot
  pub fresh_is : slice_index_or (state_of sizes account).heap.slots (slot_of f) None ≡ Some fresh
  pub fresh_main : is_main_node fresh.node ≡ true
  pub fresh_prev : fresh.prev ≡ prev.None
  pub fresh_then : slice_index_or (state_of sizes after).heap.slots (slot_of f) None ≡ Some (over fresh a)
  pub nodes : (k : ℕ) → k ≢ slot_of i → k ≢ slot_of f → slice_index_or (state_of sizes after).heap.slots k None ≡ slice_index_or (state_of sizes account).heap.slots k None
  pub births : (state_of sizes after).heap.births ≡ (state_of sizes account).heap.births
  pub live : (r : Ref) → IsLive (state_of sizes after) r → IsLive (state_of sizes account) r
  pub roots : (state_of sizes after).roots ≡ (state_of sizes account).roots
  pub generations : (state_of sizes after).generations ≡ (state_of sizes account).generations
  pub others : (n : ℕ) → n ≢ actor → operation_of (state_of sizes after) n ≡ operation_of (state_of sizes account) n
  pub own : operation_of (state_of sizes after) actor ≡ Some (operation_after (state_of sizes account) operation)
  pub tries : SameTries (state_of sizes account) (state_of sizes after)
  -- it was ahead with this node, nobody else with it, and nobody with another one but who was
  pub was_ahead : IsAhead (state_of sizes account) i a f
  pub alone : (j b g : Ref) → IsAhead (state_of sizes account) j b g → slot_of g ≡ slot_of f → (slot_of j ≡ slot_of i) × (b ≡ a)
  pub no_more : (j b g : Ref) → IsAhead (state_of sizes after) j b g → IsAhead (state_of sizes account) j b g × (slot_of g ≢ slot_of f)
  pub still : (j b g : Ref) → IsAhead (state_of sizes account) j b g → slot_of g ≢ slot_of f → IsAhead (state_of sizes after) j b g
  -- the fresh node stands in no other main word
  pub nowhere : (j : Ref) → slot_of j ≢ slot_of i → slot_of (main_at (state_of sizes account).heap j) ≢ slot_of f

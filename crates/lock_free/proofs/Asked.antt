-- What more is asked of the definition.
use Rattle.std.proofs.Common.{◌≡◌, ◌≢◌, ◌<◌, ◌⊎◌, ℕ, map, Bool, true, Contains, length, Option, Some, None, get_or, if◌then◌else◌}
use Rattle.machine_model.specs.Beneath.slot_arena.specs.declared.refs.Ref.{Ref}
use Rattle.machine_model.specs.Beneath.slot_arena.specs.declared.nodes.Node.{Node}
use Rattle.machine_model.specs.Beneath.slot_arena.specs.declared.nodes.Node.TheVariants.{Indirection}
use Rattle.machine_model.specs.Beneath.slot_arena.specs.declared.nodes.Slot.{Slot}
use Rattle.machine_model.specs.Beneath.slot_arena.specs.declared.nodes.Prev.TheVariants as prev
use Rattle.machine_model.specs.Beneath.slot_arena.specs.Heaps.{main_at, prev_at, refs_of_node}
use Rattle.machine_model.specs.Beneath.slot_arena.specs.Refs.{slot_of}
use Rattle.machine_model.specs.declared.actions.Action.TheVariants as act
use Rattle.machine_model.specs.declared.operations.Operation.{Operation}
use Rattle.machine_model.specs.Acting.{operation_after}
use Rattle.machine_model.specs.Machine.{AreBounds}
use Rattle.machine_model.specs.declared.reading.ReadLine.TheVariants as read
use Rattle.machine_model.specs.Operations.{action_of, read_of}
use Rattle.machine_model.specs.Reading.{is_licensed}
use Rattle.proof_memory.specs.Laws.{SameNode}
use Rattle.proof_memory.specs.Wants.{AllHold, is_main_node, is_formed}
use Rattle.proof_waiting.specs.Beneath.proof_slots.specs.Unswept.{HasNoSweeps}
use Rattle.lock_free.specs.declared.accounts.Account.{Account}
use Rattle.lock_free.specs.declared.accounts.Known.{Known}
use Rattle.lock_free.specs.declared.sizes.Sizes.{Sizes}
use Rattle.lock_free.specs.Accounts.{bounds_for, state_of, HasWaited, running, gone_on, HasStood}
use Rattle.lock_free.specs.Deciding.{Decides}
use Rattle.lock_free.specs.Live.{line_claims, IsLive}
use Rattle.lock_free.proofs.OneStep.Found as found
use Rattle.lock_free.proofs.OneStep.Decides as decides
use Rattle.lock_free.proofs.OneStep.Giving as giving
use Rattle.lock_free.proofs.OneStep.Makes as making
use Rattle.lock_free.proofs.OneStep.Met as met
use Rattle.lock_free.proofs.OneStep.Publishes as publishes
use Rattle.lock_free.proofs.OneStep.Restores as restores
pub use Rattle.lock_free.proofs.OneStep.Found.{links_of, mains_of}
use Rattle.lock_free.specs.Making.{over_of, made_at, Makes}
use Rattle.lock_free.specs.Nodes.{IsAhead}
use Rattle.lock_free.specs.Publishing.{swapped_in, Publishes}
use Rattle.lock_free.specs.Restoring.{Restores}
use Rattle.lock_free.specs.Rules.{Once}
use Rattle.lock_free.specs.Steps.{Leads, Reads}
pub use Rattle.lock_free.proofs.OneStep.Giving.{is_one_of}

module _ (sizes : Sizes) (account : Account) (bounds : AreBounds (bounds_for sizes account.steps)) where
  -- what is in use was made
  pub in_use_made : (k : ℕ) (slot : Slot) → get_or (state_of sizes account).heap.slots k None ≡ Some slot → k < (state_of sizes account).heap.births
  in_use_made = found.in_use_made sizes account bounds

  pub is_well_formed : (k : ℕ) (slot : Slot) → get_or (state_of sizes account).heap.slots k None ≡ Some slot → is_formed slot.node ≡ true
  is_well_formed = found.is_well_formed sizes account bounds

  -- what is live is in use
  pub live_in_use : (r : Ref) → IsLive (state_of sizes account) r → (slot : Slot) × (get_or (state_of sizes account).heap.slots (slot_of r) None ≡ Some slot)
  live_in_use = found.live_in_use sizes account bounds

  -- live references to one slot are one
  pub slots_tell : (q r : Ref) → IsLive (state_of sizes account) q → IsLive (state_of sizes account) r → slot_of q ≡ slot_of r → q ≡ r
  slots_tell = found.slots_tell sizes account bounds

  module _ (actor : ℕ) (operation : Operation) (runs : running sizes account actor operation) where
    -- what its line names is live, and what it is taken for
    pub line_stands : AllHold (IsLive (state_of sizes account)) (state_of sizes account).heap (line_claims (state_of sizes account) operation)
    line_stands = found.line_stands sizes account bounds actor operation runs

    -- what an action names is live, and what it is taken for
    pub link_stands : (i : Ref) → Contains (links_of (action_of (state_of sizes account) operation)) i →
        IsLive (state_of sizes account) i × ((slot : Slot) × (generation : ℕ) × (main : Ref) × (get_or (state_of sizes account).heap.slots (slot_of i) None ≡ Some slot)
        × (slot.node ≡ Indirection generation main))
    link_stands = found.link_stands sizes account bounds actor operation runs

    pub main_stands : (m : Ref) → Contains (mains_of (action_of (state_of sizes account) operation)) m →
        IsLive (state_of sizes account) m × ((slot : Slot) × (get_or (state_of sizes account).heap.slots (slot_of m) None ≡ Some slot) × (is_main_node slot.node ≡ true))
    main_stands = found.main_stands sizes account bounds actor operation runs

    -- deciding a main node that is pending still, which stands in the indirection, or one that was decided since
    pub decides_or_not : (i main replaced : Ref) (told : Option ℕ) → action_of (state_of sizes account) operation ≡ act.Decide i main replaced told →
        ((d : Decides sizes account actor operation main replaced) × (d.verdict ≡ (if is_licensed (state_of sizes account).heap i told then prev.None else prev.Failed replaced))
        × (main_at (state_of sizes account).heap i ≡ main))
        ⊎ (Reads sizes account actor operation × ((p : Ref) → prev_at (state_of sizes account).heap main ≡ prev.Pending p → ⊥) × ((j a f : Ref) → IsAhead (state_of sizes account) j a f →
        slot_of f ≢ slot_of main))
    decides_or_not = decides.decides_or_not sizes account bounds actor operation runs

    -- putting a main node back in the place of one that stands there still, or doesn't
    pub restores_or_not : (i main former : Ref) → action_of (state_of sizes account) operation ≡ act.Restore i main former →
        (Restores sizes account actor operation i main former × (main_at (state_of sizes account).heap i ≡ main)) ⊎ (Reads sizes account actor operation
        × (main_at (state_of sizes account).heap i ≢ main))
    restores_or_not = restores.restores_or_not sizes account bounds actor operation runs

    -- swapping a fresh main node in over one that stands there still, or doesn't
    pub publishes_or_not : HasNoSweeps account.steps → (i replaced made : Ref) → action_of (state_of sizes account) operation ≡ act.Publish i replaced made →
        (Publishes sizes account (swapped_in actor i made account) actor operation i replaced made × (main_at (state_of sizes account).heap i ≡ replaced))
        ⊎ (Leads sizes account (gone_on actor account) actor (is_one_of operation.private) (operation_after (state_of sizes account) operation) × (main_at (state_of sizes account).heap i ≢ replaced))
    publishes_or_not = publishes.publishes_or_not sizes account bounds actor operation runs

    -- making a node, wherever it is written
    pub makes_of : HasNoSweeps account.steps → ((x : Known) → Contains account.offers x → HasStood sizes account x.offer) → (node : Node) →
        action_of (state_of sizes account) operation ≡ act.Make node → length account.names ≡ (state_of sizes account).heap.births → (name : ℕ) (own : Bool) →
        Makes sizes account (made_at actor name own node account) actor operation node 0
    makes_of quiet stood node is counted name own = making.node_makes sizes account bounds actor operation runs quiet counted stood name own node is

    -- what the node names is live, and so is the main node over which it is to be swapped in
    pub made_names_live : (node : Node) → action_of (state_of sizes account) operation ≡ act.Make node → (r : Ref) → Contains (refs_of_node node) r → IsLive (state_of sizes account) r
    made_names_live = making.made_names_live sizes account bounds actor operation runs

    pub over_lives : (i main : Ref) → over_of operation.line ≡ Some (i, main) → IsLive (state_of sizes account) main
    over_lives = making.over_lives sizes account bounds actor operation runs

    -- what it reads isn't about to be swapped in
    pub read_is_met : (main : Ref) → action_of (state_of sizes account) operation ≡ act.ReadPrev main → (j a f : Ref) → IsAhead (state_of sizes account) j a f → slot_of f ≢ slot_of main
    read_is_met = met.read_is_met sizes account bounds actor operation runs

    -- no two nodes of its own have one slot
    pub private_apart : Once (map slot_of operation.private)
    private_apart = giving.private_apart sizes account bounds actor operation runs

    pub looked_at_lives : (r : Ref) → action_of (state_of sizes account) operation ≡ act.Look r → IsLive (state_of sizes account) r
    looked_at_lives = found.looked_at_lives sizes account bounds actor operation runs

-- while others take steps a node stays, but for its main word
pub nodes_stay : (sizes : Sizes) (actor : ℕ) (before after : Account) → HasWaited actor before after → AreBounds (bounds_for sizes after.steps) → (k : ℕ) (slot : Slot) →
    get_or (state_of sizes before).heap.slots k None ≡ Some slot →
    (later : Slot) × (get_or (state_of sizes after).heap.slots k None ≡ Some later) × SameNode slot.node later.node
nodes_stay = found.nodes_stay

-- a failed main node that stands there no more doesn't come back
pub gone_stays : (sizes : Sizes) (actor : ℕ) (before after : Account) → HasWaited actor before after → AreBounds (bounds_for sizes after.steps) → (operation : Operation) →
    running sizes before actor operation →
    (i main former : Ref) → action_of (state_of sizes before) operation ≡ act.Restore i main former → main_at (state_of sizes before).heap i ≢ main → main_at (state_of sizes after).heap i ≢ main
gone_stays = found.gone_stays

-- so does its own step: nothing is freed
pub nodes_go : (sizes : Sizes) (actor : ℕ) (account : Account) → AreBounds (bounds_for sizes (gone_on actor account).steps) → (k : ℕ) (slot : Slot) →
    get_or (state_of sizes account).heap.slots k None ≡ Some slot →
    (later : Slot) × (get_or (state_of sizes (gone_on actor account)).heap.slots k None ≡ Some later) × SameNode slot.node later.node
nodes_go = found.nodes_go

-- a pending main node that is read stands in the indirection
pub pending_stands : (sizes : Sizes) (account : Account) → AreBounds (bounds_for sizes account.steps) → (actor : ℕ) (operation : Operation) → running sizes account actor operation →
    (i main replaced : Ref) →
    read_of operation.line ≡ Some (record { indirection = i; line = read.Prev main }) → prev_at (state_of sizes account).heap main ≡ prev.Pending replaced →
    main_at (state_of sizes account).heap i ≡ main
pending_stands = found.pending_stands

-- What stands in root words, and stood.
use Rattle.std.proofs.Common.{◌≡◌, ◌++◌, List, Contains, Some, None, get_or, sym, ◌∙◌, append_assoc, ap}
use Rattle.std.proofs.lemmas.List.Elements.{All-contains, Contains-append_left}
use Rattle.history.specs.declared.calls.Access.{Access}
use Rattle.machine_model.specs.Beneath.slot_arena.specs.declared.refs.Ref.{Ref}
use Rattle.machine_model.specs.Beneath.slot_arena.specs.declared.nodes.Node.TheVariants.{Indirection}
use Rattle.machine_model.specs.Beneath.slot_arena.specs.declared.nodes.Slot.{Slot}
use Rattle.machine_model.specs.Beneath.slot_arena.specs.Heaps.{node_at, refs_of_node, refs_of_prev, refs_of_slot}
use Rattle.machine_model.specs.Beneath.slot_arena.specs.Refs.{slot_of}
use Rattle.machine_model.specs.declared.roots.RootWord.TheVariants.{Plain}
use Rattle.machine_model.specs.declared.steps.Step.{Step}
use Rattle.machine_model.specs.Machine.{AreBounds}
use Rattle.machine_model.specs.States.{State, root_at}
use Rattle.machine_model.proofs.Grown.{node_standing}
use Rattle.proof_memory.specs.Laws.{IsInUse}
use Rattle.proof_memory.proofs.Claims.Uses.{safe_of, meets_of}
use Rattle.proof_memory.proofs.Safety.AtEachTime.{safe_along}
use Rattle.proof_memory.proofs.Safety.Standing.{slot_refs}
use Rattle.proof_memory.proofs.Safety.States.{IsSafe}
use Rattle.lock_free.specs.declared.accounts.Account.{Account}
use Rattle.lock_free.specs.declared.sizes.Sizes.{Sizes}
use Rattle.lock_free.specs.Accounts.{bounds_for, state_of, WasRoot}
use Rattle.lock_free.specs.Roots.{open_with}
use Rattle.lock_free.proofs.OneStep.Found.{link_of, slot_at}

module _ (sizes : Sizes) (account : Account) (bounds : AreBounds (bounds_for sizes account.steps)) where
  abbrev state : State
  state = state_of sizes account

  safe : IsSafe state
  safe = safe_along (bounds_for sizes account.steps) bounds account.steps

  -- the root of a handle is an indirection
  pub root_is_link : (handle : _) (access : Access) (q : Ref) → root_at state handle ≡ open_with access (Plain q) →
      (slot : Slot) × (generation : _) × (main : Ref) × (get_or state.heap.slots (slot_of q) None ≡ Some slot) × (slot.node ≡ Indirection generation main)
  root_is_link handle access q is =
      let claims = safe.words handle (record { access = access; word = Plain q }) is in
      let (slot, stands) = safe_of claims.0 in
      let (generation, main, node) = link_of (node_at state.heap q) (meets_of claims.0) in
      (slot, generation, main, slot_at state.heap q slot stands, sym (node_standing state.heap q slot stands) ∙ node)

  -- what a node that is in use names is in use
  pub names_used : (r : Ref) (used : IsInUse state.heap r) (q : Ref) → Contains (refs_of_node used.0.node) q → (slot : Slot) × (get_or state.heap.slots (slot_of q) None ≡ Some slot)
  names_used r used q c =
      let all = slot_refs state safe r used.0 used.1 in
      let named = All-contains (IsInUse state.heap) (refs_of_slot (Some used.0)) q all (Contains-append_left (refs_of_node used.0.node) (refs_of_prev used.0.prev) q c) in
      (named.0, slot_at state.heap q named.0 named.1)

-- what was a root once was one with more steps still
pub reached_still : (sizes : Sizes) (account later : Account) (more : List Step) → later.steps ≡ account.steps ++ more → (r : Ref) → WasRoot sizes account r → WasRoot sizes later r
reached_still sizes account later more goes_on r h =
    record { steps = h.steps; more = h.more ++ more; goes_on = goes_on ∙ ap (λ xs. xs ++ more) h.goes_on ∙ append_assoc h.steps h.more more; handle = h.handle; access = h.access; was = h.was }

-- What a call that runs alone changes of a state at rest, one step after the other.
use Rattle.std.specs.Prelude.{ℕ, ◌+◌, List, [], ◌∷◌, ◌++◌, unwrap_or}
use Rattle.proof_straight.specs.Vocabulary.{Ref, Node, Heap, taken, with_prev, next_ref, no_ref, Zeroed, limbo_after, State, outside, published}
use Rattle.proof_straight.specs.Beneath.slot_arena.specs.declared.nodes.Prev.TheVariants as prev

pub record Draft : Type 0 where
  pub heap : Heap
  pub limbo : List Zeroed
  -- the slots that the call has made and not yet swapped in
  pub private : List Ref
  -- the one that it made last
  pub newest : Ref

-- before the call's first step
abbrev pub first_draft : State → Draft
first_draft state = record { heap = state.heap; limbo = state.limbo; private = []; newest = no_ref }

-- what is held from outside the slots while the call has these of its own
abbrev pub held_with : State → List Ref → List Ref
held_with state private = outside state ++ private

-- after a step that leaves this heap, and these slots to the call: limbo is brought up to date
abbrev pub redrafted : State → Draft → Heap → List Ref → Ref → Draft
redrafted state draft heap private newest = record {
  heap = heap;
  limbo = limbo_after heap (held_with state private) state.epoch draft.limbo;
  private = private;
  newest = newest;
}

-- the reference that the next slot to be taken will have
abbrev pub next_made : Heap → Ref
next_made heap = unwrap_or (next_ref heap) no_ref

-- the call makes a node
abbrev pub with_made : State → Draft → Node → Draft
with_made state draft node = redrafted state draft (taken draft.heap node) (draft.private ++ next_made draft.heap ∷ []) (next_made draft.heap)

-- it puts the newest node in the place of this main node of the indirection, pending over it
abbrev pub with_published : State → Draft → Ref → Ref → Draft
with_published state draft indirection main = redrafted state draft (published draft.heap indirection main draft.newest) [] draft.newest

-- it commits the newest node
abbrev pub with_commit : State → Draft → Draft
with_commit state draft = redrafted state draft (with_prev draft.heap draft.newest prev.None) [] draft.newest

abbrev pub swapped_in : State → Draft → Ref → Ref → Draft
swapped_in state draft indirection main = with_commit state (with_published state draft indirection main)

-- the state at rest behind the call, which took so many steps from its begin to its end
abbrev pub after_call : State → Draft → ℕ → State
after_call state draft n = record state { heap = draft.heap; limbo = draft.limbo; begun = state.begun + 1; steps = state.steps + n }

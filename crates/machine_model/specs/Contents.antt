-- What a handle's map holds, and which references an operation has and the handles reach.
use Rattle.std.specs.Prelude.{ℕ, zero, suc, ◌==◌, ◌&&◌, List, [], ◌∷◌, ◌++◌, flat_map, Contains, Option, Some, None, if◌then◌else◌}
use Rattle.machine_model.specs.Beneath.slot_arena.specs.declared.refs.Ref.{Ref}
use Rattle.machine_model.specs.Beneath.slot_arena.specs.declared.nodes.Node.{Node}
use Rattle.machine_model.specs.Beneath.slot_arena.specs.declared.nodes.Node.TheVariants.{Indirection, Single}
use Rattle.machine_model.specs.declared.operations.Operation.{Operation}
use Rattle.machine_model.specs.declared.actions.Action.{Action}
use Rattle.machine_model.specs.declared.actions.Action.TheVariants as act
use Rattle.machine_model.specs.declared.steps.Bounds.{Bounds}
use Rattle.machine_model.specs.declared.steps.Step.{Step}
use Rattle.machine_model.specs.declared.steps.Step.TheVariants as step
use Rattle.machine_model.specs.Beneath.slot_arena.specs.Heaps.{Heap, stored, node_at, main_at, prev_at, entries_of, logical_main, refs_of_node, refs_of_prev, refs_of_slot, next_ref, refs_of_option}
use Rattle.machine_model.specs.Calls.{handle_of}
use Rattle.machine_model.specs.States.{State, first_state, root_at, word_at, root_of, operation_of}
use Rattle.machine_model.specs.Operations.{action_of}
use Rattle.machine_model.specs.Counting.{refs_of_word, refs_of_root}
use Rattle.machine_model.specs.Pairs.{by_key}
use Rattle.machine_model.specs.Machine.{next, next_state, is_taken_step}

-- ---- content

abbrev pub pairs_at : (Ref → List (ℕ × ℕ)) → Heap → Ref → Node → List (ℕ × ℕ)
pairs_at below heap r (Single key value) = (key, value) ∷ []
pairs_at below heap r (Indirection generation main) = flat_map below (entries_of (node_at heap (logical_main heap r)))
pairs_at below heap r node = []

-- the pairs of the singles that are reached from an indirection or a single, through the logical main nodes, within so
-- many levels
unfoldable pub pairs_below : ℕ → Heap → Ref → List (ℕ × ℕ)
pairs_below zero heap r = []
pairs_below (suc levels) heap r = pairs_at (pairs_below levels heap) heap r (node_at heap r)

-- a root, 13 levels of indirections below it, and the singles; the laws say that nothing lies deeper
abbrev pub most_levels : ℕ
most_levels = 15

-- the content of a handle's map: all pairs that are reached, by rising key; the laws say that no key stands twice
abbrev pub content_at : State → ℕ → List (ℕ × ℕ)
content_at state handle = by_key (pairs_below most_levels state.heap (root_of (word_at state handle)))

-- ---- what an operation holds

-- The references that a step gets: those that it reads in a root, main or prev word, finds in a node that it looks at, or
-- makes.
abbrev pub got_by : State → ℕ → Action → List Ref
got_by state handle act.ReadRoot = refs_of_word (word_at state handle)
got_by state handle (act.ReadMain indirection) = main_at state.heap indirection ∷ []
got_by state handle (act.ReadPrev main) = refs_of_prev (prev_at state.heap main)
got_by state handle (act.Look at) = refs_of_node (node_at state.heap at)
got_by state handle (act.Make node) = refs_of_option (next_ref state.heap)
got_by state handle (act.MakeRoot main) = refs_of_option (next_ref state.heap)
got_by state handle action = []

abbrev pub got_in : State → Option Operation → List Ref
got_in state None = []
got_in state (Some operation) = got_by state (handle_of operation.call) (action_of state operation)

abbrev pub while_running : Option Operation → List Ref → List Ref
while_running None refs = []
while_running (Some operation) refs = refs

-- what a step of the machine gives this actor's operation; a denied one gives nothing
abbrev pub got_of : State → ℕ → Step → List Ref
got_of state actor (step.Go other) = if other == actor && is_taken_step (next state (step.Go other)) then got_in state (operation_of state actor) else []
got_of state actor other = []

-- the references that the actor's running operation has got since its begin, after these steps; held has those before
unfoldable pub held_from : State → ℕ → List Ref → List Step → List Ref
held_from state actor held [] = held
held_from state actor held (s ∷ steps) =
    held_from (next_state state s) actor (while_running (operation_of (next_state state s) actor) (held ++ got_of state actor s)) steps

abbrev pub held : Bounds → List Step → ℕ → List Ref
held limits steps actor = held_from (first_state limits) actor [] steps

-- ---- what the handles reach

-- a reference that stands in a root word, or in a slot that is reached
pub data IsReached (state : State) : Ref → Type 0 where
  from_root : (handle : ℕ) (r : Ref) → Contains (refs_of_root (root_at state handle)) r → IsReached state r
  from_slot : (q r : Ref) → IsReached state q → Contains (refs_of_slot (stored state.heap q)) r → IsReached state r

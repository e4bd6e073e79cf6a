-- Wrong machines: each takes the true machine's step, and then makes one mistake.
use Rattle.std.specs.Prelude.{ℕ, ◌==◌, List, [], ◌∷◌, map, Option, Some, None, if◌then◌else◌}
use Rattle.proof_counterexamples.specs.Vocabulary.{position_of, Ref, Node, Place, Operation, SwapLine, Descriptor, Complete, CompleteLine, Line, Bounds, Step, Heap, node_at, generation_at}
use Rattle.proof_counterexamples.specs.Vocabulary.{bitmap_of, written, next_ref, removed, handle_of, State, first_state, operation_of, word_at, flag_in, changed, root_after, given_root, Record}
use Rattle.proof_counterexamples.specs.Vocabulary.{first_record, next_record, place_of, entrant_of, next_state}
use Rattle.proof_counterexamples.specs.Beneath.history.specs.declared.replies.Reply.TheVariants as reply
use Rattle.machine_model.specs.declared.building.BuildLine.TheVariants as build
use Rattle.machine_model.specs.declared.reading.ReadLine.TheVariants as read
use Rattle.machine_model.specs.declared.reading.SwapLine.TheVariants as swap
use Rattle.machine_model.specs.declared.roots.CompleteLine.TheVariants as complete
use Rattle.machine_model.specs.declared.roots.RootLine.TheVariants as root
use Rattle.machine_model.specs.declared.repairs.CleanLine.TheVariants as clean
use Rattle.machine_model.specs.declared.repairs.ClimbLine.TheVariants as climb
use Rattle.machine_model.specs.declared.copying.CopyLine.TheVariants as copy
use Rattle.machine_model.specs.declared.lines.Line.TheVariants as line
use Rattle.machine_model.specs.declared.steps.Step.TheVariants as step

-- a machine: what a step makes of a state, and what is recorded of it
pub record Machine : Type 0 where
  pub step : State → Step → State
  pub note : State → Record → Step → Record

-- one that takes these steps, and records as the true one does
abbrev pub stepping : (State → Step → State) → Machine
stepping step = record { step = step; note = next_record }

-- what is recorded after these steps of the machine
unfoldable pub machine_from : Machine → State → Record → List Step → Record
machine_from machine state past [] = past
machine_from machine state past (s ∷ steps) = machine_from machine (machine.step state s) (machine.note state past s) steps

-- the record of the machine's run on these steps
abbrev pub record_by : Machine → Bounds → List Step → Record
record_by machine limits steps = machine_from machine (first_state limits) (first_record limits) steps

abbrev pub with_line : (Line → Line) → Option Operation → Option Operation
with_line change None = None
with_line change (Some operation) = Some (record operation { line = change operation.line })

-- the state in which each operation that runs stands on another line
abbrev pub with_lines : (Line → Line) → State → State
with_lines change state = record state { actors = map (with_line change) state.actors }

-- the slot, if one is named, has this node
abbrev pub with_node : Node → Heap → Option Ref → Heap
with_node node heap None = heap
with_node node heap (Some r) = written (λ slot. record slot { node = node }) heap r

-- the operation whose step it is
abbrev pub operation_in : State → Step → Option Operation
operation_in state (step.Go actor) = operation_of state actor
operation_in state s = None

-- what is made of something after a step of this operation, if it is one
abbrev pub after_step_of : {X : Type 0} → (Operation → X → X) → Option Operation → X → X
after_step_of change None after = after
after_step_of change (Some operation) after = change operation after

-- of the state before it and the state after it
abbrev pub after_steps : (State → Operation → State → State) → Machine
after_steps change = stepping (λ state s. after_step_of (change state) (operation_in state s) (next_state state s))

-- ---- a late removal is placed by the root that its climb read

-- the operation's place by this generation; other places stay
abbrev pub placed_by : Record → Operation → Option ℕ → Place → Place
placed_by past operation generation place =
    if place.id == operation.id then place_of past (record (entrant_of operation) { generation = generation }) place.moment place.changed_nothing else place

abbrev pub placed_again : State → Record → Operation → Line → Record → Record
placed_again state past operation (line.Climb (climb.Root c l)) now =
    let given = root_after state.heap operation.access (word_at state (handle_of operation.call)) l in
    record now { places = map (placed_by past operation (given_root state given operation.generation)) now.places }
placed_again state past operation other now = now

abbrev pub by_the_new_root : Machine
by_the_new_root = record {
  step = next_state;
  note = λ state past s. after_step_of (λ operation now. placed_again state past operation operation.line now) (operation_in state s) (next_record state past s);
}

-- ---- a node is committed without asking the root

-- where the root is to be asked for its generation, the indirection's own is taken for it
abbrev pub unasked : Heap → Ref → SwapLine → SwapLine
unasked heap indirection (swap.Deciding (read.AskRoot main previous)) = swap.Deciding (read.Decide main previous (Some (generation_at heap indirection)))
unasked heap indirection other = other

abbrev pub unasked_line : Heap → Line → Line
unasked_line heap (line.Swap why s) = line.Swap why (record s { line = unasked heap s.indirection s.line })
unasked_line heap other = other

abbrev pub without_the_root : Machine
without_the_root = stepping (λ state s. let after = next_state state s in with_lines (unasked_line after.heap) after)

-- ---- the root is swapped whatever main node it has

-- the main node that was read is taken for the expected one
abbrev pub taken_as_expected : Descriptor → CompleteLine → Complete
taken_as_expected offer (complete.Swap main) = record { offer = record offer { expected = main }; line = complete.Swap main }
taken_as_expected offer other = record { offer = offer; line = other }

abbrev pub uncompared_line : Line → Line
uncompared_line (line.Root (root.Completing c)) = line.Root (root.Completing (taken_as_expected c.offer c.line))
uncompared_line (line.Climb (climb.Root d (root.Completing c))) = line.Climb (climb.Root d (root.Completing (taken_as_expected c.offer c.line)))
uncompared_line (line.Copy (copy.Complete c)) = line.Copy (copy.Complete (taken_as_expected c.offer c.line))
uncompared_line other = other

abbrev pub without_comparing : Machine
without_comparing = stepping (λ state s. with_lines uncompared_line (next_state state s))

-- ---- cleaning drops the tomb's single

-- a cleaned branch lacks the entry that the tomb's single was to take
abbrev pub dropped : State → Operation → Line → State → State
dropped state operation (line.Clean (clean.Contracted path main done)) after =
    let flag = flag_in state operation path in
    let bitmap = bitmap_of (node_at state.heap main) in
    record after { heap = with_node (removed flag bitmap done (position_of flag bitmap)) after.heap (next_ref state.heap) }
dropped state operation other after = after

abbrev pub without_the_single : Machine
without_the_single = after_steps (λ state operation after. dropped state operation operation.line after)

-- ---- a change that finds no slot for its main node, and is refused, is made in the old one

abbrev pub changed_in_place : State → Operation → Line → Option Ref → State → State
changed_in_place state operation (line.Build (build.Main path main c former)) None after =
    record after { heap = with_node (changed (flag_in state operation path) (node_at state.heap main) c) after.heap (Some main) }
changed_in_place state operation other made after = after

abbrev pub with_refused_changes : Machine
with_refused_changes = after_steps (λ state operation after. changed_in_place state operation operation.line (next_ref state.heap) after)

-- ---- a removal whose climb finds no slot is refused

abbrev pub refused_now : ℕ → Option Operation → Option Operation
refused_now id None = None
refused_now id (Some operation) = Some (if operation.id == id then record operation { line = line.End reply.NoSlots } else operation)

abbrev pub refused_climb : Operation → Line → Option Ref → State → State
refused_climb operation (line.Climb (climb.Contracted c main)) None after = record after { actors = map (refused_now operation.id) after.actors }
refused_climb operation other made after = after

abbrev pub with_refused_climbs : Machine
with_refused_climbs = after_steps (λ state operation after. refused_climb operation operation.line (next_ref state.heap) after)

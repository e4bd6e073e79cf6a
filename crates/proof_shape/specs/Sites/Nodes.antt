-- The site of each node of a run: its level and the part of a hash that leads to it, both given in the step that makes it and fixed for life.
use Rattle.std.specs.Prelude.{ℕ, zero, suc, ◌-◌, ◌*◌, ◌%◌, ◌^◌, List, slice_index_or, Option, Some, None, if◌then◌else◌}
use Rattle.proof_shape.specs.Vocabulary.{Ref, Operation, Line, Step, hash_in, State, operation_of, Bounds, is_number, taken_steps, states_of, last_of, next_entry, node_under, made_now, level_now}
use Rattle.proof_shape.specs.Beneath.machine_model.specs.declared.repairs.RenewLine.TheVariants as renew
use Rattle.proof_shape.specs.Beneath.machine_model.specs.declared.lines.Line.TheVariants as line
use Rattle.proof_shape.specs.Beneath.machine_model.specs.declared.steps.Step.TheVariants as step
use Rattle.proof_shape.specs.Beneath.proof_memory.specs.Wants.{is_indirection}

-- a node of this level stands so many levels below the root
abbrev pub depth_at : ℕ → ℕ
depth_at level = level - 1

-- the lowest bits of a hash, five for each level above
abbrev pub path_to : ℕ → ℕ → ℕ
path_to hash depth = hash % 2 ^ (5 * depth)

-- where the node leads that a line makes, by the paths of older nodes: a renewed link leads where the entry does that it replaces, any other
-- node on the way to the operation's key
abbrev pub leads_by : State → Operation → (Ref → ℕ) → Line → ℕ
leads_by state operation before (line.Renew (renew.Link path main done child)) = before (next_entry state main done)
leads_by state operation before l = hash_in state operation

abbrev pub leads_of : State → (Ref → ℕ) → Option Operation → ℕ
leads_of state before None = 0
leads_of state before (Some operation) = leads_by state operation before operation.line

abbrev pub leads_now : State → (Ref → ℕ) → Step → ℕ
leads_now state before (step.Go actor) = leads_of state before (operation_of state actor)
leads_now state before s = 0

-- the level of each node that is made before step t; what the first state has, has a root's
unfoldable pub level_until : (ℕ → State) → (ℕ → Step) → ℕ → Ref → ℕ
level_until states steps zero r = 1
level_until states steps (suc t) r = if is_number r (made_now (states t) (steps t)) then level_now (states t) (steps t) else level_until states steps t r

-- the part of a hash that leads to it
unfoldable pub path_until : (ℕ → State) → (ℕ → Step) → ℕ → Ref → ℕ
path_until states steps zero r = 0
path_until states steps (suc t) r =
    if is_number r (made_now (states t) (steps t)) then path_to (leads_now (states t) (path_until states steps t) (steps t)) (depth_at (level_now (states t) (steps t)))
    else path_until states steps t r

-- ---- of the indirections of a run of so many steps; of anything else, 0

abbrev pub depth_of_run : (ℕ → State) → (ℕ → Step) → ℕ → Ref → ℕ
depth_of_run states steps last r = if is_indirection (node_under states last r) then depth_at (level_until states steps last r) else 0

abbrev pub path_of_run : (ℕ → State) → (ℕ → Step) → ℕ → Ref → ℕ
path_of_run states steps last r = if is_indirection (node_under states last r) then path_until states steps last r else 0

-- ---- of a list of steps

-- the step at each time of those that are taken
abbrev pub steps_of : Bounds → List Step → ℕ → Step
steps_of limits steps t = slice_index_or (taken_steps limits steps) t step.Sweep

-- the level of a reference and the part of a hash that leads to it, after these steps
abbrev pub level_of : Bounds → List Step → Ref → ℕ
level_of limits steps = level_until (states_of limits steps) (steps_of limits steps) (last_of limits steps)

abbrev pub path_of : Bounds → List Step → Ref → ℕ
path_of limits steps = path_until (states_of limits steps) (steps_of limits steps) (last_of limits steps)

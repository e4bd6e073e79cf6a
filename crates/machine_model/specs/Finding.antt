-- KEY: a call on one key goes down from the root along the key's hash, until it finds the key, or the place where it
-- isn't.
use Rattle.std.specs.Prelude.{ℕ, ◌+◌, ◌-◌, ◌==◌, ◌&&◌, Bool, true, nat_lt, nat_le, List, [], ◌∷◌, ◌++◌, length, Some, None, if◌then◌else◌}
use Rattle.machine_model.specs.Beneath.ctrie_base.specs.Paths.{position_of}
use Rattle.history.specs.declared.calls.Access.{Access}
use Rattle.history.specs.declared.calls.Access.TheVariants.{Writable, ReadOnly}
use Rattle.history.specs.declared.replies.Reply.TheVariants as reply
use Rattle.machine_model.specs.Beneath.slot_arena.specs.declared.refs.Ref.{Ref}
use Rattle.machine_model.specs.Beneath.slot_arena.specs.declared.nodes.Node.{Node}
use Rattle.machine_model.specs.Beneath.slot_arena.specs.declared.nodes.Node.TheVariants.{Indirection, Branch, Single, Tomb, List as Listed}
use Rattle.machine_model.specs.declared.operations.Operation.{Operation}
use Rattle.machine_model.specs.declared.reading.After.{After}
use Rattle.machine_model.specs.declared.reading.After.TheVariants.{Goes, Gives}
use Rattle.machine_model.specs.declared.reading.Read.{Read}
use Rattle.machine_model.specs.declared.building.Site.TheVariants as site
use Rattle.machine_model.specs.declared.building.Change.TheVariants as change
use Rattle.machine_model.specs.declared.building.BuildLine.TheVariants as build
use Rattle.machine_model.specs.declared.finding.KeyLine.{KeyLine}
use Rattle.machine_model.specs.declared.finding.KeyLine.TheVariants as key
use Rattle.machine_model.specs.declared.repairs.CleanLine.TheVariants as clean
use Rattle.machine_model.specs.declared.lines.Line.{Line}
use Rattle.machine_model.specs.declared.lines.Line.TheVariants as line
use Rattle.machine_model.specs.declared.actions.Action.{Action}
use Rattle.machine_model.specs.declared.actions.Action.TheVariants as act
use Rattle.machine_model.specs.Beneath.slot_arena.specs.Heaps.{node_at, entry_at, entries_of}
use Rattle.machine_model.specs.declared.finding.WhenFound.{WhenFound}
use Rattle.machine_model.specs.declared.finding.WhenFound.TheVariants.{Answers, Sets, Removes}
use Rattle.machine_model.specs.Calls.{when_found, inserts, absent_reply, key_of}
use Rattle.machine_model.specs.States.{State}
use Rattle.nodes.specs.Levels.{has_flag}
use Rattle.machine_model.specs.Paths.{current, above, is_below_root, flag_in, is_start}
use Rattle.machine_model.specs.Lines.{impossible}
use Rattle.machine_model.specs.Reading.{read_action, read_step, reading}
use Rattle.machine_model.specs.Renewing.{renew_next}

-- what its step does
abbrev pub key_action : State → KeyLine → Action
key_action state (key.Read path read) = read_action read.indirection read.line
key_action state (key.Main path main) = act.Look main
key_action state (key.Entry path main position) = act.Look (entry_at state.heap main position)
key_action state (key.Listed path main position) = act.Look (entry_at state.heap main position)
key_action state (key.Sibling path main position former) = act.Look (entry_at state.heap main (1 - position))

-- reads the indirection below the current one
abbrev pub going_down : List Ref → Ref → Line
going_down path below = line.Key (key.Read (path ++ below ∷ []) (reading below))

-- ---- where the key is absent

-- the call inserts it there, or answers
abbrev pub absent : Operation → List Ref → Ref → Line
absent operation path main =
    if inserts operation.call then line.Build (build.Single path main site.Absent None) else line.End (absent_reply operation.call)

-- the same where the single of another key stands in its place
abbrev pub absent_beside : Operation → List Ref → Ref → ℕ → Line
absent_beside operation path main position =
    if inserts operation.call then line.Build (build.Single path main (site.Beside position) None) else line.End (absent_reply operation.call)

-- the same at the end of a list of so many singles: 32 are the most
abbrev pub absent_listed : Operation → List Ref → Ref → ℕ → Line
absent_listed operation path main singles =
    if inserts operation.call && nat_le 32 singles then line.End reply.Crowded else absent operation path main

-- ---- where the key is found

-- takes the key out of a branch: where just another single is left below the root a tomb of it is made
abbrev pub removing : State → List Ref → Ref → ℕ → ℕ → Node → Line
removing state path main position value (Branch bitmap entries) =
    if is_below_root path && (length entries.items == 2) then line.Key (key.Sibling path main position value)
    else line.Build (build.Main path main (change.Remove position) (Some value))
removing state path main position value (Listed singles) =
    if length singles.items == 2 then line.Build (build.Main path main (change.Entomb (entry_at state.heap main (1 - position))) (Some value))
    else line.Build (build.Main path main (change.Remove position) (Some value))
removing state path main position value node = impossible

abbrev pub found_so : State → List Ref → Ref → ℕ → ℕ → WhenFound → Line
found_so state path main position value (Answers answer) = line.End answer
found_so state path main position value Sets = line.Build (build.Single path main (site.At position) (Some value))
found_so state path main position value Removes = removing state path main position value (node_at state.heap main)

-- the key stands at this position of the main node, with this value
abbrev pub found : State → Operation → List Ref → Ref → ℕ → ℕ → Line
found state operation path main position value = found_so state path main position value (when_found operation.call value)

-- ---- what comes after each line; what it looks at stands last

abbrev pub key_after_read : List Ref → After Read Ref → Line
key_after_read path (Goes read) = line.Key (key.Read path read)
key_after_read path (Gives main) = line.Key (key.Main path main)

-- a tomb, which never stands at a root: a writable operation cleans the parent first, a read-only one looks at its single
abbrev pub after_tomb : Access → List Ref → Ref → Line
after_tomb Writable path main = if is_below_root path then line.Clean (clean.Read (above path) (reading (current (above path)))) else impossible
after_tomb ReadOnly path main = line.Key (key.Listed path main 0)

abbrev pub key_after_main : State → Operation → List Ref → Ref → Node → Line
key_after_main state operation path main (Branch bitmap entries) =
    let flag = flag_in state operation path in
    if has_flag bitmap flag then line.Key (key.Entry path main (position_of flag bitmap)) else absent operation path main
key_after_main state operation path main (Tomb single) = after_tomb operation.access path main
key_after_main state operation path main (Listed singles) = line.Key (key.Listed path main 0)
key_after_main state operation path main (Indirection generation word) = impossible
key_after_main state operation path main (Single k v) = impossible

abbrev pub passes : Access → Bool → Bool
passes ReadOnly same = true
passes Writable same = same

-- a writable operation goes through indirections of its root's generation alone
abbrev pub is_passable : Operation → ℕ → Bool
is_passable operation generation = passes operation.access (is_start operation generation)

abbrev pub key_after_entry : State → Operation → List Ref → Ref → ℕ → Node → Line
key_after_entry state operation path main position (Indirection generation word) =
    if is_passable operation generation then going_down path (entry_at state.heap main position) else renew_next state path main []
key_after_entry state operation path main position (Single k v) =
    if k == key_of operation.call then found state operation path main position v else absent_beside operation path main position
key_after_entry state operation path main position node = impossible

abbrev pub after_listed : State → Operation → List Ref → Ref → ℕ → Node → Line
after_listed state operation path main position (Single k v) =
    let singles = length (entries_of (node_at state.heap main)) in
    if k == key_of operation.call then found state operation path main position v
    else (if nat_lt (position + 1) singles then line.Key (key.Listed path main (position + 1)) else absent_listed operation path main singles)
after_listed state operation path main position node = impossible

abbrev pub after_sibling : List Ref → Ref → ℕ → ℕ → Ref → Node → Line
after_sibling path main position former other (Single k v) = line.Build (build.Main path main (change.Entomb other) (Some former))
after_sibling path main position former other (Indirection generation word) = line.Build (build.Main path main (change.Remove position) (Some former))
after_sibling path main position former other node = impossible

-- what comes after a step of KEY
abbrev pub key_after : State → Operation → KeyLine → Line
key_after state operation (key.Read path read) = key_after_read path (read_step state operation read)
key_after state operation (key.Main path main) = key_after_main state operation path main (node_at state.heap main)
key_after state operation (key.Entry path main position) = key_after_entry state operation path main position (node_at state.heap (entry_at state.heap main position))
key_after state operation (key.Listed path main position) = after_listed state operation path main position (node_at state.heap (entry_at state.heap main position))
key_after state operation (key.Sibling path main position former) =
    let other = entry_at state.heap main (1 - position) in
    after_sibling path main position former other (node_at state.heap other)

-- WALK: an operation on a read-only handle goes through all pairs, by depth first in the order of entries.
use Rattle.std.specs.Prelude.{ℕ, List, [], ◌∷◌, ◌++◌, length}
use Rattle.history.specs.declared.calls.Call.{Call}
use Rattle.history.specs.declared.calls.Call.TheVariants.{Count}
use Rattle.history.specs.declared.replies.Reply.{Reply}
use Rattle.history.specs.declared.replies.Reply.TheVariants as reply
use Rattle.machine_model.specs.Beneath.slot_arena.specs.declared.refs.Ref.{Ref}
use Rattle.machine_model.specs.Beneath.slot_arena.specs.declared.nodes.Node.{Node}
use Rattle.machine_model.specs.Beneath.slot_arena.specs.declared.nodes.Node.TheVariants.{Indirection, Single}
use Rattle.machine_model.specs.declared.operations.Operation.{Operation}
use Rattle.machine_model.specs.declared.reading.After.{After}
use Rattle.machine_model.specs.declared.reading.After.TheVariants.{Goes, Gives}
use Rattle.machine_model.specs.declared.reading.Read.{Read}
use Rattle.machine_model.specs.declared.walking.WalkLine.{WalkLine}
use Rattle.machine_model.specs.declared.walking.WalkLine.TheVariants as walk
use Rattle.machine_model.specs.declared.lines.Line.{Line}
use Rattle.machine_model.specs.declared.lines.Line.TheVariants as line
use Rattle.machine_model.specs.declared.actions.Action.{Action}
use Rattle.machine_model.specs.declared.actions.Action.TheVariants as act
use Rattle.machine_model.specs.Beneath.slot_arena.specs.Heaps.{node_at, entries_of, no_ref}
use Rattle.machine_model.specs.Calls.{handle_of}
use Rattle.machine_model.specs.States.{State, word_at, root_of}
use Rattle.machine_model.specs.Reading.{read_action, read_step, reading}
use Rattle.machine_model.specs.Lines.{impossible}
use Rattle.machine_model.specs.Pairs.{by_key}

abbrev pub walked_reply : Call → List (ℕ × ℕ) → Reply
walked_reply (Count h) pairs = reply.Count (length pairs)
walked_reply call pairs = reply.Pairs (by_key pairs)

-- the next entry, or the end
abbrev pub walk_next : Operation → List Ref → List (ℕ × ℕ) → Line
walk_next operation [] pairs = line.End (walked_reply operation.call pairs)
walk_next operation (entry ∷ todo) pairs = line.Walk (walk.Entry (entry ∷ todo) pairs)

abbrev pub first_of : List Ref → Ref
first_of [] = no_ref
first_of (entry ∷ todo) = entry

abbrev pub rest_of : List Ref → List Ref
rest_of [] = []
rest_of (entry ∷ todo) = todo

-- what its step does
abbrev pub walk_action : WalkLine → Action
walk_action walk.Root = act.ReadRoot
walk_action (walk.Read read todo pairs) = read_action read.indirection read.line
walk_action (walk.Main main todo pairs) = act.Look main
walk_action (walk.Entry todo pairs) = act.Look (first_of todo)

abbrev pub walk_after_read : List Ref → List (ℕ × ℕ) → After Read Ref → Line
walk_after_read todo pairs (Goes read) = line.Walk (walk.Read read todo pairs)
walk_after_read todo pairs (Gives main) = line.Walk (walk.Main main todo pairs)

-- a single is taken, an indirection is read
abbrev pub walk_after_entry : Operation → Ref → List Ref → List (ℕ × ℕ) → Node → Line
walk_after_entry operation entry todo pairs (Indirection generation word) = line.Walk (walk.Read (reading entry) todo pairs)
walk_after_entry operation entry todo pairs (Single k v) = walk_next operation todo (pairs ++ (k, v) ∷ [])
walk_after_entry operation entry todo pairs node = impossible

-- what comes after a step of WALK
abbrev pub walk_after : State → Operation → WalkLine → Line
walk_after state operation walk.Root = line.Walk (walk.Read (reading (root_of (word_at state (handle_of operation.call)))) [] [])
walk_after state operation (walk.Read read todo pairs) = walk_after_read todo pairs (read_step state operation read)
walk_after state operation (walk.Main main todo pairs) = walk_next operation (entries_of (node_at state.heap main) ++ todo) pairs
walk_after state operation (walk.Entry todo pairs) = walk_after_entry operation (first_of todo) (rest_of todo) pairs (node_at state.heap (first_of todo))

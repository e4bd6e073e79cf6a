-- An operation that swaps the root, as the definition's, and the drawing of generations.
use Rattle.std.specs.Prelude.{◌≡◌, ℕ, ◌+◌, Bool, false, slice_index_or, Option, Some, None}
use Rattle.snapshot.specs.Vocabulary.{Access, Call, Reply, Ref, Indirection, Heap, next_ref, Action, Operation, acted, State}
use Rattle.history.specs.declared.calls.Call.TheVariants as calls
use Rattle.history.specs.declared.replies.Reply.TheVariants as reply
use Rattle.snapshot.specs.Beneath.machine_model.specs.declared.actions.Action.TheVariants as act
use Rattle.snapshot.specs.Beneath.gcas.specs.Acted.{acted_heap}
use Rattle.snapshot.specs.Beneath.rdcss_root.specs.Tables.{Table}
use Rattle.snapshot.specs.declared.tasks.CopyCall.{CopyCall}
use Rattle.snapshot.specs.declared.tasks.CopyCall.TheVariants.{Snapshot, Freeze, Clear}
use Rattle.snapshot.specs.declared.tasks.CopyReply.{CopyReply}
use Rattle.snapshot.specs.declared.tasks.CopyReply.TheVariants.{Opened, Cleared, NoSlots}
use Rattle.snapshot.specs.declared.tasks.CopyTask.{CopyTask}

-- the call on this handle
abbrev pub call_of : ℕ → CopyCall → Call
call_of handle Snapshot = calls.Snapshot handle
call_of handle Freeze = calls.Freeze handle
call_of handle Clear = calls.Clear handle

abbrev pub reply_of : CopyReply → Reply
reply_of (Opened handle) = reply.Opened handle
reply_of Cleared = reply.Cleared
reply_of NoSlots = reply.NoSlots

-- the operation, whatever else it has, of this task, that has offered so often and has this mark, on a handle of this kind
abbrev pub for_task : CopyTask → ℕ → Bool → Access → Operation → Operation
for_task task attempt mark access operation =
    record operation { id = task.operation; call = call_of task.handle task.call; access = access; opens = task.opens; attempt = attempt; is_marked = mark }

-- the state, whatever else it has, with this heap and these root words
abbrev pub at_roots : State → Heap → Table → State
at_roots state heap table = record state { heap = heap; roots = table.roots }

-- the mark of the actor who runs it
abbrev pub mark_of : Table → CopyTask → Bool
mark_of table task = slice_index_or table.marks task.actor false

-- ---- generations

-- the action, where a new root has the generation that is to be drawn next
abbrev pub with_generation : ℕ → Action → Action
with_generation generation (act.MakeRoot main) = act.Make (Indirection generation main)
with_generation generation action = action

abbrev pub drawn : ℕ → Option Ref → ℕ
drawn generation None = generation
drawn generation (Some made) = generation + 1

-- the next generation to be drawn, after the action
abbrev pub drawn_by : Heap → ℕ → Action → ℕ
drawn_by heap generation (act.MakeRoot main) = drawn generation (next_ref heap)
drawn_by heap generation action = generation

-- a law: the heap and the next generation after an action of the machine, whatever stands beside them
abbrev pub DrawsGenerations : Type 0
DrawsGenerations = (state : State) → (handle : ℕ) → (action : Action) →
    ((acted state handle action).heap ≡ acted_heap state.heap (with_generation state.generations action)) × ((acted state handle action).generations ≡ drawn_by state.heap state.generations action)

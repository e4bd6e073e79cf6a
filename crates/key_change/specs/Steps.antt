-- What a step of a try comes to.
use Rattle.std.specs.Prelude.{List}
use Rattle.key_change.specs.Beneath.history.specs.declared.replies.Reply.TheVariants as reply
use Rattle.key_change.specs.Beneath.slot_arena.specs.declared.refs.Ref.{Ref}
use Rattle.key_change.specs.Beneath.slot_arena.specs.Heaps.{Heap, node_at}
use Rattle.key_change.specs.Beneath.machine_model.specs.declared.lines.Line.{Line}
use Rattle.key_change.specs.Beneath.machine_model.specs.declared.lines.Line.TheVariants as line
use Rattle.key_change.specs.Beneath.machine_model.specs.declared.operations.Operation.{Operation}
use Rattle.key_change.specs.Beneath.machine_model.specs.Lines.{new_try, impossible}
use Rattle.key_change.specs.Beneath.machine_model.specs.Operations.{after_update}
use Rattle.key_change.specs.Beneath.machine_model.specs.States.{State}
use Rattle.key_change.specs.Beneath.gcas.specs.declared.next.Next.{Next}
use Rattle.key_change.specs.Beneath.gcas.specs.declared.read.ReadAt.{ReadAt}
use Rattle.key_change.specs.Beneath.gcas.specs.Swaps.{CanSwapOn}
use Rattle.trie_parts.specs.declared.calls.Task.{Task}
use Rattle.trie_parts.specs.declared.work.Work.{Work}
use Rattle.trie_parts.specs.Steps.{CanMake, StepsOn}
use Rattle.key_change.specs.declared.change.Change.{Change}
use Rattle.key_change.specs.declared.change.ChangeAt.{ChangeAt}
use Rattle.key_change.specs.declared.change.ChangeAt.TheVariants as at
use Rattle.key_change.specs.declared.change.Tried.{Tried}
use Rattle.key_change.specs.declared.change.Tried.TheVariants.{Changed, Lost, NoSlots, Impossible}
use Rattle.key_change.specs.Built.{build_line, built}

-- ---- what a step comes to

-- the definition's line after a try that came to this, whose fresh main node this is
abbrev pub line_behind : State → Operation → List Ref → Ref → Tried → Line
line_behind state operation path fresh (Changed former) = after_update operation path former (node_at state.heap fresh)
line_behind state operation path fresh Lost = new_try
line_behind state operation path fresh NoSlots = line.End reply.NoSlots
line_behind state operation path fresh Impossible = impossible

-- what a try comes to by its step from this line of the definition
abbrev pub ChangesOn : State → Operation → List Ref → Ref → Line → Line → ReadAt → Next Tried → Type 0
ChangesOn state operation path fresh before after place next = StepsOn state operation before after place (line_behind state operation path fresh) next

-- ---- what it asks

abbrev pub CanChangeAt : Heap → Task → List Ref → Work → Ref → ChangeAt → Type 0
CanChangeAt heap task path w main (at.Sibling position former) = Unit {0}
CanChangeAt heap task path w main (at.Build building) = CanMake heap w.private (built heap task (build_line path main building))
CanChangeAt heap task path w main (at.Swap former) = CanSwapOn heap w.swap

-- what the node is to refer to, or what the SWAP is going to change, is in use, and of its kind; what makes a node has room for it
abbrev pub CanChange : Heap → Task → List Ref → Work → Change → Type 0
CanChange heap task path w change = CanChangeAt heap task path w change.main change.at

-- ABORT of the code as the definition's, inside of any program.
use Rattle.std.specs.Prelude.{◌≡◌, ℕ, Option, Some, None}
use Rattle.root_asking.specs.Beneath.ctrie_base.specs.declared.kinds.Kind.{Kind}
use Rattle.root_asking.specs.Beneath.history.specs.declared.calls.Access.TheVariants.{Writable}
use Rattle.root_asking.specs.Beneath.slot_arena.specs.declared.refs.Ref.{Ref}
use Rattle.root_asking.specs.Beneath.slot_arena.specs.Heaps.{Heap}
use Rattle.root_asking.specs.Beneath.machine_model.specs.declared.actions.Action.{Action}
use Rattle.root_asking.specs.Beneath.machine_model.specs.declared.actions.Action.TheVariants as act
use Rattle.root_asking.specs.Beneath.machine_model.specs.declared.lines.Line.{Line}
use Rattle.root_asking.specs.Beneath.machine_model.specs.declared.operations.Operation.{Operation}
use Rattle.root_asking.specs.Beneath.machine_model.specs.declared.reading.Read.{Read}
use Rattle.root_asking.specs.Beneath.machine_model.specs.declared.reading.ReadLine.{ReadLine}
use Rattle.root_asking.specs.Beneath.machine_model.specs.declared.reading.ReadLine.TheVariants as read
use Rattle.root_asking.specs.Beneath.machine_model.specs.Calls.{handle_of}
use Rattle.root_asking.specs.Beneath.machine_model.specs.Operations.{kind_of, line_action, line_after, read_of}
use Rattle.root_asking.specs.Beneath.machine_model.specs.States.{State}
use Rattle.rdcss_root.specs.declared.abort.AbortRead.{AbortRead}
use Rattle.rdcss_root.specs.declared.abort.AbortRead.TheVariants as abort
use Rattle.rdcss_root.specs.Tables.{Table}
use Rattle.root_asking.specs.declared.asking.Asking.{Asking}
use Rattle.root_asking.specs.declared.asking.Asking.TheVariants.{Unasked, Met, Told}
use Rattle.root_asking.specs.Beneath.machine_model.specs.Reads.{with_read}

abbrev pub IsUntold : Asking → Type 0
IsUntold Unasked = Unit {0}
IsUntold (Met offer) = Unit {0}
IsUntold (Told generation) = ⊥

-- what a READ is told
abbrev pub seen_of : Asking → Option ℕ
seen_of Unasked = None
seen_of (Met offer) = None
seen_of (Told generation) = Some generation

-- where ABORT stands
abbrev pub abort_of : Asking → AbortRead
abort_of Unasked = abort.Read
abort_of (Met offer) = abort.Swap offer
abort_of (Told generation) = abort.Read

abbrev pub asking_of : AbortRead → Asking
asking_of abort.Read = Unasked
asking_of (abort.Swap offer) = Met offer

-- what ABORT's next step does
abbrev pub ask_action : Asking → Action
ask_action Unasked = act.ReadRoot
ask_action (Met offer) = act.Abort offer
ask_action (Told generation) = act.ReadRoot

-- the definition's line of a READ that found this node pending over that one
abbrev pub asked_at : Ref → Ref → Asking → ReadLine
asked_at main previous Unasked = read.AskRoot main previous
asked_at main previous (Met offer) = read.Abort main previous offer
asked_at main previous (Told generation) = read.Decide main previous (Some generation)

-- the definition's line of a program in which such a READ runs
abbrev pub asked_line : Ref → Ref → Asking → Line → Line
asked_line main previous asking l = with_read (asked_at main previous asking) l

-- the READ that it is in
abbrev pub asked_read : Ref → Ref → Ref → Asking → Read
asked_read indirection main previous asking = record { indirection = indirection; line = asked_at main previous asking }

-- A step of the definition from the program's line is of this kind and leads to the program's line behind it, for each program whose READ asks on a
-- writable handle of this number, whatever else stands in the state.
abbrev pub AsksOn : Heap → Table → ℕ → Asking → Asking → Kind → Type 0
AsksOn heap table handle before after k =
    (state : State) → (operation : Operation) → (l : Line) → (indirection main previous : Ref) → read_of l ≡ Some (asked_read indirection main previous Unasked) →
    operation.access ≡ Writable → handle_of operation.call ≡ handle →
    (line_action (record state { heap = heap; roots = table.roots }) operation (asked_line main previous before l) ≡ ask_action before)
    × (kind_of (ask_action before) ≡ k)
    × (line_after (record state { heap = heap; roots = table.roots }) operation (asked_line main previous before l) ≡ asked_line main previous after l)
    × (read_of (asked_line main previous before l) ≡ Some (asked_read indirection main previous before))

-- What a step of a program of the map comes to.
use Rattle.std.specs.Prelude.{◌≡◌, ◌+◌, ◌<◌, List, length, Option, Some, None}
use Rattle.trie_parts.specs.Beneath.ctrie_base.specs.declared.kinds.Kind.{Kind}
use Rattle.trie_parts.specs.Beneath.slot_arena.specs.declared.refs.Ref.{Ref}
use Rattle.trie_parts.specs.Beneath.slot_arena.specs.declared.nodes.Node.{Node}
use Rattle.trie_parts.specs.Beneath.slot_arena.specs.Heaps.{Heap, refs_of_node}
use Rattle.trie_parts.specs.Beneath.slot_arena.specs.Arenas.{AreLive}
use Rattle.trie_parts.specs.Beneath.history.specs.declared.calls.Access.{Access}
use Rattle.trie_parts.specs.Beneath.machine_model.specs.declared.lines.Line.{Line}
use Rattle.trie_parts.specs.Beneath.machine_model.specs.declared.operations.Operation.{Operation}
use Rattle.trie_parts.specs.Beneath.machine_model.specs.declared.reading.After.TheVariants.{Goes, Gives}
use Rattle.trie_parts.specs.Beneath.machine_model.specs.declared.reading.Read.{Read}
use Rattle.trie_parts.specs.Beneath.machine_model.specs.declared.roots.RootWord.{RootWord}
use Rattle.trie_parts.specs.Beneath.machine_model.specs.Reading.{read_action, read_after, at_indirection}
use Rattle.trie_parts.specs.Beneath.machine_model.specs.Operations.{kind_of, line_action, line_after, read_of}
use Rattle.trie_parts.specs.Beneath.machine_model.specs.States.{State}
use Rattle.gcas.specs.declared.next.Next.{Next}
use Rattle.gcas.specs.declared.next.Next.TheVariants.{More, AskRoot, Done}
use Rattle.gcas.specs.declared.read.Read.{Read as Running}
use Rattle.gcas.specs.declared.read.ReadAt.{ReadAt}
use Rattle.gcas.specs.Reads.{IsAsking, ReadsAlong, read_of as running}
use Rattle.trie_parts.specs.Beneath.slot_arena.specs.Refs.{birth_limit}

abbrev pub IsAskingRead : Option Read → Type 0
IsAskingRead None = ⊥
IsAskingRead (Some r) = IsAsking r.line

-- the next step from this line reads the root word, for a READ that is to decide a main node
abbrev pub IsAskingLine : Line → Type 0
IsAskingLine l = IsAskingRead (read_of l)

-- A step of the definition from this line is of this kind and leads to that line; of the READ that stands in it is known where it is behind the step.
abbrev pub Leads : State → Operation → Line → Kind → Line → ReadAt → Type 0
Leads state operation before k after place =
    (kind_of (line_action state operation before) ≡ k) × (line_after state operation before ≡ after) × ReadsAlong state.heap operation.access (read_of before) k place

-- What a program comes to by its step from this line of the definition: it goes on with that line, or, at its end, with the one to which what it gives leads.
abbrev pub StepsOn : {T : Type 0} → State → Operation → Line → Line → ReadAt → (T → Line) → Next T → Type 0
StepsOn state operation before after place behind (More k) = Leads state operation before k after place
StepsOn state operation before after place behind AskRoot = IsAskingLine before
StepsOn state operation before after place behind (Done k given) = Leads state operation before k (behind given) place

-- What a READ inside of a program comes to by its step, whatever the root word is.
abbrev pub ReadsInside : Heap → Access → Read → Running → Next Ref → Type 0
ReadsInside heap access before after (More k) =
    (kind_of (read_action before.indirection before.line) ≡ k)
    × ((word : RootWord) → at_indirection before.indirection (read_after heap access word before.indirection before.line) ≡ Goes (running after None))
    × ReadsAlong heap access (Some before) k after.at
ReadsInside heap access before after AskRoot = IsAsking before.line
ReadsInside heap access before after (Done k main) =
    (kind_of (read_action before.indirection before.line) ≡ k)
    × ((word : RootWord) → at_indirection before.indirection (read_after heap access word before.indirection before.line) ≡ Gives main)
    × ReadsAlong heap access (Some before) k after.at

-- what a node that is made asks: that what it is to refer to is in use, and that the private list isn't full
abbrev pub CanMake : Heap → List Ref → Node → Type 0
CanMake heap private node = (heap.births + 1 < birth_limit) × AreLive heap (refs_of_node node) × (length private < 33)

-- the step was the program's last one
abbrev pub IsLast : {T : Type 0} → Next T → Type 0
IsLast (More k) = ⊥
IsLast AskRoot = ⊥
IsLast (Done k given) = Unit {0}

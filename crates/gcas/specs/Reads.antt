-- A READ of the code as the definition's, and what a step of it comes to.
use Rattle.std.specs.Prelude.{◌≡◌, ℕ, true, Option, Some, None}
use Rattle.machine_model.specs.Beneath.ctrie_base.specs.declared.kinds.Kind.{Kind}
use Rattle.machine_model.specs.Beneath.ctrie_base.specs.declared.kinds.Kind.TheVariants as kind
use Rattle.machine_model.specs.Beneath.history.specs.declared.calls.Access.{Access}
use Rattle.machine_model.specs.Beneath.history.specs.declared.calls.Access.TheVariants.{Writable, ReadOnly}
use Rattle.machine_model.specs.Beneath.slot_arena.specs.declared.refs.Ref.{Ref}
use Rattle.machine_model.specs.Beneath.slot_arena.specs.Heaps.{Heap, node_at}
use Rattle.machine_model.specs.Beneath.slot_arena.specs.Arenas.{IsLive, is_indirection, is_main_node}
use Rattle.machine_model.specs.declared.reading.After.{After}
use Rattle.machine_model.specs.declared.reading.After.TheVariants.{Goes, Gives}
use Rattle.machine_model.specs.declared.reading.Read.{Read as Defined}
use Rattle.machine_model.specs.declared.reading.ReadLine.{ReadLine}
use Rattle.machine_model.specs.declared.reading.ReadLine.TheVariants as read
use Rattle.machine_model.specs.declared.roots.RootWord.{RootWord}
use Rattle.machine_model.specs.Reading.{read_action, read_after, committed_by}
use Rattle.machine_model.specs.Operations.{kind_of}
use Rattle.gcas.specs.declared.next.Next.{Next}
use Rattle.gcas.specs.declared.next.Next.TheVariants.{More, AskRoot, Done}
use Rattle.gcas.specs.declared.read.Read.{Read}
use Rattle.gcas.specs.declared.read.ReadAt.{ReadAt}
use Rattle.gcas.specs.declared.read.ReadAt.TheVariants as at

-- ---- where it stands

-- A pending node is decided by the generation of the root, which a READ on a writable handle asks for first.
abbrev pub deciding : Access → Option ℕ → Ref → Ref → ReadLine
deciding ReadOnly root_seen main previous = read.Decide main previous None
deciding Writable None main previous = read.AskRoot main previous
deciding Writable (Some generation) main previous = read.Decide main previous (Some generation)

abbrev pub line_at : Access → Option ℕ → ReadAt → ReadLine
line_at access root_seen at.Main = read.Main
line_at access root_seen (at.Prev main) = read.Prev main
line_at access root_seen (at.Decide main previous) = deciding access root_seen main previous
line_at access root_seen (at.Restore main previous) = read.Restore main previous
line_at access root_seen (at.Given main) = read.Main

-- the definition's line on which a READ stands that was told this of the root's generation
abbrev pub line_of : Read → Option ℕ → ReadLine
line_of r root_seen = line_at r.access root_seen r.at

-- the definition's READ
abbrev pub read_of : Read → Option ℕ → Defined
read_of r root_seen = record { indirection = r.indirection; line = line_of r root_seen }

-- a READ at its beginning
abbrev pub begun : Access → Ref → Read
begun access indirection = record { access = access; indirection = indirection; at = at.Main }

-- ---- what a step comes to

abbrev pub IsAsking : ReadLine → Type 0
IsAsking (read.AskRoot main previous) = Unit {0}
IsAsking line = ⊥

-- what a READ that stands here gave, if it did
abbrev pub given_so : ReadAt → Option Ref
given_so at.Main = None
given_so (at.Prev main) = None
given_so (at.Decide main previous) = None
given_so (at.Restore main previous) = None
given_so (at.Given main) = Some main

-- the main node that a READ committed by a step of this kind, behind which it stands here
abbrev pub committed_so : Kind → ReadAt → Option Ref
committed_so kind.SwapPrev place = given_so place
committed_so k place = None

-- what a READ of the definition comes to where the code's stands here behind the step
abbrev pub come_to : Access → ReadAt → After ReadLine Ref
come_to access at.Main = Goes read.Main
come_to access (at.Prev main) = Goes (read.Prev main)
come_to access (at.Decide main previous) = Goes (deciding access None main previous)
come_to access (at.Restore main previous) = Goes (read.Restore main previous)
come_to access (at.Given main) = Gives main

-- a READ inside of another program is behind a step of this kind where the code's READ stands; there may be none
abbrev pub ReadsAlong : Heap → Access → Option Defined → Kind → ReadAt → Type 0
ReadsAlong heap access None k place = committed_so k place ≡ None
ReadsAlong heap access (Some r) k place =
    ((word : RootWord) → read_after heap access word r.indirection r.line ≡ come_to access place) × (committed_by heap r.indirection r.line ≡ committed_so k place)

abbrev pub IsAskingRoot : {T : Type 0} → Next T → Type 0
IsAskingRoot (More k) = ⊥
IsAskingRoot AskRoot = Unit {0}
IsAskingRoot (Done k value) = ⊥

-- What a READ on this line of the definition comes to by its step, behind which the code's READ stands there: what was told is used up. Whatever the
-- root word is, since a step that reads it isn't a READ's own.
abbrev pub ReadsOn : Heap → Access → Ref → ReadLine → ReadAt → Next Ref → Type 0
ReadsOn heap access indirection line place (More k) =
    (kind_of (read_action indirection line) ≡ k) × (given_so place ≡ None) × ReadsAlong heap access (Some (record { indirection = indirection; line = line })) k place
ReadsOn heap access indirection line place AskRoot = IsAsking line
ReadsOn heap access indirection line place (Done k main) =
    (kind_of (read_action indirection line) ≡ k) × (given_so place ≡ Some main) × ReadsAlong heap access (Some (record { indirection = indirection; line = line })) k place

-- ---- what it asks of the heap

abbrev pub CanReadAt : Heap → Ref → ReadAt → Type 0
CanReadAt heap indirection at.Main = Unit {0}
CanReadAt heap indirection (at.Prev main) = Unit {0}
CanReadAt heap indirection (at.Decide main previous) = IsLive heap main × (is_main_node (node_at heap main) ≡ true) × IsLive heap previous
CanReadAt heap indirection (at.Restore main previous) = IsLive heap indirection × (is_indirection (node_at heap indirection) ≡ true) × IsLive heap previous
CanReadAt heap indirection (at.Given main) = Unit {0}

-- what a READ is going to change is in use, and of its kind
abbrev pub CanReadOn : Heap → Read → Type 0
CanReadOn heap r = CanReadAt heap r.indirection r.at

-- A WALK of the code as the definition's, and what a step of it comes to.
use Rattle.std.specs.Prelude.{◌≡◌, ◌<◌, ◌≤◌, ℕ, Bool, true, false, List, [], ◌∷◌, Option}
use Rattle.ctrie_base.specs.declared.kinds.Kind.TheVariants as kind
use Rattle.snapshot.specs.Vocabulary.{Access, Call, Ref, Heap, Line, Operation, impossible, walked_reply}
use Rattle.history.specs.declared.calls.Call.TheVariants as calls
use Rattle.snapshot.specs.Beneath.machine_model.specs.declared.lines.Line.TheVariants as line
use Rattle.snapshot.specs.Beneath.machine_model.specs.declared.walking.WalkLine.TheVariants as walk
use Rattle.snapshot.specs.Beneath.gcas.specs.declared.next.Next.{Next}
use Rattle.snapshot.specs.Beneath.gcas.specs.declared.next.Next.TheVariants.{More, AskRoot, Done}
use Rattle.snapshot.specs.Beneath.gcas.specs.declared.read.Read.{Read}
use Rattle.snapshot.specs.Beneath.gcas.specs.Reads.{read_of, CanReadOn}
use Rattle.snapshot.specs.declared.tasks.WalkCall.{WalkCall}
use Rattle.snapshot.specs.declared.tasks.WalkCall.TheVariants.{Entries, Count}
use Rattle.snapshot.specs.declared.walk.Walk.{Walk}
use Rattle.snapshot.specs.declared.walk.WalkAt.{WalkAt}
use Rattle.snapshot.specs.declared.walk.WalkAt.TheVariants as at
use Rattle.snapshot.specs.declared.walk.Walked.{Walked}
use Rattle.snapshot.specs.declared.walk.Walked.TheVariants.{All, Impossible}

abbrev pub is_none_left : List Ref → Bool
is_none_left [] = true
is_none_left (entry ∷ todo) = false

-- the call on this handle
abbrev pub call_of : ℕ → WalkCall → Call
call_of handle Entries = calls.Entries handle
call_of handle Count = calls.Count handle

-- the operation, whatever else it has, of this call, on a handle of this kind
abbrev pub on_call : Call → Access → Operation → Operation
on_call call access operation = record operation { call = call; access = access }

-- ---- where it stands

abbrev pub walk_line_at : Read → Option ℕ → List Ref → List (ℕ × ℕ) → WalkAt → Line
walk_line_at r root_seen todo pairs at.Root = line.Walk walk.Root
walk_line_at r root_seen todo pairs at.Read = line.Walk (walk.Read (read_of r root_seen) todo pairs)
walk_line_at r root_seen todo pairs (at.Main main) = line.Walk (walk.Main main todo pairs)
walk_line_at r root_seen todo pairs at.Entry = line.Walk (walk.Entry todo pairs)

-- the definition's line of a walk whose READ was told this of the root's generation
abbrev pub walk_line : Read → Option ℕ → Walk → Line
walk_line r root_seen w = walk_line_at r root_seen w.todo.items w.pairs.items w.at

-- it has still to begin
abbrev pub IsAtBegin : Walk → Type 0
IsAtBegin w = (w.todo.items ≡ []) × (w.pairs.items ≡ []) × (w.at ≡ at.Root)

-- it stands where it stood, whatever room its lists have
abbrev pub KeepsWalk : Walk → Walk → Type 0
KeepsWalk before after = (after.todo.items ≡ before.todo.items) × (after.pairs.items ≡ before.pairs.items) × (after.at ≡ before.at)

-- the definition's line after a walk that came to this, and has met these pairs
abbrev pub behind_walk : Call → List (ℕ × ℕ) → Walked → Line
behind_walk call pairs All = line.End (walked_reply call pairs)
behind_walk call pairs Impossible = impossible

-- a look leads to the first of these lines: it is the second, or that behind the walk
abbrev pub NextIs : Line → Line → (Walked → Line) → Next Walked → Type 0
NextIs next after behind (More k) = (k ≡ kind.Look) × (next ≡ after)
NextIs next after behind AskRoot = ⊥
NextIs next after behind (Done k walked) = (k ≡ kind.Look) × (next ≡ behind walked)

-- ---- what it asks

abbrev pub CanWalkAt : Heap → Read → WalkAt → Type 0
CanWalkAt heap r at.Root = Unit {0}
CanWalkAt heap r at.Read = CanReadOn heap r
CanWalkAt heap r (at.Main main) = Unit {0}
CanWalkAt heap r at.Entry = Unit {0}

-- what a READ is going to change is in use, and of its kind
abbrev pub CanWalk : Heap → Read → Walk → Type 0
CanWalk heap r w = CanWalkAt heap r w.at

-- its lists have room for the entries of a node, and for a pair
abbrev pub HasRoom : Walk → Type 0
HasRoom w = (32 ≤ w.todo.room) × (0 < w.pairs.room)

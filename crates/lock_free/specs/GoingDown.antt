-- KEY: where an operation is on its way down to its key, and what it comes to there.
use Rattle.std.specs.Prelude.{◌≡◌, ◌<◌, ◌+◌, ℕ, nat_lt, true, false, List, [], length, Option, Some, None, if◌then◌else◌}
use Rattle.trie_words.specs.declared.links.Link.{Link}
use Rattle.machine_model.specs.Beneath.slot_arena.specs.declared.refs.Ref.{Ref}
use Rattle.machine_model.specs.Beneath.slot_arena.specs.declared.nodes.Node.TheVariants.{Tomb}
use Rattle.machine_model.specs.Beneath.slot_arena.specs.Heaps.{node_at, entry_at, entries_of}
use Rattle.machine_model.specs.declared.finding.KeyLine.{KeyLine}
use Rattle.machine_model.specs.declared.finding.KeyLine.TheVariants as key
use Rattle.machine_model.specs.declared.lines.Line.{Line}
use Rattle.machine_model.specs.declared.lines.Line.TheVariants as line
use Rattle.machine_model.specs.declared.operations.Operation.{Operation}
use Rattle.machine_model.specs.Calls.{key_of}
use Rattle.machine_model.specs.Finding.{absent, absent_beside, absent_listed, after_tomb, found, going_down, is_passable}
use Rattle.machine_model.specs.Reading.{reading}
use Rattle.machine_model.specs.Renewing.{renew_next}
use Rattle.machine_model.specs.States.{State}
use Rattle.proof_memory.specs.Wants.{flag_on, is_list}
use Rattle.lock_free.specs.declared.finding.Met.{Met}
use Rattle.lock_free.specs.declared.finding.Met.TheVariants as met
use Rattle.lock_free.specs.declared.finding.Turn.{Turn}
use Rattle.lock_free.specs.declared.finding.Turn.TheVariants as turn
use Rattle.lock_free.specs.declared.reading.Given.{Given}
use Rattle.lock_free.specs.declared.rules.View.{View}
use Rattle.lock_free.specs.Entries.{IsEntryIn}
use Rattle.lock_free.specs.Loading.{now, Runs}
use Rattle.lock_free.specs.Passing.{Later, IsPlaced, KnowsLink, KnowsMain}

-- the operation is on this line of KEY
abbrev pub IsAtKey : View → KeyLine → Type 0
IsAtKey v l = (operation : Operation) × Runs v operation × (operation.line ≡ line.Key l)

-- it has come to another line, and nothing else of it has changed
pub record HasMoved (next : Operation → Line) (v w : View) : Type 0 where
  pub later : Later v w
  pub comes : (operation : Operation) → Runs v operation → Runs w (record operation { line = next operation })

-- this is the flag of its key at the end of the path
abbrev pub IsFlag : View → List Ref → ℕ → Type 0
IsFlag v path flag = (operation : Operation) → Runs v operation → flag ≡ flag_on v.sizes.hash operation.call path

-- ---- at a main node

abbrev pub IsAtMain : View → ℕ → ℕ → Type 0
IsAtMain v name flag = (path : List Ref) × (main : Ref) × IsAtKey v (key.Main path main) × IsPlaced v main name × IsFlag v path flag

-- where it turns there
abbrev pub line_at : List Ref → Ref → Turn → Operation → Line
line_at path main (turn.Entry position) operation = line.Key (key.Entry path main position)
line_at path main turn.Absent operation = absent operation path main
line_at path main turn.List operation = line.Key (key.Listed path main 0)
line_at path main (turn.Tomb single) operation = after_tomb operation.access path main

-- the main node is a tomb, whose single is in this slot
abbrev pub IsTombOf : View → Ref → ℕ → Type 0
IsTombOf v main name = (single : Ref) × (node_at (now v).heap main ≡ Tomb single) × IsPlaced v single name

-- what it tells of the main node: it is a list, or a tomb
abbrev pub Tells : View → Ref → Turn → Type 0
Tells v main (turn.Entry position) = Unit {0}
Tells v main turn.Absent = Unit {0}
Tells v main turn.List = is_list (node_at (now v).heap main) ≡ true
Tells v main (turn.Tomb single) = IsTombOf v main single

abbrev pub HasTurned : View → Turn → View → Type 0
HasTurned before turn after = (path : List Ref) (main : Ref) → IsAtKey before (key.Main path main) → HasMoved (line_at path main turn) before after × Tells after main turn

-- an entry's position is one of 32
abbrev pub IsWithin : Turn → Type 0
IsWithin (turn.Entry position) = position < 32
IsWithin turn.Absent = Unit {0}
IsWithin turn.List = Unit {0}
IsWithin (turn.Tomb single) = Unit {0}

-- ---- at an indirection

abbrev pub IsAtLink : View → ℕ → ℕ → Type 0
IsAtLink v name flag = (path : List Ref) × (i : Ref) × IsAtKey v (key.Read path (reading i)) × IsPlaced v i name × IsFlag v path flag

-- it has read the main node there, and turns at it
pub record HasReadTurn (before : View) (path : List Ref) (i : Ref) (given : Given) (turn : Turn) (after : View) : Type 0 where
  pub main : Ref
  pub moved : HasMoved (line_at path main turn) before after
  pub tells : Tells after main turn
  pub link : KnowsLink after i main given.link
  pub header : KnowsMain after main given.header

abbrev pub HasReadKey : View → Given × Turn → View → Type 0
HasReadKey before (given, turn) after = (path : List Ref) (i : Ref) → IsAtKey before (key.Read path (reading i)) → HasReadTurn before path i given turn after

-- ---- at an entry

-- it is to look at the indirection in this slot
abbrev pub IsAtBelow : View → ℕ → Type 0
IsAtBelow v name = (path : List Ref) × (main : Ref) × (position : ℕ) × IsAtKey v (key.Entry path main position) × IsEntryIn v main position name false

abbrev pub IsOnKey : View → ℕ → Type 0
IsOnKey v sought = (operation : Operation) → Runs v operation → key_of operation.call ≡ sought

-- the entry at which a line looks for the key: of a branch, a list or a tomb
abbrev pub sought_in : KeyLine → Option (Ref × ℕ)
sought_in (key.Entry path main position) = Some (main, position)
sought_in (key.Listed path main position) = Some (main, position)
sought_in l = None

-- it is to look at the single in this slot, for the key
abbrev pub IsAtSingle : View → ℕ → Type 0
IsAtSingle v name = (l : KeyLine) × (main : Ref) × (position : ℕ) × IsAtKey v l × (sought_in l ≡ Some (main, position)) × IsEntryIn v main position name true

-- after another key in a list of so many singles: the next one, or none has the key
abbrev pub after_other : Operation → List Ref → Ref → ℕ → ℕ → Line
after_other operation path main position singles =
    if nat_lt (position + 1) singles then line.Key (key.Listed path main (position + 1)) else absent_listed operation path main singles

-- it has met a single there, of its key with this value, or of another one
abbrev pub line_met : State → KeyLine → Met → Operation → Line
line_met state (key.Entry path main position) (met.Found value) operation = found state operation path main position value
line_met state (key.Entry path main position) met.Other operation = absent_beside operation path main position
line_met state (key.Listed path main position) (met.Found value) operation = found state operation path main position value
line_met state (key.Listed path main position) met.Other operation = after_other operation path main position (length (entries_of (node_at state.heap main)))
line_met state l m operation = line.Key l

abbrev pub HasMet : View → Met → View → Type 0
HasMet before result after = (l : KeyLine) → IsAtKey before l → HasMoved (line_met (now before) l result) before after

-- it has met an indirection of this generation there, through which it goes or which it has to renew
abbrev pub line_below : State → List Ref → Ref → ℕ → ℕ → Operation → Line
line_below state path main position generation operation =
    if is_passable operation generation then going_down path (entry_at state.heap main position) else renew_next state path main []

abbrev pub HasMetLink : View → Link → View → Type 0
HasMetLink before link after = (path : List Ref) (main : Ref) (position : ℕ) → IsAtKey before (key.Entry path main position) → HasMoved (line_below (now before) path main position
    link.generation) before after

-- On a read-only handle no step of an operation makes a node.
use Rattle.std.proofs.Common.{◌≡◌, ℕ, false, List, Option, Some, None, arith}
use Rattle.machine_model.specs.Beneath.ctrie_base.specs.declared.kinds.Kind.TheVariants as kind
use Rattle.history.specs.declared.calls.Access.TheVariants.{ReadOnly}
use Rattle.history.specs.declared.calls.Call.{Call}
use Rattle.history.specs.declared.replies.Reply.{Reply}
use Rattle.history.specs.declared.replies.Reply.TheVariants as reply
use Rattle.machine_model.specs.Beneath.slot_arena.specs.declared.refs.Ref.{Ref}
use Rattle.machine_model.specs.declared.reading.Read.{Read}
use Rattle.machine_model.specs.declared.operations.Operation.{Operation}
use Rattle.machine_model.specs.declared.lines.Line.{Line}
use Rattle.machine_model.specs.declared.lines.Line.TheVariants as line
use Rattle.machine_model.specs.declared.roots.RootLine.{RootLine}
use Rattle.machine_model.specs.declared.roots.RootLine.TheVariants as root
use Rattle.machine_model.specs.declared.finding.KeyLine.{KeyLine}
use Rattle.machine_model.specs.declared.finding.KeyLine.TheVariants as key
use Rattle.machine_model.specs.declared.walking.WalkLine.{WalkLine}
use Rattle.machine_model.specs.declared.steps.Bounds.{Bounds}
use Rattle.machine_model.specs.declared.steps.Step.{Step}
use Rattle.machine_model.specs.States.{State, operation_of}
use Rattle.machine_model.specs.Calls.{needs_writable, inserts, when_found}
use Rattle.machine_model.specs.declared.finding.WhenFound.TheVariants.{Answers}
use Rattle.machine_model.specs.Operations.{kind_of, line_action, line_after, first_line, action_of}
use Rattle.machine_model.specs.Finding.{key_action, key_after}
use Rattle.machine_model.specs.Walking.{walk_action, walk_after}
use Rattle.machine_model.specs.Acting.{operation_after}
use Rattle.machine_model.specs.GivingUp.{gave_up}
use Rattle.machine_model.specs.Machine.{begin_denial, run}
use Rattle.machine_model.specs.Moves.{begun_operation}
use Rattle.machine_model.proofs.Actors.{mark_one, mark_only}
use Rattle.machine_model.proofs.EachOperation.{OfEach, of_running, of_each_along}

-- the lines of KEY but the look at a sibling, which is for a removal
abbrev IsReadersKey : KeyLine → Type 0
IsReadersKey (key.Sibling path main position former) = ⊥
IsReadersKey l = Unit {0}

-- the lines of operations on read-only handles
abbrev pub IsReaders : Line → Type 0
IsReaders (line.Root l) = Unit {0}
IsReaders (line.Key l) = IsReadersKey l
IsReaders (line.Walk l) = Unit {0}
IsReaders (line.End answer) = Unit {0}
IsReaders line.Impossible = Unit {0}
IsReaders l = ⊥

-- if its handle is read-only, the operation is a reader: its call needs no writable handle, and it stands on such a line
abbrev pub ReadsIfReadOnly : Operation → Type 0
ReadsIfReadOnly operation = operation.access ≡ ReadOnly → (needs_writable operation.call ≡ false) × IsReaders operation.line

-- each operation begins on a reader's line
pub first_readers : (call : Call) → IsReaders (first_line call)
first_readers call = grind arith

-- ROOT leads to KEY or goes on
root_readers : (state : State) (operation : Operation) (l : RootLine) → needs_writable operation.call ≡ false →
    IsReaders (line_after state operation (line.Root l))
root_readers state operation l n = grind arith

-- a reader inserts nothing
pub reader_inserts : (call : Call) → needs_writable call ≡ false → inserts call ≡ false
reader_inserts call n = grind arith

-- a reader that finds its key answers
pub reader_answers : (call : Call) → needs_writable call ≡ false → (value : ℕ) → when_found call value ≡ Answers (reply.Found (Some value))
reader_answers call n value = grind arith

-- One lemma for each line of KEY; inserting and what is done where the key is found are given, so that the call isn't split.
module _ (state : State) (operation : Operation) (a : operation.access ≡ ReadOnly) (i : inserts operation.call ≡ false)
    (f : (value : ℕ) → when_found operation.call value ≡ Answers (reply.Found (Some value))) where
  -- reading an indirection
  key_read_readers : (path : List Ref) (read : Read) → IsReaders (key_after state operation (key.Read path read))
  key_read_readers path read = grind arith

  -- looking at a main node
  key_main_readers : (path : List Ref) (main : Ref) → IsReaders (key_after state operation (key.Main path main))
  key_main_readers path main = grind arith

  -- looking at an entry
  key_entry_readers : (path : List Ref) (main : Ref) (position : ℕ) → IsReaders (key_after state operation (key.Entry path main position))
  key_entry_readers path main position = grind arith

  -- looking at a single of a list
  key_listed_readers : (path : List Ref) (main : Ref) (position : ℕ) → IsReaders (key_after state operation (key.Listed path main position))
  key_listed_readers path main position = grind arith

  -- all lines of KEY
  by_key_line : (l : KeyLine) → IsReadersKey l → IsReaders (key_after state operation l)
  by_key_line (key.Read path read) h = key_read_readers path read
  by_key_line (key.Main path main) h = key_main_readers path main
  by_key_line (key.Entry path main position) h = key_entry_readers path main position
  by_key_line (key.Listed path main position) h = key_listed_readers path main position
  by_key_line (key.Sibling path main position former) h = absurd h

-- KEY goes on or ends
key_readers : (state : State) (operation : Operation) (l : KeyLine) → operation.access ≡ ReadOnly → needs_writable operation.call ≡ false → IsReadersKey l →
    IsReaders (key_after state operation l)
key_readers state operation l a n h = by_key_line state operation a (reader_inserts operation.call n) (reader_answers operation.call n) l h

-- WALK goes on or ends
walk_readers : (state : State) (operation : Operation) (l : WalkLine) → IsReaders (walk_after state operation l)
walk_readers state operation l = grind arith

-- a reader's step leads to a reader's line
pub readers : (state : State) (operation : Operation) (l : Line) → operation.access ≡ ReadOnly → needs_writable operation.call ≡ false → IsReaders l →
    IsReaders (line_after state operation l)
readers state operation (line.Root l) a n h = root_readers state operation l n
readers state operation (line.Key l) a n h = key_readers state operation l a n h
readers state operation (line.Build l) a n h = absurd h
readers state operation (line.Swap why s) a n h = absurd h
readers state operation (line.Renew l) a n h = absurd h
readers state operation (line.Clean l) a n h = absurd h
readers state operation (line.Climb l) a n h = absurd h
readers state operation (line.Copy l) a n h = absurd h
readers state operation (line.Walk l) a n h = walk_readers state operation l
readers state operation (line.End answer) a n h = tt
readers state operation line.Impossible a n h = tt

-- no step of ROOT makes a node
root_makes_nothing : (state : State) (operation : Operation) (l : RootLine) → kind_of (line_action state operation (line.Root l)) ≡ kind.Make → ⊥
root_makes_nothing state operation l h = grind arith

-- nor of KEY
key_makes_nothing : (state : State) (l : KeyLine) → kind_of (key_action state l) ≡ kind.Make → ⊥
key_makes_nothing state l h = grind arith

-- nor of WALK
walk_makes_nothing : (l : WalkLine) → kind_of (walk_action l) ≡ kind.Make → ⊥
walk_makes_nothing l h = grind arith

-- nor the end
end_makes_nothing : kind.End ≡ kind.Make → ⊥
end_makes_nothing h = grind arith

-- a step from a reader's line makes no node
pub readers_make_nothing : (state : State) (operation : Operation) (l : Line) → IsReaders l → kind_of (line_action state operation l) ≡ kind.Make → ⊥
readers_make_nothing state operation (line.Root l) h e = root_makes_nothing state operation l e
readers_make_nothing state operation (line.Key l) h e = key_makes_nothing state l e
readers_make_nothing state operation (line.Build l) h e = h
readers_make_nothing state operation (line.Swap why s) h e = h
readers_make_nothing state operation (line.Renew l) h e = h
readers_make_nothing state operation (line.Clean l) h e = h
readers_make_nothing state operation (line.Climb l) h e = h
readers_make_nothing state operation (line.Copy l) h e = h
readers_make_nothing state operation (line.Walk l) h e = walk_makes_nothing l e
readers_make_nothing state operation (line.End answer) h e = end_makes_nothing e
readers_make_nothing state operation line.Impossible h e = root_makes_nothing state operation root.Read e

-- a begin that isn't denied on a read-only handle is of a call that needs no writable one
begun_on_read_only : (state : State) (actor : ℕ) (call : Call) (number : Option ℕ) → begin_denial state actor call number ≡ None → (begun_operation state call number).access ≡ ReadOnly →
    needs_writable call ≡ false
begun_on_read_only state actor call number d a = grind arith

-- an operation that begins is a reader if its handle is read-only
pub begun_reads : (state : State) (actor : ℕ) (call : Call) (number : Option ℕ) → begin_denial state actor call number ≡ None → ReadsIfReadOnly (begun_operation state call number)
begun_reads state actor call number d a = (begun_on_read_only state actor call number d a, first_readers call)

-- and stays one after its step
pub gone_reads : (state : State) (operation : Operation) → ReadsIfReadOnly operation → ReadsIfReadOnly (operation_after state operation)
gone_reads state operation h a = let (n, r) = h a in (n, readers state operation operation.line a n r)

-- and with a mark
marked_reads : (m : Option ℕ) (operation : Operation) → ReadsIfReadOnly operation → ReadsIfReadOnly (mark_one m operation)
marked_reads m operation h = rw (mark_only m operation) h

-- nor where it gives up
given_up_reads : (operation : Operation) (answer : Reply) → ReadsIfReadOnly operation → ReadsIfReadOnly (gave_up operation answer)
given_up_reads operation answer h a = ((h a).0, tt)

-- the same in the form of what holds of each operation after a run
abbrev Reads : State → Operation → Type 0
Reads state operation = ReadsIfReadOnly operation

-- on a read-only handle each running operation is a reader
pub each_reads : (limits : Bounds) (steps : List Step) → OfEach Reads (run limits steps)
each_reads limits =
    of_each_along limits Reads (λ steps. begun_reads (run limits steps))
    (λ steps actor operation found g h. marked_reads _ (operation_after (run limits steps) operation) (gone_reads (run limits steps) operation h))
    (λ steps actor operation answer found may h. given_up_reads operation answer h)
    (λ steps s o after m k other operation found h. marked_reads _ operation h)

-- so no step of it makes a node
pub makes_nothing : (limits : Bounds) (steps : List Step) (actor : ℕ) (operation : Operation) → operation_of (run limits steps) actor ≡ Some operation →
    operation.access ≡ ReadOnly → kind_of (action_of (run limits steps) operation) ≡ kind.Make → ⊥
makes_nothing limits steps actor operation found a =
    readers_make_nothing (run limits steps) operation operation.line (of_running Reads (run limits steps) (each_reads limits steps) actor operation found a).1

-- Where an operation of the code stands, as the definition's line.
use Rattle.std.specs.Prelude.{◌≡◌, ℕ, slice_index_or, Bool, true, false, Option, Some, None}
use Rattle.running.specs.Vocabulary.{Call, Reply, Line, Operation, ReadLine, Descriptor, impossible, walked_reply, with_read, ReadAt, IsAskingLine, Table, Asking, Unasked, Met, key_line, ReadsKey}
use Rattle.running.specs.Vocabulary.{CopyCall, CopyTask, copy_line, walk_line}
use Rattle.running.specs.Beneath.history.specs.declared.calls.Call.TheVariants as calls
use Rattle.running.specs.Beneath.history.specs.declared.replies.Reply.TheVariants as reply
use Rattle.running.specs.Beneath.machine_model.specs.declared.lines.Line.TheVariants as line
use Rattle.running.specs.Beneath.machine_model.specs.declared.reading.ReadLine.TheVariants as read
use Rattle.running.specs.Beneath.gcas.specs.declared.read.ReadAt.TheVariants as at
use Rattle.running.specs.Beneath.trie_parts.specs.Tasks.{call_of as key_call}
use Rattle.running.specs.Beneath.root_asking.specs.declared.asking.Asking.TheVariants.{Told}
use Rattle.operate.specs.Steps.{line_behind as line_answered}
use Rattle.snapshot.specs.Copies.{line_behind, ReadsAt as CopyReadsAt}
use Rattle.snapshot.specs.Tasks.{call_of as copy_call}
use Rattle.snapshot.specs.Walks.{call_of as walk_call}
use Rattle.running.specs.declared.job.Job.{Job}
use Rattle.running.specs.declared.job.Program.{Program}
use Rattle.running.specs.declared.job.Program.TheVariants.{Key, Copy, Walk, Close}
use Rattle.running.specs.declared.programs.Programs.{Programs}
use Rattle.running.specs.declared.programs.ProgramAt.{ProgramAt}
use Rattle.running.specs.declared.programs.ProgramAt.TheVariants.{Runs, Answered, Swapped, Walked, Impossible}

-- ---- the call

-- the call with this program on this handle
abbrev pub call_for : ℕ → Program → Call
call_for handle (Key call) = key_call handle call
call_for handle (Copy call) = copy_call handle call
call_for handle (Walk call) = walk_call handle call
call_for handle Close = calls.Close handle

-- what a call that swaps the root goes by
abbrev pub task_for : Job → CopyCall → CopyTask
task_for job call = record { call = call; handle = job.handle; actor = job.actor; operation = job.id; opens = job.opens }

-- the generation of the root that ROOT gave last
abbrev pub generation_in : Program → Programs → Option ℕ
generation_in (Key call) p = p.key.task.generation
generation_in program p = p.copy.generation

-- The operation, whatever else it has, of this job and program, whose programs stand so. Its mark is the actor's in the table of root words.
abbrev pub operation_for : Job → Program → Table → Programs → Operation → Operation
operation_for job program table p operation =
    record operation {
      id = job.id;
      call = call_for job.handle program;
      access = p.key.work.swap.read.access;
      opens = job.opens;
      attempt = p.copy.attempt;
      is_marked = slice_index_or table.marks job.actor false;
      generation = generation_in program p;
    }

-- ---- the line

-- the line of a program that was told this of the root's generation
abbrev pub program_line : Programs → Option ℕ → Program → Line
program_line p root_seen (Key call) = key_line p.key root_seen
program_line p root_seen (Copy call) = copy_line p.key.work.swap.read root_seen p.copy
program_line p root_seen (Walk call) = walk_line p.key.work.swap.read root_seen p.walk
program_line p root_seen Close = line.End reply.Closed

abbrev pub program_line_at : Programs → Option ℕ → Program → ProgramAt → Line
program_line_at p root_seen program Runs = program_line p root_seen program
program_line_at p root_seen program (Answered answer) = line_answered answer
program_line_at p root_seen program (Swapped answer) = line_behind answer
program_line_at p root_seen program (Walked call) = line.End (walked_reply (walk_call 0 call) p.walk.pairs.items)
program_line_at p root_seen program Impossible = impossible

-- a READ that has met this offer while it asked takes it back
abbrev pub met_at : ReadAt → Descriptor → ReadLine
met_at (at.Decide main previous) offer = read.Abort main previous offer
met_at place offer = read.Main

abbrev pub asking_line : Programs → Program → ProgramAt → Asking → Line
asking_line p program at Unasked = program_line_at p None program at
asking_line p program at (Met offer) = with_read (met_at p.key.work.swap.read.at offer) (program_line_at p None program at)
asking_line p program at (Told generation) = program_line_at p (Some generation) program at

-- the definition's line of an operation with this program
abbrev pub line_for : Program → Programs → Line
line_for program p = asking_line p program p.at p.asking

-- the reply, if there is one, is a list of pairs
abbrev pub are_pairs : Option Reply → Bool
are_pairs None = false
are_pairs (Some (reply.Pairs pairs)) = true
are_pairs (Some other) = false

-- only where a READ asks something is known for it
abbrev pub IsWaiting : Asking → Line → Type 0
IsWaiting Unasked l = Unit {0}
IsWaiting (Met offer) l = IsAskingLine l
IsWaiting (Told generation) l = IsAskingLine l

-- a call on one key was begun as such
abbrev pub IsBegun : Program → Programs → Type 0
IsBegun (Key call) p = p.key.task.call ≡ call
IsBegun program p = Unit {0}

-- it is no call on one key
abbrev pub IsNoKeyCall : Program → Type 0
IsNoKeyCall (Key call) = ⊥
IsNoKeyCall program = Unit {0}

-- while an offer is completed the READ is one of its root
abbrev pub ReadsOn : Program → Programs → Type 0
ReadsOn (Key call) p = ReadsKey p.key
ReadsOn (Copy call) p = CopyReadsAt p.copy.at p.key.work.swap.read
ReadsOn program p = Unit {0}

abbrev pub ReadsIn : ProgramAt → Program → Programs → Type 0
ReadsIn Runs program p = ReadsOn program p
ReadsIn at program p = Unit {0}

pub record IsSound (program : Program) (p : Programs) : Type 0 where
  pub begun : IsBegun program p
  pub waits : IsWaiting p.asking (program_line_at p None program p.at)
  pub reads : ReadsIn p.at program p

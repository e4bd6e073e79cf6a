-- What a step of an operation comes to, does and asks.
use Rattle.std.specs.Prelude.{◌≡◌, ℕ, Bool, false, ◌&&◌, ◌<◌, ◌-◌, ◌^◌, None}
use Rattle.running.specs.Vocabulary.{Kind, Action, Line, Operation, attempt_after, kind_of, line_action, line_after, read_of, generation_from, State, committed_in, counts_from, given_in, ReadAt}
use Rattle.running.specs.Vocabulary.{given_so, ActsInAll, CanAbortOn, Table, acted_table, abort_of, CanKey, CanCopy, IsReadyBeside, drawn_by, with_generation, CanWalk}
use Rattle.running.specs.Beneath.epochs.specs.Memories.{Memory}
use Rattle.snapshot.specs.Walks.{HasRoom}
use Rattle.running.specs.declared.job.Job.{Job}
use Rattle.running.specs.declared.job.Program.{Program}
use Rattle.running.specs.declared.job.Program.TheVariants.{Key, Copy, Walk, Close}
use Rattle.running.specs.declared.programs.Programs.{Programs}
use Rattle.running.specs.declared.programs.ProgramAt.{ProgramAt}
use Rattle.running.specs.declared.programs.ProgramAt.TheVariants.{Runs}
use Rattle.running.specs.declared.ran.Ran.{Ran}
use Rattle.running.specs.declared.ran.Ran.TheVariants.{Reading, Beside}
use Rattle.running.specs.Places.{IsSound, generation_in, line_for, operation_for}
use Rattle.running.specs.Taking.{Taken, committed_if, counts_if, given_if, if_reading}

-- ---- what it comes to

-- a step of this kind of a call on one key, which was in a READ or not, and behind which its READ stands here
abbrev pub taken_in : Bool → Kind → ReadAt → Taken
taken_in reading k place =
    record { kind = k; committed = committed_if k (given_so place); given = if_reading reading (given_if k (given_so place)); counts = reading && counts_if k }

-- a step of this kind of any other call, behind which the operation's READ stands here
abbrev pub taken_so : Kind → ReadAt → Taken
taken_so k place = record { kind = k; committed = committed_if k (given_so place); given = given_if k (given_so place); counts = counts_if k }

-- a step of this kind of no READ
abbrev pub taken_beside : Kind → Taken
taken_beside k = record { kind = k; committed = None; given = None; counts = false }

-- what is told in few words: the step, behind which the operation's READ stands here
abbrev pub outcome_of : Ran → ReadAt → Taken
outcome_of (Reading k) place = taken_so k place
outcome_of (Beside k) place = taken_beside k

-- A step of the definition from this line is this one, and leads to that line.
pub record Takes (state : State) (operation : Operation) (before : Line) (taken : Taken) (after : Line) : Type 0 where
  pub kind : kind_of (line_action state operation before) ≡ taken.kind
  pub line : line_after state operation before ≡ after
  pub committed : committed_in state (read_of before) ≡ taken.committed
  pub given : given_in state operation (read_of before) ≡ taken.given
  pub counts : counts_from (line_action state operation before) ≡ taken.counts

-- ---- what it does

-- what a step changes: the heap, the root words, the next generation to be drawn, and where the programs stand
pub record Scene : Type 0 where
  pub memory : Memory
  pub table : Table
  pub generation : ℕ
  pub programs : Programs

abbrev pub scene : Memory → Table → ℕ → Programs → Scene
scene memory table generation programs = record { memory = memory; table = table; generation = generation; programs = programs }

-- the state, whatever else it has, in which all this stands
abbrev pub at_scene : State → Scene → State
at_scene state scene =
    record state { heap = scene.memory.heap; roots = scene.table.roots; limits = record state.limits { hash = scene.programs.key.task.hashes } }

abbrev pub operation_in : Job → Program → Scene → Operation → Operation
operation_in job program scene operation = operation_for job program scene.table scene.programs operation

-- The action of an operation of this job leads from one scene to another.
pub record Changes (job : Job) (before : Scene) (action : Action) (after : Scene) : Type 0 where
  pub acts : ActsInAll before.memory before.table.roots before.programs.key.work.private (with_generation before.generation action) after.memory after.table.roots after.programs.key.work.private
  pub table : after.table ≡ acted_table before.table job.handle job.actor action
  pub drawn : after.generation ≡ drawn_by before.memory.heap before.generation action
  pub attempt : after.programs.copy.attempt ≡ attempt_after before.programs.copy.attempt action

-- The step from this line, of this job and program, was this one, and leads from one scene to another.
pub record Does (job : Job) (program : Program) (l : Line) (before : Scene) (taken : Taken) (after : Scene) : Type 0 where
  pub takes : (state : State) (operation : Operation) → Takes (at_scene state before) (operation_in job program before operation) l taken (line_for program after.programs)
  pub changes : (state : State) (operation : Operation) → Changes job before (line_action (at_scene state before) (operation_in job program before operation) l) after
  pub generation : (state : State) (operation : Operation) → generation_in program after.programs ≡ generation_from (at_scene state before) (operation_in job program before operation) l
  pub access : after.programs.key.work.swap.read.access ≡ before.programs.key.work.swap.read.access
  pub hashes : after.programs.key.task.hashes ≡ before.programs.key.task.hashes
  pub sound : IsSound program after.programs

-- ---- what it asks

abbrev pub CanProgram : Scene → Program → Type 0
CanProgram scene (Key call) = CanKey scene.memory scene.table scene.programs.key
CanProgram scene (Copy call) = CanCopy scene.memory scene.table scene.programs.key.work scene.generation scene.programs.copy
CanProgram scene (Walk call) = CanWalk scene.memory.heap scene.programs.key.work.swap.read scene.programs.walk
CanProgram scene Close = Unit {0}

abbrev pub CanProgramAt : Scene → Program → ProgramAt → Type 0
CanProgramAt scene program Runs = CanProgram scene program
CanProgramAt scene program at = Unit {0}

-- What is going to be changed, or referred to, is in use, and of its kind; what lies in place has room; and what is held can be counted.
pub record CanStep (scene : Scene) (program : Program) : Type 0 where
  pub runs : CanProgramAt scene program scene.programs.at
  pub abort : CanAbortOn scene.memory scene.table (abort_of scene.programs.asking)
  pub ready : IsReadyBeside scene.memory scene.table.roots scene.programs.key.work.private
  pub attempts : scene.programs.copy.attempt < 2 ^ 64 - 1
  pub generations : scene.generation < 2 ^ 64 - 1

-- the program is a walk
abbrev pub IsWalk : Program → Type 0
IsWalk (Walk call) = Unit {0}
IsWalk program = ⊥

-- a walk has room in its lists
abbrev pub RoomFor : Program → Programs → Type 0
RoomFor (Walk call) p = HasRoom p.walk
RoomFor program p = Unit {0}

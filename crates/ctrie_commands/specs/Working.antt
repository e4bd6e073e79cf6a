-- What a thread does with the lines of a script that are its actor's.
use Rattle.std.specs.Prelude.{◌≡◌, ℕ, ◌+◌, ◌<◌, ◌≤◌, ◌==◌, ◌⊎◌, Bool, true, false, List, [], ◌∷◌, ◌++◌, map, length, slice_get, Some, Result, Ok, Err, All, sum_by, count_by, if◌then◌else◌}
use Rattle.std.specs.Prelude.{None as Unchosen}
use Rattle.std.specs.List.{flat_map, AllZip, Contains}
use Rattle.std.specs.declared.alloc.AllocError.{AllocError}
use Rattle.std.specs.Global.{Vec}
use Rattle.ctrie_base.specs.declared.refusals.Refusal.{Refusal}
use Rattle.history.specs.declared.calls.Call.{Call}
use Rattle.history.specs.Histories.{IsRunning}
use Rattle.ctrie_base.specs.declared.refusals.Refusal.TheVariants.{Spent}
use Rattle.ctrie_commands.specs.Beneath.machine_model.specs.declared.steps.Step.TheVariants as step
use Rattle.ctrie_commands.specs.Beneath.machine_model.specs.Machine.{next}
use Rattle.ctrie_commands.specs.Beneath.proof_runs.specs.Machines.{Taken, past_of, state_of}
use Rattle.lock_runner.specs.declared.accounts.Answer.{Answer}
use Rattle.lock_runner.specs.declared.accounts.Running.{Running}
use Rattle.lock_runner.specs.ActorHistory.Answers.{AreAnswersOf, IsBegunIn, RunsJust}
use Rattle.lock_runner.specs.Boards.{GoesOn}
use Rattle.lock_runner.specs.Seats.{Seated, IsIdle}
use Rattle.lock_runner.specs.Stepping.{IsDenied}
use Rattle.ctrie_commands.specs.Beneath.script_text.specs.declared.thread_lines.ThreadLine.{ThreadLine}
use Rattle.ctrie_commands.specs.Beneath.script_text.specs.declared.thread_lines.ThreadLine.TheVariants.{Do, Sweep}
use Rattle.ctrie_commands.specs.Beneath.script_text.specs.Threads.Reading.{Reading}
use Rattle.script_commands.specs.Reports.{denied_lines}
use Rattle.ctrie_commands.specs.declared.working.Worker.{Worker}

-- ---- what the lines name

-- the calls that a line, and that these lines, name for an actor
abbrev pub calls_in : ℕ → ThreadLine → List Call
calls_in actor (Do owner call) = if owner == actor then call ∷ [] else []
calls_in actor (Sweep times) = []

abbrev pub calls_of : ℕ → List ThreadLine → List Call
calls_of actor lines = flat_map (λ line. calls_in actor line) lines

-- how many steps of the sweep a line, and these lines, name
abbrev pub times_in : ThreadLine → ℕ
times_in (Do owner call) = 0
times_in (Sweep times) = times

abbrev pub times_of : List ThreadLine → ℕ
times_of lines = sum_by times_in lines

-- how many of these lines name steps of the sweep
abbrev pub names_sweep : ThreadLine → Bool
names_sweep (Do owner call) = false
names_sweep (Sweep times) = true

abbrev pub sweep_lines : List ThreadLine → ℕ
sweep_lines lines = count_by names_sweep lines

-- ---- what came of them

-- the calls that were answered
abbrev pub answered_calls : List Answer → List Call
answered_calls answers = map (λ answer. answer.call) answers

-- on the way to this board one was so
abbrev pub OnTheWay : (Taken → Type 0) → Taken → Type 0
OnTheWay IsSo board = (seen : Taken) × (board.limits ≡ seen.limits) × GoesOn seen.steps board.steps × IsSo seen

-- each operation of the actor that has begun has ended
abbrev pub RunsNothing : ℕ → Taken → Type 0
RunsNothing actor board = (id : ℕ) → ¬ IsRunning (past_of board).events id actor

-- the actor's call has begun and not ended
abbrev pub RunsCall : ℕ → Call → Taken → Type 0
RunsCall actor call board = (operation : Running) × IsBegunIn (past_of board).events actor operation × (operation.call ≡ call)

-- The definition denies the actor's call, and none of the actor's runs, unless an earlier line was told that the machine has taken all its steps; or the
-- call has begun, and its next step is denied since the machine has taken all its steps.
abbrev pub Denies : ℕ → List Refusal → Call → Refusal → Taken → Type 0
Denies actor denied call refusal board =
    ((RunsNothing actor board ⊎ Contains denied Spent) × (next (state_of board) (step.Begin actor call Unchosen) ≡ Err refusal))
    ⊎ (RunsCall actor call board × (next (state_of board) (step.Go actor) ≡ Err Spent) × (refusal ≡ Spent))

-- just these calls of the actor have been answered
abbrev pub HasAnswered : ℕ → List Call → Taken → Type 0
HasAnswered actor calls board = (answers : List Answer) × AreAnswersOf actor (past_of board).events answers × (answered_calls answers ≡ calls)

-- it denies the call so where just these calls of the actor have been answered, and earlier ones were denied for these reasons
abbrev pub DeniesBehind : ℕ → List Call → List Refusal → Call → Refusal → Taken → Type 0
DeniesBehind actor answered denied call refusal board = Denies actor denied call refusal board × HasAnswered actor answered board

-- the definition denies a step of the sweep
abbrev pub DeniesSweep : Refusal → Taken → Type 0
DeniesSweep refusal board = next (state_of board) step.Sweep ≡ Err refusal

-- The actor's calls were performed on the way to this board, one after the other: these of them were answered, and the others were denied, for these
-- reasons, each where just the calls before it that were answered had been, and no other call of the actor's ran, unless an earlier one was told that the
-- machine has taken all its steps.
pub data Performed (actor : ℕ) (board : Taken) : List Call → List Call → List Refusal → Type 0 where
  None : Performed actor board [] [] []
  Answered : (calls answered : List Call) (denied : List Refusal) (call : Call) → Performed actor board calls answered denied →
      Performed actor board (calls ++ call ∷ []) (answered ++ call ∷ []) denied
  Denied : (calls answered : List Call) (denied : List Refusal) (call : Call) (refusal : Refusal) → Performed actor board calls answered denied →
      OnTheWay (DeniesBehind actor answered denied call refusal) board → Performed actor board (calls ++ call ∷ []) answered (denied ++ refusal ∷ [])

-- ---- one thread

-- a seat that was not used
pub record IsUnused (seat : Seated) : Type 0 where
  pub answers : seat.answers ≡ []
  pub sweeps : seat.sweeps ≡ 0
  pub heard : seat.heard ≡ 0
  pub idle : IsIdle seat

-- the seat's actor runs this call
abbrev pub SeatRuns : Call → Seated → Type 0
SeatRuns call seat = (operation : Running) × (seat.running ≡ Some operation) × (operation.call ≡ call)

-- the call didn't begin, since the definition denies it, and what ran before runs still; or it runs, and the machine has taken all its steps
abbrev pub WasDenied : Call → Refusal → Seated → Seated → Type 0
WasDenied call refusal before after =
    ((after.running ≡ before.running) × IsDenied after (step.Begin after.actor call Unchosen) refusal)
    ⊎ (SeatRuns call after × IsDenied after (step.Go after.actor) Spent × (refusal ≡ Spent))

-- the answers that the seat has, and what it runs, are all that the machine tells of its actor
abbrev pub IsAllTold : Seated → Type 0
IsAllTold seat = AreAnswersOf seat.actor (past_of seat.seen).events seat.answers × RunsJust seat.actor (past_of seat.seen).events seat.running

-- one call more was performed
abbrev pub HasPerformed : Call → Worker → Worker → Type 0
HasPerformed call before after =
    ((answer : Answer) × (after.seat.answers ≡ before.seat.answers ++ answer ∷ []) × (answer.call ≡ call) × (after.denied.items ≡ before.denied.items)
    × IsIdle after.seat)
    ⊎ ((after.seat.answers ≡ before.seat.answers) × (refusal : Refusal) × (after.denied.items ≡ before.denied.items ++ refusal ∷ [])
    × WasDenied call refusal before.seat after.seat × IsAllTold after.seat)

-- the call that a line names, if it names one, was performed
abbrev pub HasPerformedLine : List Call → Worker → Worker → Type 0
HasPerformedLine [] before after =
    (after.seat.answers ≡ before.seat.answers) × (after.denied.items ≡ before.denied.items) × (after.seat.running ≡ before.seat.running)
HasPerformedLine (call ∷ more) before after = HasPerformed call before after

-- so many steps of the sweep were taken, or it was denied
abbrev pub HasSwept : ℕ → Worker → Worker → Type 0
HasSwept times before after =
    ((after.seat.sweeps ≡ before.seat.sweeps + times) × (after.denied.items ≡ before.denied.items))
    ⊎ ((after.seat.sweeps ≤ before.seat.sweeps + times) × (refusal : Refusal) × (after.denied.items ≡ before.denied.items ++ refusal ∷ [])
    × DeniesSweep refusal after.seat.seen)

-- a line that names steps of the sweep was carried out so, and any other left aside
abbrev pub HasSweptLine : ThreadLine → Worker → Worker → Type 0
HasSweptLine (Do owner call) before after = (after.seat.sweeps ≡ before.seat.sweeps) × (after.denied.items ≡ before.denied.items)
HasSweptLine (Sweep times) before after = HasSwept times before after

-- the actor's calls in these lines were performed, by a seat that doesn't sweep
abbrev pub HasPerformedAll : ℕ → List ThreadLine → Worker → Type 0
HasPerformedAll actor lines worker = Performed actor worker.seat.seen (calls_of actor lines) (answered_calls worker.seat.answers) worker.denied.items

-- nothing runs still, unless it was told that the machine has taken all its steps
abbrev pub HasEnded : Worker → Type 0
HasEnded worker = IsIdle worker.seat ⊎ Contains worker.denied.items Spent

-- So many steps of the sweep were taken on the way to this board, and these denied: none but the ones that the lines name, and all of them unless one was
-- denied, for each line one at most.
pub record Swept (board : Taken) (lines : List ThreadLine) (number : ℕ) (denied : List Refusal) : Type 0 where
  pub all : denied ≡ [] → number ≡ times_of lines
  pub most : number ≤ times_of lines
  pub fewer : length denied ≤ sweep_lines lines
  pub each : All (λ refusal. OnTheWay (DeniesSweep refusal) board) denied

-- the steps of the sweep that these lines name were taken
abbrev pub HasSweptAll : List ThreadLine → Worker → Type 0
HasSweptAll lines worker = Swept worker.seat.seen lines worker.seat.sweeps worker.denied.items

-- What a thread does with a script: the calls that its lines name for an actor, or for the last actor the sweep's steps.
pub record HasWorked (script : Reading) (seat : Seated) (worker : Worker) : Type 0 where
  pub runner : worker.seat.runner ≡ seat.runner
  pub actor : worker.seat.actor ≡ seat.actor
  pub calls : seat.actor ≤ script.limits.actors → HasPerformedAll seat.actor script.lines worker × (worker.seat.sweeps ≡ 0) × HasEnded worker
  pub sweeps : script.limits.actors < seat.actor → HasSweptAll script.lines worker × (worker.seat.answers ≡ []) × IsIdle worker.seat

-- what was done with each of these seats, in their order
abbrev pub HaveWorked : Reading → List Seated → List Worker → Type 0
HaveWorked script seats workers = AllZip (HasWorked script) seats workers

-- ---- all threads

-- one of these lines names a call for the actor
abbrev pub IsOwn : ℕ → ThreadLine → Type 0
IsOwn actor (Do owner call) = owner ≡ actor
IsOwn actor (Sweep times) = ⊥

abbrev pub NamesCall : ℕ → List ThreadLine → Type 0
NamesCall actor lines = (k : ℕ) × (line : ThreadLine) × (slice_get lines k ≡ Some line) × IsOwn actor line

-- the actor has something to do: calls, or the steps of the sweep
abbrev pub HasWork : Reading → ℕ → Type 0
HasWork script actor = (script.limits.actors < actor) ⊎ NamesCall actor script.lines

-- in a group the last seat alone may have something to do
abbrev pub IsGroup : Reading → List Seated → Type 0
IsGroup script seats = (k : ℕ) (seat : Seated) → slice_get seats k ≡ Some seat → k + 1 < length seats → ¬ HasWork script seat.actor

-- the seats of all groups, in their order
abbrev pub all_seats : List (Vec Seated) → List Seated
all_seats groups = flat_map (λ group. group.items) groups

-- one thread for each group, which has done so with its seats unless a growth was refused
pub record GroupsHaveWorked (script : Reading) (groups : List (Vec Seated)) (results : List (Result (Vec Worker) AllocError)) : Type 0 where
  pub number : length results ≡ length groups
  pub each : (k : ℕ) (group : Vec Seated) (workers : Vec Worker) → slice_get groups k ≡ Some group → slice_get results k ≡ Some (Ok workers) →
      HaveWorked script group.items workers.items

-- all of them have, and these are their workers, in their order
pub record AreJoined (results : List (Result (Vec Worker) AllocError)) (workers : List Worker) : Type 0 where
  pub groups : List (Vec Worker)
  pub all : results ≡ map Ok groups
  pub workers_are : workers ≡ flat_map (λ group. group.items) groups

-- the workers' seats, and the lines of their denials
pub record AreGathered (workers : List Worker) (seats : List Seated) (denied : List ℕ) : Type 0 where
  pub seats_are : seats ≡ map (λ worker. worker.seat) workers
  pub denied_are : denied ≡ flat_map (λ worker. denied_lines worker.seat.actor worker.denied.items) workers

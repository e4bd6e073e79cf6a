-- What a script for threads comes to.
use Rattle.std.specs.List.{Contains}
use Rattle.std.specs.Prelude.{◌≡◌, ℕ, ◌+◌, ◌<◌, ◌⊎◌, true, List, [], ◌∷◌, ◌++◌, length, Option, Some, Ok, slice_get}
use Rattle.ctrie_base.specs.declared.refusals.Refusal.{Refusal}
use Rattle.ctrie_base.specs.declared.refusals.Refusal.TheVariants.{Spent}
use Rattle.ctrie_base.specs.declared.hashes.HashKind.{HashKind}
use Rattle.ctrie_commands.specs.Beneath.history_commands.specs.declared.faults.Fault.{Fault}
use Rattle.ctrie_commands.specs.Beneath.history_commands.specs.declared.faults.Fault.TheVariants.{Line}
use Rattle.ctrie_commands.specs.Beneath.history_commands.specs.Faults.{IsFault, IsOf}
use Rattle.ctrie_commands.specs.Beneath.history_commands.specs.Written.{AppendsSuch, AppendsPartOf}
use Rattle.ctrie_commands.specs.Beneath.machine_model.specs.declared.steps.Limits.{Limits}
use Rattle.ctrie_commands.specs.Beneath.proof_runs.specs.Machines.{Taken, past_of, AreTaken}
use Rattle.lock_runner.specs.declared.accounts.Answer.{Answer}
use Rattle.lock_runner.specs.ActorHistory.Answers.{AreAnswersOf}
use Rattle.lock_runner.specs.Boards.{sweeps_in}
use Rattle.ctrie_commands.specs.Beneath.script_text.specs.Grammar.{IsShort}
use Rattle.ctrie_commands.specs.Beneath.script_text.specs.Threads.Grammar.{IsThreadSpelling}
use Rattle.ctrie_commands.specs.Beneath.script_text.specs.Threads.Reading.{Reading, thread_script_of}
use Rattle.script_commands.specs.Recorded.{Recorded, recorded_in}
use Rattle.script_commands.specs.Reports.{line, hash_text, event_lines, last_lines, denied_lines}
use Rattle.ctrie_commands.specs.Beneath.history_commands.specs.Verdicts.{IsVerdict}
use Rattle.script_commands.specs.Legality.{told_in, IsLegalText}
use Rattle.ctrie_commands.specs.Working.{RunsNothing, calls_of, Performed, answered_calls, Swept}

-- ---- what was done

-- the sizes of the machine: one more actor takes the steps of the sweep
abbrev pub with_sweeper : Limits → Limits
with_sweeper limits = record limits { actors = limits.actors + 1 }

-- The answers of the actor in the history are those of its calls in the lines, in their order, but for those that the definition denied. Nothing runs
-- still, unless the machine has taken all its steps.
abbrev pub IsPerformedBy : ℕ → Reading → Taken → List Refusal → Type 0
IsPerformedBy actor script board denied =
    (answers : List Answer) × AreAnswersOf actor (past_of board).events answers
    × Performed actor board (calls_of actor script.lines) (answered_calls answers) denied × (RunsNothing actor board ⊎ Contains denied Spent)

-- the actor performed nothing, and the steps of the sweep are those that the lines name, unless the definition denied one, for each line one at most
abbrev pub IsSweptBy : ℕ → Reading → Taken → List Refusal → Type 0
IsSweptBy actor script board denied =
    AreAnswersOf actor (past_of board).events [] × Swept board script.lines (sweeps_in board) denied × RunsNothing actor board

-- The machine has taken each of its steps. The denials of actor k + 1 stand at the place k, the sweep's behind all others.
-- Each actor's calls were performed in the order of the lines, and the last actor took the steps of the sweep.
pub record IsCarriedOut (script : Reading) (board : Taken) (denials : List (List Refusal)) : Type 0 where
  pub limits : board.limits ≡ with_sweeper script.limits
  pub taken : AreTaken board.limits board.steps
  pub number : length denials ≡ script.limits.actors + 1
  pub calls : (k : ℕ) (denied : List Refusal) → k < script.limits.actors → slice_get denials k ≡ Some denied → IsPerformedBy (k + 1) script board denied
  pub sweeps : (denied : List Refusal) → slice_get denials script.limits.actors ≡ Some denied → IsSweptBy (script.limits.actors + 1) script board denied

-- ---- the report

-- a line for each denial of this actor and of all behind it
abbrev pub all_denied : ℕ → List (List Refusal) → List ℕ
all_denied actor [] = []
all_denied actor (denied ∷ more) = denied_lines actor denied ++ all_denied (actor + 1) more

-- the report: all events, behind them the denied lines by rising actor, and the last lines of the state
abbrev pub thread_report : HashKind → Recorded → List (List Refusal) → List ℕ
thread_report hash last denials = line (hash_text hash) ++ (event_lines last.past.events ++ (all_denied 1 denials ++ last_lines last))

-- ---- what is answered and written

-- These bytes are the report of a run in which the script was carried out. They spell the history and the order of that run, and the order is legal.
pub record IsReportOf (script : Reading) (bytes : List ℕ) : Type 0 where
  pub board : Taken
  pub denials : List (List Refusal)
  pub done : IsCarriedOut script board denials
  pub whole : bytes ≡ thread_report script.limits.hash (recorded_in board) denials
  pub legal : IsLegalText bytes (told_in script.limits.hash (past_of board))

-- the text spells this script for threads by the grammar, and is read so
abbrev pub SaysThreadScript : List ℕ → Reading → Type 0
SaysThreadScript text script = IsThreadSpelling text script × (thread_script_of text ≡ Ok script)

-- the text is a script for threads without a fault, and the bytes are such a report, of which a check answers true
abbrev pub IsThreadReport : List ℕ → List ℕ → Type 0
IsThreadReport text bytes = (script : Reading) × SaysThreadScript text script × IsReportOf script bytes × IsVerdict bytes true

-- the text spells no script for threads by the grammar, unless in too many lines
abbrev pub SpellsNoThreadScript : List ℕ → Type 0
SpellsNoThreadScript text = (script : Reading) → IsThreadSpelling text script → ¬ IsShort text

-- the text spells no script for threads, unless in too many lines, and its first line with a fault is this one, with this fault
abbrev pub HasThreadFault : List ℕ → ℕ → Refusal → Type 0
HasThreadFault text number refusal = SpellsNoThreadScript text × IsFault (thread_script_of text) number refusal

-- the fault is want of memory, or that of the text's line
abbrev pub IsOfThreadScript : List ℕ → Fault → Type 0
IsOfThreadScript text (Line number refusal) = HasThreadFault text number refusal
IsOfThreadScript text fault = IsOf (thread_script_of text) fault

-- known bytes grow by such a report, and by a beginning of one
abbrev pub AppendsThreadReport : Option (List ℕ) → Option (List ℕ) → List ℕ → Type 0
AppendsThreadReport old new text = AppendsSuch (IsThreadReport text) old new

abbrev pub AppendsThreadReportPart : Option (List ℕ) → Option (List ℕ) → List ℕ → Type 0
AppendsThreadReportPart old new text = AppendsPartOf (IsThreadReport text) old new

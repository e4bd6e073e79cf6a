-- The report of what threads did, from their workers and the record.
use Rattle.std.proofs.Common.{◌≡◌, ℕ, zero, suc, ◌+◌, ◌-◌, ◌<◌, ◌≤◌, List, [], ◌∷◌, ◌++◌, map, inl, inr, ◌⊎◌, refl, sym, ap, subst, ◌∙◌, arith}
use Rattle.std.specs.Prelude.{Ok, Some, slice_get, All, sum_by}
use Rattle.std.proofs.lemmas.List.Elements.{All-nil, All-cons, All-same, All-map}
use Rattle.std.proofs.lemmas.List.{length-map}
use Rattle.std.specs.List.{Contains}
use Rattle.ctrie_base.specs.declared.refusals.Refusal.{Refusal}
use Rattle.ctrie_base.specs.declared.refusals.Refusal.TheVariants.{Spent}
use Rattle.ctrie_base.specs.declared.hashes.HashKind.{HashKind}
use Rattle.history.proofs.Places.{at_within}
use Rattle.ctrie_commands.specs.Beneath.history_text.specs.Grammar.{EventFits}
use Rattle.ctrie_commands.specs.Beneath.machine_model.specs.declared.steps.Limits.{Limits}
use Rattle.lock_runner.specs.ActorHistory.Answers.{AreAnswersOf, RunsJust}
use Rattle.script_commands.specs.Recorded.{recorded_in}
use Rattle.ctrie_commands.specs.Beneath.proof_runs.specs.Machines.{Taken, past_of}
use Rattle.ctrie_commands.specs.Beneath.step_machine.specs.Records.{IsRecordOf}
use Rattle.ctrie_commands.specs.Beneath.step_machine.specs.declared.records.Record.{Record}
use Rattle.lock_runner.specs.Boards.{sweeps_in}
use Rattle.lock_runner.specs.Seats.{Room, Seated, IsIdle, IsSeatOf, AreSeatsOf}
use Rattle.lock_runner.specs.Opening.{IsMade}
use Rattle.lock_runner.specs.Finishing.{IsHere, IsMissing, IsGathered, IsFinished, recorded}
use Rattle.ctrie_commands.specs.Beneath.script_text.specs.Threads.Reading.{Reading}
use Rattle.ctrie_commands.specs.declared.working.Worker.{Worker}
use Rattle.script_commands.specs.Reports.{line, hash_text, event_lines, last_lines, record_report}
use Rattle.ctrie_commands.specs.Working.{RunsNothing, calls_of, Performed, answered_calls, HasEnded, Swept}
use Rattle.ctrie_commands.specs.Threads.{with_sweeper, IsPerformedBy, IsSweptBy, IsCarriedOut, all_denied, thread_report, IsReportOf}
use Rattle.ctrie_commands.proofs.ThreadReports.{record_text_legal}
use Rattle.ctrie_commands.proofs.Advancing.{performed_later, nothing_runs}
use Rattle.ctrie_commands.proofs.Swept.{swept_later}
use Rattle.ctrie_commands.proofs.Ranks.{AreRanked, from_map, to_map, swept_by_last}

-- ---- all seats came back

all_of : {A : Type 0} (P : A → Type 0) (xs : List A) → ((k : ℕ) (x : A) → slice_get xs k ≡ Some x → P x) → All P xs
all_of P [] each = All-nil P
all_of P (x ∷ xs) each = All-cons P x xs (each zero x refl) (all_of P xs (λ k y e. each (suc k) y e))

pub seats_came : (script : Reading) (runner : Room) (workers : List Worker) (seats : List Seated) → AreRanked script runner.id workers → seats ≡ map (λ (w : Worker). w.seat) workers →
    AreSeatsOf runner seats
seats_came script runner workers seats ranks are =
    All-same (λ (s : Seated). IsSeatOf runner s) seats _ are
    (All-map (λ (s : Seated). IsSeatOf runner s) (λ (w : Worker). w.seat) workers (all_of (λ (w : Worker). IsSeatOf runner w.seat) workers (λ k w e. (ranks.each k w e).runner)))

is_here : (script : Reading) (runner : Room) (workers : List Worker) (seats : List Seated) (actor : ℕ) → AreRanked script runner.id workers → seats ≡ map (λ (w : Worker). w.seat) workers →
    1 ≤ actor → actor ≤ script.limits.actors + 1 → IsHere actor seats
is_here script runner workers seats actor ranks are low high =
    let at = at_within workers (actor - 1) (omega (arith, ranks.number)) in (
      actor - 1,
      at.0.seat,
      ap (λ ss. slice_get ss (actor - 1)) are ∙ to_map (λ (w : Worker). w.seat) workers (actor - 1) at.0 at.1,
      (ranks.each (actor - 1) at.0 at.1).actor ∙ omega arith,
    )

pub none_missing : (script : Reading) (limits : Limits) (runner : Room) (made : List Seated) (workers : List Worker) (seats : List Seated) → IsMade limits (script.limits.actors + 1) runner made →
    AreRanked script runner.id workers → seats ≡ map (λ (w : Worker). w.seat) workers → IsMissing runner.seats seats → ⊥
none_missing script limits runner made workers seats is ranks are (actor, low, high, missing) =
    missing (is_here script runner workers seats actor ranks are low (omega (arith, is.number, high)))

-- ---- what was done

-- what the seat doesn't run its actor doesn't
runs_nothing : (board : Taken) (seats : List Seated) (runner : Room) (k actor : ℕ) (seat : Seated) → IsGathered runner seats board → slice_get seats k ≡ Some seat →
    seat.actor ≡ actor → IsIdle seat → RunsNothing actor board
runs_nothing board seats runner k actor seat gathered at owns idle =
    nothing_runs actor board seat (subst (λ a. RunsJust a (past_of board).events seat.running) owns (gathered.running k seat at)) idle

runs_unless : (board : Taken) (seats : List Seated) (runner : Room) (k actor : ℕ) (worker : Worker) → IsGathered runner seats board → slice_get seats k ≡ Some worker.seat →
    worker.seat.actor ≡ actor → HasEnded worker → RunsNothing actor board ⊎ Contains worker.denied.items Spent
runs_unless board seats runner k actor worker gathered at owns (inl idle) = inl (runs_nothing board seats runner k actor worker.seat gathered at owns idle)
runs_unless board seats runner k actor worker gathered at owns (inr told) = inr told

calls_done : (script : Reading) (runner : Room) (workers : List Worker) (seats : List Seated) (board : Taken) (k : ℕ) (denied : List Refusal) → AreRanked script runner.id workers →
    seats ≡ map (λ (w : Worker). w.seat) workers → IsGathered runner seats board → k < script.limits.actors →
    slice_get (map (λ (w : Worker). w.denied.items) workers) k ≡ Some denied → IsPerformedBy (k + 1) script board denied
calls_done script runner workers seats board k denied ranks are gathered below at =
    let found = from_map (λ (w : Worker). w.denied.items) workers k denied at in
    let worker : Worker = found.0 in
    let rank = ranks.each k worker found.1 in
    let seat : slice_get seats k ≡ Some worker.seat = ap (λ ss. slice_get ss k) are ∙ to_map (λ (w : Worker). w.seat) workers k worker found.1 in (
      worker.seat.answers,
      subst (λ a. AreAnswersOf a (past_of board).events worker.seat.answers) rank.actor (gathered.answers k worker.seat seat),
      performed_later (k + 1) worker.seat.seen board (calls_of (k + 1) script.lines) (answered_calls worker.seat.answers) denied (gathered.sizes k worker.seat seat)
          (gathered.steps k worker.seat seat)
          (subst (λ ds. Performed (k + 1) worker.seat.seen (calls_of (k + 1) script.lines) (answered_calls worker.seat.answers) ds) found.2 (rank.calls below).0),
      subst (λ ds. RunsNothing (k + 1) board ⊎ Contains ds Spent) found.2 (runs_unless board seats runner k (k + 1) worker gathered seat rank.actor (rank.calls below).2),
    )

sweeps_done : (script : Reading) (runner : Room) (workers : List Worker) (seats : List Seated) (board : Taken) (denied : List Refusal) → AreRanked script runner.id workers →
    seats ≡ map (λ (w : Worker). w.seat) workers → IsGathered runner seats board → slice_get (map (λ (w : Worker). w.denied.items) workers) script.limits.actors ≡ Some denied →
    IsSweptBy (script.limits.actors + 1) script board denied
sweeps_done script runner workers seats board denied ranks are gathered at =
    let n : ℕ = script.limits.actors in
    let found = from_map (λ (w : Worker). w.denied.items) workers n denied at in
    let worker : Worker = found.0 in
    let rank = ranks.each n worker found.1 in
    let swept = rank.sweeps refl in
    let seat : slice_get seats n ≡ Some worker.seat = ap (λ ss. slice_get ss n) are ∙ to_map (λ (w : Worker). w.seat) workers n worker found.1 in
    let all : sweeps_in board ≡ worker.seat.sweeps = gathered.sweeps ∙ ap (λ ss. sum_by (λ (s : Seated). s.sweeps) ss) are
    ∙ swept_by_last workers n worker ranks.number (λ k w below e. ((ranks.each k w e).calls below).1) found.1 in (
      subst (λ xs. AreAnswersOf (n + 1) (past_of board).events xs) swept.1
          (subst (λ a. AreAnswersOf a (past_of board).events worker.seat.answers) rank.actor (gathered.answers n worker.seat seat)),
      swept_later worker.seat.seen board script.lines (sweeps_in board) denied (gathered.sizes n worker.seat seat) (gathered.steps n worker.seat seat)
          (subst (λ m. Swept worker.seat.seen script.lines m denied) (sym all) (subst (λ ds. Swept worker.seat.seen script.lines worker.seat.sweeps ds) found.2 swept.0)),
      runs_nothing board seats runner n (n + 1) worker.seat gathered seat rank.actor swept.2,
    )

carried_out : (script : Reading) (runner : Room) (made : List Seated) (workers : List Worker) (seats : List Seated) (told : Record) →
    IsMade (with_sweeper script.limits) (script.limits.actors + 1) runner made → AreRanked script runner.id workers → seats ≡ map (λ (w : Worker). w.seat) workers →
    IsFinished runner seats (Ok told) → IsCarriedOut script (recorded told) (map (λ (w : Worker). w.denied.items) workers)
carried_out script runner made workers seats told is ranks are (here, its, gathered, taken, legal) = record {
  limits = gathered.limits ∙ is.sizes;
  taken = taken;
  number = length-map workers (λ (w : Worker). w.denied.items) ∙ ranks.number;
  calls = λ k denied below at. calls_done script runner workers seats (recorded told) k denied ranks are gathered below at;
  sweeps = λ denied at. sweeps_done script runner workers seats (recorded told) denied ranks are gathered at;
}

-- ---- the report

text_of : (limits : Limits) (told : Record) (text : List ℕ) (hash : HashKind) → IsRecordOf (recorded told) told → told.limits.hash ≡ hash →
    record_report told text ≡ line (hash_text hash) ++ (event_lines (past_of (recorded told)).events ++ (text ++ last_lines (recorded_in (recorded told))))
text_of limits told text hash its same = rw (its.history, its.order, its.used, its.free, its.limbo, same) refl

pub reported : (script : Reading) (runner : Room) (made : List Seated) (workers : List Worker) (seats : List Seated) (told : Record) (text bytes : List ℕ) →
    IsMade (with_sweeper script.limits) (script.limits.actors + 1) runner made → AreRanked script runner.id workers → seats ≡ map (λ (w : Worker). w.seat) workers →
    text ≡ all_denied 1 (map (λ (w : Worker). w.denied.items) workers) → IsFinished runner seats (Ok told) → bytes ≡ record_report told text →
    All EventFits told.events.items → IsReportOf script bytes
reported script runner made workers seats told text bytes is ranks are denied (here, its, gathered, taken, legal) written fit =
    let board = recorded told in
    let hash : told.limits.hash ≡ script.limits.hash = ap (λ (l : Limits). l.hash) (gathered.limits ∙ is.sizes) in
    let denials = map (λ (w : Worker). w.denied.items) workers in
    let whole : bytes ≡ thread_report script.limits.hash (recorded_in board) denials = written ∙ text_of told.limits told text script.limits.hash its hash
    ∙ ap (λ t. line (hash_text script.limits.hash) ++ (event_lines (past_of board).events ++ (t ++ last_lines (recorded_in board)))) denied in
    record {
      board = board;
      denials = denials;
      done = carried_out script runner made workers seats told is ranks are (here, its, gathered, taken, legal);
      whole = whole;
      legal = record_text_legal script.limits.hash told bytes denials its legal fit hash whole;
    }

-- The report of what threads made of a script is never too long to be read: a line tells two at most, and each actor has at most one operation that wasn't answered.
use Rattle.std.proofs.Common.{◌≡◌, ℕ, zero, suc, ◌+◌, ◌*◌, ◌<◌, ◌≤◌, ◌==◌, inl, inr, Bool, true, false, List, [], ◌∷◌, length, Option}
use Rattle.std.proofs.Common.{Some, Ok, refl, sym, ap, subst, ◌∙◌, length-append, if◌then◌else◌, ne_eqb, arith}
use Rattle.std.specs.Prelude.{Result, Err, IfOk, slice_get, sum_by, cond}
use Rattle.std.specs.Io.KnownBytes.{Appends}
use Rattle.std.proofs.lemmas.Bool.{cases_eq}
use Rattle.std.proofs.lemmas.List.{length-map}
use Rattle.std.proofs.lemmas.List.Concat.{flat_map-cons}
use Rattle.std.proofs.lemmas.List.Sums.{sum_by-cons}
use Rattle.ctrie_commands.specs.Beneath.history_commands.specs.declared.faults.Fault.{Fault}
use Rattle.ctrie_base.specs.declared.hashes.HashKind.{HashKind}
use Rattle.ctrie_base.specs.declared.refusals.Refusal.{Refusal}
use Rattle.history.specs.declared.calls.Call.{Call}
use Rattle.ctrie_commands.specs.Beneath.history_text.specs.Grammar.{IsShort}
use Rattle.ctrie_commands.specs.Beneath.machine_model.specs.declared.steps.Limits.{Limits}
use Rattle.ctrie_commands.specs.Beneath.proof_runs.specs.Machines.{Taken, past_of}
use Rattle.lock_runner.specs.declared.accounts.Answer.{Answer}
use Rattle.lock_runner.specs.ActorHistory.Answers.{AreAnswersOf}
use Rattle.lock_runner.proofs.ActorHistory.Totals.{total, total_least, total_sum}
use Rattle.ctrie_commands.specs.Beneath.machine_model.specs.Limits.{bounded}
use Rattle.script_commands.specs.Recorded.{recorded_in}
use Rattle.lock_runner.proofs.ActorHistory.Counted.{answered, events_counted, answered_counted}
use Rattle.ctrie_commands.specs.Beneath.script_text.specs.declared.thread_lines.ThreadLine.{ThreadLine}
use Rattle.ctrie_commands.specs.Beneath.script_text.specs.declared.thread_lines.ThreadLine.TheVariants.{Do, Sweep}
use Rattle.ctrie_commands.specs.Beneath.script_text.specs.Threads.Reading.{Reading, thread_dialect, thread_script_of}
use Rattle.ctrie_commands.specs.Beneath.script_text.proofs.Few.{few_lines}
use Rattle.ctrie_commands.specs.Working.{calls_in, calls_of, names_sweep, sweep_lines, Performed, None, Answered, Denied, answered_calls}
use Rattle.ctrie_commands.specs.Threads.{IsPerformedBy, IsSweptBy, IsCarriedOut, thread_report, IsReportOf, SaysThreadScript, IsThreadReport}
use Rattle.script_commands.specs.Legality.{told_in, AppendsJudged}
use Rattle.script_commands.proofs.Legal.{judged_legal}
use Rattle.ctrie_commands.proofs.ThreadReports.{thread_report_counted}

-- ---- no two actors have one line

-- the calls that the line names for the actor at the place k, counted from this actor on
abbrev named_at : ThreadLine → ℕ → ℕ → ℕ
named_at line from k = length (calls_in (k + from) line)

named_or_not : (b : Bool) (call : Call) → length (if b then call ∷ [] else []) ≤ 1
named_or_not true call = omega arith
named_or_not false call = omega arith

other_owner : (owner actor : ℕ) (call : Call) → (owner ≡ actor → ⊥) → length (calls_in actor (Do owner call)) ≡ 0
other_owner owner actor call other = ap (λ b. length (if b then call ∷ [] else [])) (ne_eqb owner actor other)

total_none : (n : ℕ) (f : ℕ → ℕ) → ((k : ℕ) → f k ≡ 0) → total n f ≡ 0
total_none zero f none = refl
total_none (suc n) f none = omega (arith, none zero, total_none n (λ k. f (suc k)) (λ k. none (suc k)))

one_owner : (n from owner : ℕ) (call : Call) → total n (named_at (Do owner call) from) ≤ 1
one_owner zero from owner call = omega arith
one_owner (suc n) from owner call = elim (cases_eq owner from) [
  | inl own ↦
      let none = total_none n (λ k. named_at (Do owner call) from (suc k)) (λ k. other_owner owner (suc k + from) call (λ e. absurd (omega (arith, own, e)))) in
      omega (arith, none, named_or_not (owner == zero + from) call)
  | inr other ↦
      let first = other_owner owner (zero + from) call (λ e. other (omega (arith, e))) in
      let more = total_least n (λ k. named_at (Do owner call) from (suc k)) (named_at (Do owner call) (from + 1))
      (λ k below. let e : suc k + from ≡ k + (from + 1) = omega arith in omega (arith, ap (λ a. length (calls_in a (Do owner call))) e)) in
      omega (arith, first, more, one_owner n (from + 1) owner call)
]

one_named : (n : ℕ) (line : ThreadLine) → total n (λ k. length (calls_in (k + 1) line)) + cond (names_sweep line) 1 0 ≤ 1
one_named n (Do owner call) = omega (arith, one_owner n 1 owner call)
one_named n (Sweep times) = omega (arith, total_none n (λ k. length (calls_in (k + 1) (Sweep times))) (λ k. refl))

named_counted : (n : ℕ) (lines : List ThreadLine) → total n (λ k. length (calls_of (k + 1) lines)) + sweep_lines lines ≤ length lines
named_counted n [] = omega (arith, total_none n (λ k. length (calls_of (k + 1) [])) (λ k. refl))
named_counted n (line ∷ lines) =
    let each : (k : ℕ) → k < n → length (calls_of (k + 1) (line ∷ lines)) ≤ length (calls_in (k + 1) line) + length (calls_of (k + 1) lines) = λ k below.
    omega (arith, ap length (flat_map-cons (λ l. calls_in (k + 1) l) line lines), length-append (calls_in (k + 1) line) (calls_of (k + 1) lines)) in
    let split = total_least n (λ k. length (calls_of (k + 1) (line ∷ lines))) (λ k. length (calls_in (k + 1) line) + length (calls_of (k + 1) lines)) each in
    omega (
      arith,
      split,
      total_sum n (λ k. length (calls_in (k + 1) line)) (λ k. length (calls_of (k + 1) lines)),
      one_named n line,
      named_counted n lines,
      sum_by-cons (λ l. cond (names_sweep l) 1 0) line lines,
    )

-- ---- answers and denials

performed_counted : (actor : ℕ) (board : Taken) (calls told : List Call) (denied : List Refusal) → Performed actor board calls told denied → length told + length denied ≡ length calls
performed_counted actor board calls told denied None = refl
performed_counted actor board calls told denied (Answered before earlier refused call so) =
    omega (arith, performed_counted actor board before earlier refused so, length-append before (call ∷ []), length-append earlier (call ∷ []))
performed_counted actor board calls told denied (Denied before earlier refused call refusal so was) =
    omega (arith, performed_counted actor board before earlier refused so, length-append before (call ∷ []), length-append refused (refusal ∷ []))

-- with those of the last actor apart
denials_bounded : (n : ℕ) (denials : List (List Refusal)) (given most : ℕ → ℕ) (last : ℕ) → length denials ≡ n + 1 →
    ((k : ℕ) (denied : List Refusal) → k < n → slice_get denials k ≡ Some denied → given k + length denied ≤ most k) →
    ((denied : List Refusal) → slice_get denials n ≡ Some denied → given n + length denied ≤ last) →
    total (suc n) given + sum_by (λ denied. length denied) denials ≤ total n most + last
denials_bounded n [] given most last number each behind = absurd (omega (arith, number))
denials_bounded zero (denied ∷ []) given most last number each behind = omega (arith, behind denied refl, sum_by-cons (λ (d : List Refusal). length d) denied [])
denials_bounded zero (denied ∷ next ∷ more) given most last number each behind = absurd (omega (arith, number))
denials_bounded (suc n) (denied ∷ more) given most last number each behind =
    let rest = denials_bounded n more (λ k. given (suc k)) (λ k. most (suc k)) last (omega (arith, number)) (λ k d below at. each (suc k) d (omega (arith, below)) at) behind in
    omega (arith, rest, each zero denied (omega arith) refl, sum_by-cons (λ (d : List Refusal). length d) denied more)

module _ (script : Reading) (board : Taken) (denials : List (List Refusal)) (done : IsCarriedOut script board denials) where
  -- an actor's answers and denials are no more than its calls
  calls_bounded : (k : ℕ) (denied : List Refusal) → k < script.limits.actors → slice_get denials k ≡ Some denied →
      answered (past_of board).events k + length denied ≤ length (calls_of (k + 1) script.lines)
  calls_bounded k denied below at =
      let performed : IsPerformedBy (k + 1) script board denied = done.calls k denied below at in
      let next : k + 1 ≡ suc k = omega arith in
      let few = answered_counted (bounded board.limits) board.steps k performed.0 (subst (λ a. AreAnswersOf a (past_of board).events performed.0) next performed.1) in
      omega (arith, few, performed_counted (k + 1) board (calls_of (k + 1) script.lines) (answered_calls performed.0) denied performed.2, length-map performed.0 (λ (a : Answer). a.call))

  sweeps_bounded : (denied : List Refusal) → slice_get denials script.limits.actors ≡ Some denied →
      answered (past_of board).events script.limits.actors + length denied ≤ sweep_lines script.lines
  sweeps_bounded denied at =
      let n : ℕ = script.limits.actors in
      let swept : IsSweptBy (n + 1) script board denied = done.sweeps denied at in
      let next : n + 1 ≡ suc n = omega arith in
      omega (arith, answered_counted (bounded board.limits) board.steps n [] (subst (λ a. AreAnswersOf a (past_of board).events []) next swept.0), swept.1.fewer)

  pub short_report : (hash : HashKind) → script.limits.actors ≤ 63 → length script.lines ≤ 100000 → IsShort (thread_report hash (recorded_in board) denials)
  short_report hash fit few =
      let n : ℕ = script.limits.actors in
      let events = (past_of board).events in
      let actors : board.limits.actors ≡ suc n = ap (λ (l : Limits). l.actors) done.limits ∙ omega arith in
      let told = subst (λ m. length events ≤ 2 * total m (answered events) + m) actors (events_counted (bounded board.limits) board.steps) in
      let lines = denials_bounded n denials (answered events) (λ k. length (calls_of (k + 1) script.lines)) (sweep_lines script.lines) done.number calls_bounded sweeps_bounded in
      omega (arith, thread_report_counted hash (recorded_in board) denials, told, lines, named_counted n script.lines, fit, few)

-- ---- what is written

pub is_thread_report : (text : List ℕ) (script : Reading) (bytes : List ℕ) → SaysThreadScript text script → IsReportOf script bytes → IsThreadReport text bytes
unfolding thread_script_of
is_thread_report text script bytes says is =
    let short = short_report script is.board is.denials is.done script.limits.hash says.0.1.0 (few_lines thread_dialect text script says.1) in
    (script, says, is, judged_legal bytes (told_in script.limits.hash (past_of is.board)) is.legal (subst IsShort (sym is.whole) short))

pub each_report : {T : Type 0} (bytes_of : T → List ℕ) (text : List ℕ) (script : Reading) (result : Result T Fault) → SaysThreadScript text script →
    IfOk result (λ report. IsReportOf script (bytes_of report)) → IfOk result (λ report. IsThreadReport text (bytes_of report))
each_report bytes_of text script (Ok report) says is = is_thread_report text script (bytes_of report) says is
each_report bytes_of text script (Err fault) says is = tt

pub appends_judged : (old new : Option (List ℕ)) (text bytes : List ℕ) → IsThreadReport text bytes → Appends old new bytes → AppendsJudged old new
appends_judged old new text bytes (script, says, is, judged) grown = (bytes, told_in script.limits.hash (past_of is.board), is.legal, judged, grown)

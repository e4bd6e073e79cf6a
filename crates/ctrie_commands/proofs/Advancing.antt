-- What a thread has done once it has performed one call more.
use Rattle.std.proofs.Common.{◌≡◌, ℕ, ◌+◌, ◌<◌, ◌==◌, inl, inr, List, [], ◌∷◌, ◌++◌, take, get_or, length, Bool, true, false, if◌then◌else◌, refl, sym, ap, subst, ◌∙◌, append-nil}
use Rattle.std.specs.Prelude.{Err, None as Unchosen}
use Rattle.std.proofs.lemmas.Option.{none-some}
use Rattle.std.proofs.lemmas.List.{take_more, map-append}
use Rattle.std.proofs.lemmas.List.Elements.{Contains-push, Contains-append_left}
use Rattle.std.proofs.lemmas.Grind.{flat_map-append}
use Rattle.std.specs.List.{Contains}
use Rattle.history.specs.declared.calls.Call.{Call}
use Rattle.history.specs.declared.calls.Call.TheVariants.{Get}
use Rattle.ctrie_base.specs.declared.refusals.Refusal.{Refusal}
use Rattle.ctrie_base.specs.declared.refusals.Refusal.TheVariants.{Spent}
use Rattle.ctrie_commands.specs.Beneath.machine_model.specs.declared.steps.Step.TheVariants as step
use Rattle.ctrie_commands.specs.Beneath.machine_model.specs.Machine.{next}
use Rattle.ctrie_commands.specs.Beneath.proof_runs.specs.Machines.{Taken, past_of, state_of}
use Rattle.lock_runner.specs.declared.accounts.Answer.{Answer}
use Rattle.lock_runner.specs.ActorHistory.Answers.{AreAnswersOf, RunsJust}
use Rattle.lock_runner.specs.Seats.{Seated, IsIdle}
use Rattle.lock_runner.specs.Boards.{GoesOn}
use Rattle.lock_runner.specs.Stepping.{HasGoneOn}
use Rattle.lock_runner.proofs.Boards.{goes_on_same}
use Rattle.ctrie_commands.specs.Beneath.script_text.specs.declared.thread_lines.ThreadLine.{ThreadLine}
use Rattle.ctrie_commands.specs.Beneath.script_text.specs.declared.thread_lines.ThreadLine.TheVariants.{Do, Sweep}
use Rattle.ctrie_commands.specs.declared.working.Worker.{Worker}
use Rattle.ctrie_commands.specs.Working.{calls_in, calls_of, OnTheWay, RunsNothing, Denies, DeniesBehind, HasAnswered, Performed, None, Answered, Denied, answered_calls}
use Rattle.ctrie_commands.specs.Working.{WasDenied, HasPerformed, HasPerformedLine, HasPerformedAll, HasEnded}
use Rattle.ctrie_commands.proofs.Later.{on_the_way_later}

calls_more : (actor : ℕ) (lines : List ThreadLine) (i : ℕ) (d : ThreadLine) → i < length lines →
    calls_of actor (take (i + 1) lines) ≡ calls_of actor (take i lines) ++ calls_in actor (get_or lines i d)
calls_more actor lines i d below =
    ap (λ xs. calls_of actor xs) (take_more lines i d below) ∙ flat_map-append (λ x. calls_in actor x) (take i lines) (get_or lines i d ∷ [])
    ∙ ap (λ xs. calls_of actor (take i lines) ++ xs) (append-nil (calls_in actor (get_or lines i d)))

-- what was performed stays so on the way to a later board
pub performed_later : (actor : ℕ) (seen board : Taken) (calls told : List Call) (denied : List Refusal) → board.limits ≡ seen.limits → GoesOn seen.steps board.steps →
    Performed actor seen calls told denied → Performed actor board calls told denied
performed_later actor seen board calls told denied limits on None = None
performed_later actor seen board calls told denied limits on (Answered before earlier refused call so) =
    Answered before earlier refused call (performed_later actor seen board before earlier refused limits on so)
performed_later actor seen board calls told denied limits on (Denied before earlier refused call refusal so was) =
    Denied before earlier refused call refusal (performed_later actor seen board before earlier refused limits on so)
    (on_the_way_later (DeniesBehind actor earlier refused call refusal) seen board limits on was)

-- of a seat's actor that runs nothing no operation runs
pub nothing_runs : (actor : ℕ) (board : Taken) (seat : Seated) → RunsJust actor (past_of board).events seat.running → IsIdle seat → RunsNothing actor board
nothing_runs actor board seat just idle id runs =
    let found = just.no_other id runs in
    none-some found.0 (sym idle ∙ found.1)

module _ (actor : ℕ) (before after : Worker) (gone : HasGoneOn before.seat after.seat) (owns : after.seat.actor ≡ actor) where
  abbrev So : List Call → Worker → Type 0
  So calls worker = Performed actor worker.seat.seen calls (answered_calls worker.seat.answers) worker.denied.items

  later : (calls : List Call) → So calls before → Performed actor after.seat.seen calls (answered_calls before.seat.answers) before.denied.items
  later calls so_far = performed_later actor before.seat.seen after.seat.seen calls (answered_calls before.seat.answers) before.denied.items gone.limits gone.steps so_far

  denies : (call : Call) (refusal : Refusal) → HasEnded before → WasDenied call refusal before.seat after.seat → RunsJust actor (past_of after.seat.seen).events after.seat.running →
      Denies actor before.denied.items call refusal after.seat.seen
  denies call refusal (inl idle) (inl (still, denied)) just =
      inl (inl (nothing_runs actor after.seat.seen after.seat just (still ∙ idle)), subst (λ a. next (state_of after.seat.seen) (step.Begin a call Unchosen) ≡ Err refusal) owns denied)
  denies call refusal (inr told) (inl (still, denied)) just = inl (inr told, subst (λ a. next (state_of after.seat.seen) (step.Begin a call Unchosen) ≡ Err refusal) owns denied)
  denies call refusal ended (inr (runs, denied, spent)) just =
      inr ((runs.0, just.own runs.0 runs.1, runs.2), subst (λ a. next (state_of after.seat.seen) (step.Go a) ≡ Err Spent) owns denied, spent)

  one_more : (calls : List Call) (call : Call) → HasEnded before → So calls before → HasPerformed call before after → So (calls ++ call ∷ []) after
  one_more calls call ended so_far (inl (answer, last, is, same, idle)) =
      let answers : answered_calls after.seat.answers ≡ answered_calls before.seat.answers ++ call ∷ [] =
      ap answered_calls last ∙ map-append (λ (a : Answer). a.call) before.seat.answers (answer ∷ []) ∙ ap (λ c. answered_calls before.seat.answers ++ c ∷ []) is in
      rw (answers, same) (Answered calls (answered_calls before.seat.answers) before.denied.items call (later calls so_far))
  one_more calls call ended so_far (inr (same, refusal, last, denied, all)) =
      let answered : HasAnswered actor (answered_calls before.seat.answers) after.seat.seen =
      (after.seat.answers, subst (λ a. AreAnswersOf a (past_of after.seat.seen).events after.seat.answers) owns all.0, ap answered_calls same) in
      let just : RunsJust actor (past_of after.seat.seen).events after.seat.running = subst (λ a. RunsJust a (past_of after.seat.seen).events after.seat.running) owns all.1 in
      let why : OnTheWay (DeniesBehind actor (answered_calls before.seat.answers) before.denied.items call refusal) after.seat.seen =
      (after.seat.seen, refl, goes_on_same after.seat.seen.steps, (denies call refusal ended denied just, answered)) in
      rw (last, same) (Denied calls (answered_calls before.seat.answers) before.denied.items call refusal (later calls so_far) why)

  none_more : (calls : List Call) → So calls before → HasPerformedLine [] before after → So (calls ++ []) after
  none_more calls so_far same = rw (same.0, same.1, append-nil) (later calls so_far)

  -- a line names one call at most
  at_most_one : (calls : List Call) (mine : Bool) (call : Call) (named : List Call) → (if mine then call ∷ [] else []) ≡ named → HasPerformedLine named before after →
      HasEnded before → So calls before → So (calls ++ named) after
  at_most_one calls true call named is done ended so_far =
      subst (λ xs. So (calls ++ xs) after) is (one_more calls call ended so_far (subst (λ xs. HasPerformedLine xs before after) (sym is) done))
  at_most_one calls false call named is done ended so_far =
      subst (λ xs. So (calls ++ xs) after) is (none_more calls so_far (subst (λ xs. HasPerformedLine xs before after) (sym is) done))

  line_more : (calls : List Call) (line : ThreadLine) (named : List Call) → calls_in actor line ≡ named → HasPerformedLine named before after → HasEnded before → So calls before →
      So (calls ++ named) after
  line_more calls (Do owner call) named is done ended so_far = at_most_one calls (owner == actor) call named is done ended so_far
  line_more calls (Sweep times) named is done ended so_far = at_most_one calls false (Get 0 0) named is done ended so_far

  pub performed_more : (mine : ℕ) (lines : List ThreadLine) (i : ℕ) (d : ThreadLine) → i < length lines → mine ≡ actor → HasEnded before → HasPerformedAll actor (take i lines) before →
      HasPerformedLine (calls_in mine (get_or lines i d)) before after → HasPerformedAll actor (take (i + 1) lines) after
  performed_more mine lines i d below is ended so_far done =
      subst (λ xs. So xs after) (sym (calls_more actor lines i d below))
      (line_more (calls_of actor (take i lines)) (get_or lines i d) (calls_in actor (get_or lines i d)) refl
      (subst (λ a. HasPerformedLine (calls_in a (get_or lines i d)) before after) is done) ended so_far)

-- what runs after a line ran before it, or the machine has taken all its steps
pub ended_more : (before after : Worker) (named : List Call) → HasPerformedLine named before after → HasEnded before → HasEnded after
ended_more before after [] same (inl idle) = inl (same.2 ∙ idle)
ended_more before after [] same (inr told) = inr (subst (λ xs. Contains xs Spent) (sym same.1) told)
ended_more before after (call ∷ more) (inl done) so_far = inl done.4
ended_more before after (call ∷ more) (inr (same, refusal, last, inr (runs, denied, spent), all)) so_far =
    inr (subst (λ xs. Contains xs Spent) (sym last) (subst (λ r. Contains (before.denied.items ++ r ∷ []) Spent) (sym spent) (Contains-push before.denied.items Spent)))
ended_more before after (call ∷ more) (inr (same, refusal, last, inl (still, denied), all)) (inl idle) = inl (still ∙ idle)
ended_more before after (call ∷ more) (inr (same, refusal, last, inl (still, denied), all)) (inr told) =
    inr (subst (λ xs. Contains xs Spent) (sym last) (Contains-append_left before.denied.items (refusal ∷ []) Spent told))

pub performed_none : (actor : ℕ) (worker : Worker) → worker.seat.answers ≡ [] → worker.denied.items ≡ [] → HasPerformedAll actor [] worker
performed_none actor worker answers denied = rw (answers, denied) None

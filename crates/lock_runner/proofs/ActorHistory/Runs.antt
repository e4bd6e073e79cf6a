-- An account has the operation that its actor has begun and not ended, along every run.
use Rattle.std.specs.Prelude.{◌≡◌, ℕ, suc, ◌⊎◌, List, [], ◌∷◌, ◌++◌, length, Option, Some, None}
use Rattle.std.proofs.Common.{refl, sym, ap, subst, ◌∙◌, inl, inr}
use Rattle.std.proofs.lemmas.Bool.{cases_eq}
use Rattle.std.proofs.lemmas.Option.{none-some, same_Some}
use Rattle.lock_runner.specs.Vocabulary.{Call, Reply, Event, End, BeginsAt, EndsAt, HasEnded, IsRunning, begun, Bounds, Step, Outcome, run, first_record, noted, record_of, told_in}
use Rattle.history.specs.declared.events.Event.TheVariants.{Begin}
use Rattle.history.specs.Histories.{Operation}
use Rattle.history.proofs.Places.{at_cases, at_front, at_seam}
use Rattle.lock_runner.specs.Beneath.machine_model.proofs.Alike.{alike_along}
use Rattle.lock_runner.specs.Beneath.machine_model.proofs.Recorded.{along_with}
use Rattle.lock_runner.specs.declared.accounts.Running.{Running}
use Rattle.lock_runner.specs.ActorHistory.{account_of, begun_at}
use Rattle.lock_runner.specs.ActorHistory.Answers.{RunsNoOther, RunsJust}
use Rattle.lock_runner.proofs.ActorHistory.Turns.{Recorded, recorded, recorded_of, Turns, Comes, Stays, Quits, Leaves, Rests, turns}
use Rattle.lock_runner.proofs.ActorHistory.Sound.{Sound, IsAnswered, sound_along, fits_after, later_own, later_other, leave_other, leave_own}
use Rattle.lock_runner.proofs.ActorHistory.Steps.{none_told}
use Rattle.lock_runner.proofs.ActorHistory.Told.{told_along, same_begin, apart_events}

-- each actor's account has what the actor runs
abbrev pub RunAll : List Event → Type 0
RunAll history = (actor : ℕ) → RunsNoOther actor history (account_of actor history).running

-- what runs after an event, and began before it, ran before it
ran_before : (history : List Event) (event : Event) (id actor place : ℕ) (operation : Operation) → BeginsAt history place id operation → operation.actor ≡ actor →
    ((answer : Reply) → ¬ HasEnded (history ++ event ∷ []) id answer) → IsRunning history id actor
ran_before history event id actor place operation at own unended =
    ((place, operation, at, own), λ answer ended. unended answer (ended.0, at_front history (event ∷ []) ended.0 _ ended.1))

-- ---- a begin

module _ (history : List Event) (all : RunAll history) (owner : ℕ) (call : Call) (opens : Option ℕ) (idle : (account_of owner history).running ≡ None) where
  abbrev later : List Event
  later = history ++ Begin (begun history) owner call opens ∷ []

  abbrev Has : ℕ → ℕ → Type 0
  Has actor id = (operation : Running) × ((account_of actor later).running ≡ Some operation) × (operation.id ≡ id)

  new_has : (actor id : ℕ) → begun history ≡ id → owner ≡ actor → Has actor id
  new_has actor id same own =
      subst (λ a. Has a id) own (begun_at (length history) (begun history) call, ap (λ a. a.running) (later_own history owner call opens), same)

  old_has : (actor id : ℕ) → IsRunning history id actor → (owner ≡ actor) ⊎ (owner ≡ actor → ⊥) → Has actor id
  old_has actor id runs (inl own) =
      let was = all actor id runs in
      absurd (none-some was.0 (sym idle ∙ ap (λ a. (account_of a history).running) own ∙ was.1))
  old_has actor id runs (inr other) =
      let was = all actor id runs in
      (was.0, ap (λ a. a.running) (later_other history owner call opens actor other) ∙ was.1, was.2)

  begin_all : RunAll later
  begin_all actor id runs = elim (at_cases history (Begin (begun history) owner call opens) runs.0.0 _ runs.0.2) [
    | inl h ↦ old_has actor id (ran_before history _ id actor runs.0.0 runs.0.1 h runs.0.3 runs.1) (cases_eq owner actor)
    | inr h ↦ let same = same_begin _ _ _ _ _ _ _ _ _ _ refl refl h.1 in new_has actor id same.0 (same.1 ∙ runs.0.3)
  ]

-- ---- an end

module _ (history : List Event) (all : RunAll history) (owner id : ℕ) (reply : Reply)
    (own : IsAnswered (account_of owner history) (account_of owner history).running (length history) id reply (account_of owner (history ++ End id reply ∷ [])))
    (others : (actor : ℕ) → (owner ≡ actor → ⊥) → account_of actor (history ++ End id reply ∷ []) ≡ account_of actor history) where
  abbrev ended : List Event
  ended = history ++ End id reply ∷ []

  -- what the actor had has ended
  none_left : (jd : ℕ) → IsRunning history jd owner → ((answer : Reply) → ¬ HasEnded ended jd answer) → ⊥
  none_left jd runs unended =
      let was = all owner jd runs in
      let same : id ≡ jd = sym own.same ∙ ap (λ r. r.id) (same_Some _ _ (sym own.is ∙ was.1)) ∙ was.2 in
      unended reply (length history, subst (λ n. EndsAt ended (length history) n reply) same (at_seam history [] (End id reply)))

  still_has : (actor jd : ℕ) → IsRunning history jd actor → ((answer : Reply) → ¬ HasEnded ended jd answer) → (owner ≡ actor) ⊎ (owner ≡ actor → ⊥) →
      (operation : Running) × ((account_of actor ended).running ≡ Some operation) × (operation.id ≡ jd)
  still_has actor jd runs unended (inl is) = absurd (none_left jd (subst (λ a. IsRunning history jd a) (sym is) runs) unended)
  still_has actor jd runs unended (inr other) =
      let was = all actor jd runs in
      (was.0, ap (λ a. a.running) (others actor other) ∙ was.1, was.2)

  end_all : RunAll ended
  end_all actor jd runs = elim (at_cases history (End id reply) runs.0.0 _ runs.0.2) [
    | inl h ↦ still_has actor jd (ran_before history _ jd actor runs.0.0 runs.0.1 h runs.0.3 runs.1) runs.1 (cases_eq owner actor)
    | inr h ↦ apart_events _ _ _ _ _ _ (sym h.1)
  ]

-- ---- every run

after_all : (before after : Recorded) (s : Step) (o : Outcome) → Sound before → length after.state.actors ≡ after.state.limits.actors → Turns before after s o →
    RunAll before.events → RunAll after.events
after_all before after s o sound fits (Comes k call number opens within idle here others events) all =
    subst RunAll (sym events) (begin_all before.events all (suc k) call opens (none_told _ (sym (sound.match (suc k)) ∙ idle)))
after_all before after s o sound fits (Stays k p kind had same events) all = subst RunAll (sym events) all
after_all before after s o sound fits (Quits k p kind had same events) all = subst RunAll (sym events) all
after_all before after s o sound fits (Leaves k p answer had none others events) all =
    let Own : List Event → Type 0 = λ es. IsAnswered (account_of (suc k) before.events) (account_of (suc k) before.events).running (length before.events) p.0 answer (account_of (suc k) es) in
    let Others : List Event → Type 0 = λ es. (actor : ℕ) → (suc k ≡ actor → ⊥) → account_of actor es ≡ account_of actor before.events in
    subst RunAll (sym events)
    (end_all before.events all (suc k) p.0 answer (subst Own events (leave_own before after sound fits k p answer had none others events))
    (subst Others events (λ actor other. leave_other before after sound fits k p answer had none others events actor (λ j e f. other (sym (e ∙ ap (λ n. suc n) f))))))
after_all before after s o sound fits (Rests swept same events) all = subst RunAll (sym events) all

none_at_first : RunAll []
none_at_first actor id runs = absurd (none-some _ runs.0.2)

first_all : (limits : Bounds) → RunAll (first_record limits).events
first_all limits = none_at_first

runs_no_other : (limits : Bounds) (steps : List Step) → RunAll (record_of limits steps).events
runs_no_other limits = along_with limits (λ state past. RunAll past.events) (first_all limits)
    (λ steps s o after m all. let sound = sound_along limits steps in
    after_all (recorded_of limits steps) (recorded after (noted (record_of limits steps) (run limits steps).steps (told_in (run limits steps) s))) s o sound
    (fits_after (run limits steps) after s o m sound.fits) (turns (run limits steps) (record_of limits steps) s o after sound.fits (alike_along limits steps).begun_are m) all)

-- what the account has is just what the actor runs
pub runs_just : (limits : Bounds) (steps : List Step) (actor : ℕ) → RunsJust actor (record_of limits steps).events (account_of actor (record_of limits steps).events).running
runs_just limits steps actor =
    let told = told_along limits steps in record {
      own = λ operation is. let begin = told.begins actor operation is in record { opens = begin.0; begin = begin.1; unended = told.unended actor operation is };
      no_other = runs_no_other limits steps actor;
    }

-- How many events a run has: each is told to the account of one actor.
use Rattle.std.specs.Prelude.{◌≡◌, ℕ, zero, suc, ◌+◌, ◌*◌, ◌<◌, ◌≤◌, List, [], ◌∷◌, ◌++◌, length, Option, Some, None, slice_get}
use Rattle.std.proofs.Common.{refl, sym, ap, subst, ◌∙◌, inl, inr, arith, length-append}
use Rattle.std.proofs.lemmas.Bool.{cases_lt}
use Rattle.std.proofs.lemmas.List.{get_or_past}
use Rattle.std.proofs.lemmas.Option.{none-some, same_Some, slice_get_within}
use Rattle.history.proofs.Places.{at_within}
use Rattle.lock_runner.specs.Vocabulary.{Event, Operation, Bounds, Step, Outcome, first_state, run, first_record, noted, record_of, told_in}
use Rattle.lock_runner.specs.Beneath.machine_model.proofs.Alike.{alike_along}
use Rattle.lock_runner.specs.Beneath.machine_model.proofs.Recorded.{along_with}
use Rattle.lock_runner.specs.Beneath.machine_model.proofs.Frames.{limits_kept}
use Rattle.lock_runner.specs.declared.accounts.Answer.{Answer}
use Rattle.lock_runner.specs.declared.accounts.Running.{Running}
use Rattle.lock_runner.specs.ActorHistory.{Account, account_of}
use Rattle.lock_runner.specs.ActorHistory.Answers.{AreAnswersOf}
use Rattle.lock_runner.proofs.ActorHistory.Sound.{Sound, sound_along, fits_after}
use Rattle.lock_runner.proofs.ActorHistory.Steps.{others_leave, own_step}
use Rattle.lock_runner.proofs.ActorHistory.Told.{answers_are_those_of_the_history}
use Rattle.lock_runner.proofs.ActorHistory.Totals.{total, total_least, total_more, total_twice}
use Rattle.lock_runner.proofs.ActorHistory.Turns.{Recorded, recorded, recorded_of, Shown, ran, shown, Turns, Comes, Stays, Quits, Leaves, Rests, turns}

-- ---- the events of an account

abbrev one_if_running : Option Running → ℕ
one_if_running None = 0
one_if_running (Some operation) = 1

-- two for each answer, and one for the operation that runs
abbrev events_in : Account → ℕ
events_in account = 2 * length account.answers + one_if_running account.running

events_begun : (before after : Account) (operation : Running) → before.running ≡ None → after ≡ record before { running = Some operation } → events_in before + 1 ≤ events_in after
events_begun before after operation idle is = omega (arith, ap events_in is, ap one_if_running idle)

events_answered : (before after : Account) (operation : Running) (answer : Answer) → before.running ≡ Some operation →
    after ≡ record { answers = before.answers ++ answer ∷ []; running = None } → events_in before + 1 ≤ events_in after
events_answered before after operation answer ran is =
    omega (arith, ap events_in is, ap one_if_running ran, length-append before.answers (answer ∷ []))

few_in : (account : Account) (running : Option Running) → one_if_running running ≤ 1
few_in account None = omega arith
few_in account (Some operation) = omega arith

-- ---- the events of all accounts

-- of the actor k + 1
abbrev told_to : List Event → ℕ → ℕ
told_to events k = events_in (account_of (suc k) events)

abbrev AreTold : Bounds → Recorded → Type 0
AreTold limits now = (now.state.limits ≡ limits) × (length now.events ≤ total limits.actors (told_to now.events))

one_event : (xs ys : List Event) (event : Event) → ys ≡ xs ++ event ∷ [] → length ys ≡ length xs + 1
one_event xs ys event e = ap length e ∙ length-append xs (event ∷ [])

-- an actor that runs something is one of the machine's
within : (xs : List (Option Operation)) (k : ℕ) (p : Shown) → ran xs k ≡ Some p → k < length xs
within xs k p is = elim (cases_lt k (length xs)) [
  | inl below ↦ below
  | inr past ↦ absurd (none-some p (sym (ap shown (get_or_past xs k None past)) ∙ is))
]

-- one event more is told to one actor
one_told : (limits : Bounds) (before after : Recorded) (k : ℕ) → length after.events ≡ length before.events + 1 → k < limits.actors →
    told_to before.events k + 1 ≤ told_to after.events k → ((j : ℕ) → (j ≡ k → ⊥) → account_of (suc j) after.events ≡ account_of (suc j) before.events) →
    length before.events ≤ total limits.actors (told_to before.events) → length after.events ≤ total limits.actors (told_to after.events)
one_told limits before after k grown below one others so =
    let each : (j : ℕ) → (j ≡ k → ⊥) → told_to before.events j ≤ told_to after.events j = λ j apart. omega (arith, ap events_in (others j apart)) in
    omega (arith, grown, so, total_more limits.actors k (told_to before.events) (told_to after.events) below one each)

none_told : (limits : Bounds) (before after : Recorded) → after.events ≡ before.events → length before.events ≤ total limits.actors (told_to before.events) →
    length after.events ≤ total limits.actors (told_to after.events)
none_told limits before after same so = subst (λ es. length es ≤ total limits.actors (told_to es)) (sym same) so

told_after : (limits : Bounds) (before after : Recorded) (s : Step) (o : Outcome) → Sound before → length after.state.actors ≡ after.state.limits.actors → Turns before after s o →
    before.state.limits ≡ limits → length before.events ≤ total limits.actors (told_to before.events) → length after.events ≤ total limits.actors (told_to after.events)
told_after limits before after s o sound fits (Comes k call number opens below idle here others events) same so =
    let turn = Comes k call number opens below idle here others events in
    let own = own_step before after s o sound fits turn (suc k) refl in
    one_told limits before after k (one_event before.events after.events _ events) (omega (arith, below, sound.fits, ap (λ (l : Bounds). l.actors) same))
    (events_begun (account_of (suc k) before.events) (account_of (suc k) after.events) _ own.0 own.1)
    (λ j apart. others_leave before after s o sound fits turn (suc j) (λ e. apart (omega (arith, e)))) so
told_after limits before after s o sound fits (Stays k p kind had others events) same so = none_told limits before after events so
told_after limits before after s o sound fits (Quits k p kind had others events) same so = none_told limits before after events so
told_after limits before after s o sound fits (Leaves k p answer had none others events) same so =
    let turn = Leaves k p answer had none others events in
    let own = own_step before after s o sound fits turn (suc k) refl in
    one_told limits before after k (one_event before.events after.events _ events)
    (omega (arith, within before.state.actors k p had, sound.fits, ap (λ (l : Bounds). l.actors) same))
    (events_answered (account_of (suc k) before.events) (account_of (suc k) after.events) own.0 _ own.1 own.3)
    (λ j apart. others_leave before after s o sound fits turn (suc j) (λ e. apart (omega (arith, e)))) so
told_after limits before after s o sound fits (Rests swept others events) same so = none_told limits before after events so

first_told : (limits : Bounds) → AreTold limits (recorded (first_state limits) (first_record limits))
unfolding first_state
first_told limits = (refl, omega arith)

told_along : (limits : Bounds) (steps : List Step) → AreTold limits (recorded_of limits steps)
told_along limits = along_with limits (λ state past. AreTold limits (recorded state past)) (first_told limits)
    (λ steps s o after m so. let sound = sound_along limits steps in (
      limits_kept (run limits steps) s o after m ∙ so.0,
      told_after limits (recorded_of limits steps) (recorded after (noted (record_of limits steps) (run limits steps).steps (told_in (run limits steps) s))) s o sound
          (fits_after (run limits steps) after s o m sound.fits)
          (turns (run limits steps) (record_of limits steps) s o after sound.fits (alike_along limits steps).begun_are m) so.0 so.1,
    ))

-- ---- the answers of each actor

-- how many answers the actor k + 1 has been given
abbrev pub answered : List Event → ℕ → ℕ
answered events k = length (account_of (suc k) events).answers

-- two for each answer, and one more for each actor
pub events_counted : (limits : Bounds) (steps : List Step) → length (record_of limits steps).events ≤ 2 * total limits.actors (answered (record_of limits steps).events) + limits.actors
events_counted limits steps =
    let events = (record_of limits steps).events in
    let each : (k : ℕ) → k < limits.actors → told_to events k ≤ 2 * answered events k + 1 = λ k below.
    omega (arith, few_in (account_of (suc k) events) (account_of (suc k) events).running) in
    omega (arith, (told_along limits steps).1, total_least limits.actors (told_to events) (λ k. 2 * answered events k + 1) each, total_twice limits.actors (answered events))

-- ---- no answer is left out

module _ (actor : ℕ) (history : List Event) (some all : List Answer) (they : AreAnswersOf actor history some) (these : AreAnswersOf actor history all) where
  -- the same answer among all of them
  again : (k : ℕ) (answer : Answer) → slice_get some k ≡ Some answer → (j : ℕ) × (same : Answer) × (slice_get all j ≡ Some same) × (same.ended ≡ answer.ended)
  again k answer at =
      let told = they.each k answer at in
      these.all answer.ended answer.id answer.reply told.end (answer.began, record { actor = actor; call = answer.call; opens = told.opens }, told.begin, refl)

  ended_before : (i j : ℕ) (a b : Answer) → slice_get all i ≡ Some a → slice_get all j ≡ Some b → j ≤ i → b.ended ≤ a.ended
  ended_before i j a b at by low = elim (cases_lt j i) [
    | inl below ↦ omega (arith, these.rising j i b a below by at)
    | inr past ↦
        let same : j ≡ i = omega (arith, past, low) in
        omega (arith, ap (λ (x : Answer). x.ended) (same_Some b a (sym by ∙ ap (λ n. slice_get all n) same ∙ at)))
  ]

  -- it stands no earlier
  no_earlier : (k : ℕ) (answer : Answer) → slice_get some k ≡ Some answer → (j : ℕ) × (same : Answer) × (slice_get all j ≡ Some same) × (same.ended ≡ answer.ended) × (k ≤ j)
  no_earlier zero answer at = let found = again zero answer at in (found.0, found.1, found.2, found.3, omega arith)
  no_earlier (suc k) answer at =
      let before = at_within some k (omega (arith, slice_get_within some (suc k) answer at)) in
      let there = no_earlier k before.0 before.1 in
      let found = again (suc k) answer at in
      let rises = they.rising k (suc k) before.0 answer (omega arith) before.1 at in
      elim (cases_lt there.0 found.0) [
        | inl below ↦ (found.0, found.1, found.2, found.3, omega (arith, below, there.4))
        | inr past ↦ absurd (omega (arith, rises, ended_before there.0 found.0 there.1 found.1 there.2 found.2 past, there.3, found.3))
      ]

  as_many : (n : ℕ) → length some ≡ n → n ≤ length all
  as_many zero e = omega arith
  as_many (suc n) e =
      let last = at_within some n (omega (arith, e)) in
      let found = no_earlier n last.0 last.1 in
      omega (arith, slice_get_within all found.0 found.1 found.2, found.4)

  pub no_more : length some ≤ length all
  no_more = as_many (length some) refl

pub answered_counted : (limits : Bounds) (steps : List Step) (k : ℕ) (answers : List Answer) → AreAnswersOf (suc k) (record_of limits steps).events answers →
    answered (record_of limits steps).events k ≤ length answers
answered_counted limits steps k answers these =
    let events = (record_of limits steps).events in
    no_more (suc k) events (account_of (suc k) events).answers answers (answers_are_those_of_the_history limits steps (suc k)) these

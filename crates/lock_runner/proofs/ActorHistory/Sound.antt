-- What the accounts say of running operations is what the machine runs, along every run.
use Rattle.std.specs.Prelude.{replicate, ◌≡◌, ℕ, zero, suc, ◌+◌, ◌<◌, ◌⊎◌, List, [], ◌∷◌, ◌++◌, length, Option, Some, None}
use Rattle.std.proofs.Common.{refl, sym, ap, subst, ◌∙◌, inl, inr, arith, eq-eqb, ne_eqb}
use Rattle.std.proofs.lemmas.Bool.{cases_eq}
use Rattle.std.proofs.lemmas.List.{length-replicate}
use Rattle.std.proofs.lemmas.Option.{none-some, same_Some}
use Rattle.lock_runner.specs.Vocabulary.{Call, Reply, Event, End, begun, Bounds, Step, Outcome, State, first_state, operation_of, run, first_record, noted, record_of, told_in, Moves}
use Rattle.history.specs.declared.events.Event.TheVariants.{Begin}
use Rattle.lock_runner.specs.Beneath.machine_model.proofs.Frames.{limits_kept}
use Rattle.lock_runner.specs.Beneath.machine_model.proofs.Alike.{alike_along}
use Rattle.lock_runner.specs.Beneath.machine_model.proofs.Recorded.{along_with}
use Rattle.lock_runner.specs.declared.accounts.Running.{Running}
use Rattle.lock_runner.specs.ActorHistory.{Account, account_of, account_after, account_ended, account_from, begun_at, answered_at}
use Rattle.history.proofs.Begins.{begun_push, begun_same}
use Rattle.lock_runner.specs.Beneath.proof_generations.proofs.Handles.Running.{actors_length}
use Rattle.lock_runner.proofs.ActorHistory.Pushes.{account_push}
use Rattle.lock_runner.proofs.ActorHistory.Turns.{Recorded, recorded, recorded_of, Shown, shown, ran, Turns, Comes, Stays, Quits, Leaves, Rests, turns}

abbrev pub told : Option Running → Option Shown
told None = None
told (Some operation) = Some (operation.id, operation.call)

-- what the actor runs
abbrev pub runs : State → ℕ → Option Shown
runs state actor = shown (operation_of state actor)

-- ---- what one event makes of an account

pub begin_other : (actor place : ℕ) (account : Account) (id owner : ℕ) (call : Call) (opens : Option ℕ) → (owner ≡ actor → ⊥) →
    account_after actor place account (Begin id owner call opens) ≡ account
begin_other actor place account id owner call opens other = rw (ne_eqb owner actor other) refl

pub begin_own : (actor place : ℕ) (account : Account) (id : ℕ) (call : Call) (opens : Option ℕ) →
    account_after actor place account (Begin id actor call opens) ≡ record account { running = Some (begun_at place id call) }
begin_own actor place account id call opens = rw (eq-eqb actor actor refl) refl

-- the accounts behind a begin: of the actor that begins, and of another one
pub later_own : (history : List Event) (owner : ℕ) (call : Call) (opens : Option ℕ) → account_of owner (history ++ Begin (begun history) owner call opens ∷ [])
    ≡ record (account_of owner history) { running = Some (begun_at (length history) (begun history) call) }
later_own history owner call opens =
    account_push owner history (Begin (begun history) owner call opens) ∙ begin_own owner (length history) (account_of owner history) (begun history) call opens

pub later_other : (history : List Event) (owner : ℕ) (call : Call) (opens : Option ℕ) (actor : ℕ) → (owner ≡ actor → ⊥) →
    account_of actor (history ++ Begin (begun history) owner call opens ∷ []) ≡ account_of actor history
later_other history owner call opens actor other =
    account_push actor history (Begin (begun history) owner call opens)
    ∙ begin_other actor (length history) (account_of actor history) (begun history) owner call opens other

pub ended_other : (account : Account) (place id : ℕ) (answer : Reply) (running : Option Running) →
    ((p : Shown) → told running ≡ Some p → p.0 ≡ id → ⊥) → account_ended account place id answer running ≡ account
ended_other account place id answer None other = refl
ended_other account place id answer (Some r) other = rw (ne_eqb r.id id (other (r.id, r.call) refl)) refl

-- the end of the operation that the account has
pub record IsAnswered (account : Account) (running : Option Running) (place id : ℕ) (answer : Reply) (after : Account) : Type 0 where
  pub operation : Running
  pub is : running ≡ Some operation
  pub same : operation.id ≡ id
  pub answered : after ≡ record { answers = account.answers ++ answered_at operation place answer ∷ []; running = None }

pub ended_own : (account : Account) (place : ℕ) (p : Shown) (answer : Reply) (running : Option Running) → told running ≡ Some p →
    IsAnswered account running place p.0 answer (account_ended account place p.0 answer running)
ended_own account place p answer None is = absurd (none-some p is)
ended_own account place p answer (Some r) is =
    let same : r.id ≡ p.0 = ap (λ q. q.0) (same_Some _ _ is) in
    record { operation = r; is = refl; same = same; answered = rw (eq-eqb r.id p.0 same) refl }

-- ---- the invariant

pub record Sound (now : Recorded) : Type 0 where
  pub fits : length now.state.actors ≡ now.state.limits.actors
  pub below : (k : ℕ) (p : Shown) → ran now.state.actors k ≡ Some p → p.0 < begun now.events
  pub apart : (i j : ℕ) (p q : Shown) → ran now.state.actors i ≡ Some p → ran now.state.actors j ≡ Some q → p.0 ≡ q.0 → i ≡ j
  pub match : (actor : ℕ) → runs now.state actor ≡ told (account_of actor now.events).running

-- ---- a begin

module _ (before after : Recorded) (sound : Sound before) (fits : length after.state.actors ≡ after.state.limits.actors) (k : ℕ) (call : Call) (opens : Option ℕ)
    (here : ran after.state.actors k ≡ Some (begun before.events, call))
    (others : (j : ℕ) → (j ≡ k → ⊥) → ran after.state.actors j ≡ ran before.state.actors j)
    (events : after.events ≡ before.events ++ Begin (begun before.events) (suc k) call opens ∷ []) where
  pub come_account : (actor : ℕ) → account_of actor after.events ≡
      account_after actor (length before.events) (account_of actor before.events) (Begin (begun before.events) (suc k) call opens)
  come_account actor = ap (λ es. account_of actor es) events ∙ account_push actor before.events _

  come_begun : begun after.events ≡ begun before.events + 1
  come_begun = ap begun events ∙ begun_push before.events (Begin _ _ call opens) refl

  come_below_by : (j : ℕ) (p : Shown) → ran after.state.actors j ≡ Some p → (j ≡ k) ⊎ (j ≡ k → ⊥) → p.0 < begun after.events
  come_below_by j p e (inl same) =
      let is : p.0 ≡ begun before.events = ap (λ q. q.0) (same_Some _ _ (sym e ∙ ap (λ i. ran after.state.actors i) same ∙ here)) in
      omega (arith, come_begun, is)
  come_below_by j p e (inr other) = omega (arith, come_begun, sound.below j p (sym (others j other) ∙ e))

  -- the new one has an id that no other has
  come_new : (i j : ℕ) (p q : Shown) → ran after.state.actors i ≡ Some p → ran after.state.actors j ≡ Some q → p.0 ≡ q.0 → i ≡ k → (j ≡ k → ⊥) → ⊥
  come_new i j p q e f same own other =
      let is : p.0 ≡ begun before.events = ap (λ r. r.0) (same_Some _ _ (sym e ∙ ap (λ n. ran after.state.actors n) own ∙ here)) in
      absurd (omega (arith, is, same, sound.below j q (sym (others j other) ∙ f)))

  come_apart_by : (i j : ℕ) (p q : Shown) → ran after.state.actors i ≡ Some p → ran after.state.actors j ≡ Some q → p.0 ≡ q.0 →
      (i ≡ k) ⊎ (i ≡ k → ⊥) → (j ≡ k) ⊎ (j ≡ k → ⊥) → i ≡ j
  come_apart_by i j p q e f same (inl a) (inl b) = a ∙ sym b
  come_apart_by i j p q e f same (inl a) (inr b) = absurd (come_new i j p q e f same a b)
  come_apart_by i j p q e f same (inr a) (inl b) = absurd (come_new j i q p f e (sym same) b a)
  come_apart_by i j p q e f same (inr a) (inr b) = sound.apart i j p q (sym (others i a) ∙ e) (sym (others j b) ∙ f) same

  come_match_by : (j : ℕ) → (j ≡ k) ⊎ (j ≡ k → ⊥) → ran after.state.actors j ≡ told (account_of (suc j) after.events).running
  come_match_by j (inl same) =
      let own : account_of (suc j) after.events ≡ record (account_of (suc j) before.events) { running = Some (begun_at (length before.events) (begun before.events) call) } =
      come_account (suc j) ∙ ap (λ n. account_after (suc j) (length before.events) (account_of (suc j) before.events) (Begin (begun before.events) (suc n) call opens)) (sym same)
      ∙ begin_own (suc j) (length before.events) (account_of (suc j) before.events) (begun before.events) call opens in
      ap (λ n. ran after.state.actors n) same ∙ here ∙ ap (λ a. told a.running) (sym own)
  come_match_by j (inr other) =
      others j other ∙ sound.match (suc j)
      ∙ ap (λ a. told a.running) (sym (come_account (suc j) ∙ begin_other (suc j) _ _ _ (suc k) call opens (λ e. other (omega (arith, e)))))

  come_match : (actor : ℕ) → runs after.state actor ≡ told (account_of actor after.events).running
  come_match zero = sound.match zero ∙ ap (λ a. told a.running) (sym (come_account zero ∙ begin_other zero _ _ _ (suc k) call opens (λ e. absurd (omega (arith, e)))))
  come_match (suc j) = come_match_by j (cases_eq j k)

  come_sound : Sound after
  come_sound = record {
    fits = fits;
    below = λ j p e. come_below_by j p e (cases_eq j k);
    apart = λ i j p q e f same. come_apart_by i j p q e f same (cases_eq i k) (cases_eq j k);
    match = come_match;
  }

-- ---- a step that tells nothing

module _ (before after : Recorded) (sound : Sound before) (fits : length after.state.actors ≡ after.state.limits.actors)
    (same : (j : ℕ) → ran after.state.actors j ≡ ran before.state.actors j) (events : after.events ≡ before.events) where
  stay_match : (actor : ℕ) → runs after.state actor ≡ told (account_of actor after.events).running
  stay_match zero = sound.match zero ∙ ap (λ es. told (account_of zero es).running) (sym events)
  stay_match (suc j) = same j ∙ sound.match (suc j) ∙ ap (λ es. told (account_of (suc j) es).running) (sym events)

  stay_sound : Sound after
  stay_sound = record {
    fits = fits;
    below = λ j p e. subst (λ es. p.0 < begun es) (sym events) (sound.below j p (sym (same j) ∙ e));
    apart = λ i j p q e f. sound.apart i j p q (sym (same i) ∙ e) (sym (same j) ∙ f);
    match = stay_match;
  }

-- ---- an end

module _ (before after : Recorded) (sound : Sound before) (fits : length after.state.actors ≡ after.state.limits.actors) (k : ℕ) (p : Shown) (answer : Reply)
    (had : ran before.state.actors k ≡ Some p) (none : ran after.state.actors k ≡ None) (others : (j : ℕ) → (j ≡ k → ⊥) → ran after.state.actors j ≡ ran before.state.actors j)
    (events : after.events ≡ before.events ++ End p.0 answer ∷ []) where
  pub leave_account : (actor : ℕ) → account_of actor after.events ≡ account_after actor (length before.events) (account_of actor before.events) (End p.0 answer)
  leave_account actor = ap (λ es. account_of actor es) events ∙ account_push actor before.events _

  leave_begun : begun after.events ≡ begun before.events
  leave_begun = ap begun events ∙ begun_same before.events (End _ answer) refl

  -- what still runs ran before, elsewhere
  leave_before_by : (j : ℕ) (q : Shown) → ran after.state.actors j ≡ Some q → (j ≡ k) ⊎ (j ≡ k → ⊥) → ran before.state.actors j ≡ Some q
  leave_before_by j q e (inl same) = absurd (none-some q (sym none ∙ ap (λ i. ran after.state.actors i) (sym same) ∙ e))
  leave_before_by j q e (inr other) = sym (others j other) ∙ e

  leave_before : (j : ℕ) (q : Shown) → ran after.state.actors j ≡ Some q → ran before.state.actors j ≡ Some q
  leave_before j q e = leave_before_by j q e (cases_eq j k)

  -- another actor's account has another operation
  pub leave_other : (actor : ℕ) → ((j : ℕ) → actor ≡ suc j → j ≡ k → ⊥) → account_of actor after.events ≡ account_of actor before.events
  leave_other zero other =
      leave_account zero ∙ ended_other (account_of zero before.events) (length before.events) p.0 answer (account_of zero before.events).running
      (λ q is e. absurd (none-some q (sound.match zero ∙ is)))
  leave_other (suc j) other =
      leave_account (suc j) ∙ ended_other (account_of (suc j) before.events) (length before.events) p.0 answer (account_of (suc j) before.events).running
      (λ q is e. other j refl (sound.apart j k q p (sound.match (suc j) ∙ is) had e))

  pub leave_own : IsAnswered (account_of (suc k) before.events) (account_of (suc k) before.events).running (length before.events) p.0 answer (account_of (suc k) after.events)
  leave_own =
      subst (λ a. IsAnswered (account_of (suc k) before.events) (account_of (suc k) before.events).running (length before.events) p.0 answer a) (sym (leave_account (suc k)))
      (ended_own (account_of (suc k) before.events) (length before.events) p answer (account_of (suc k) before.events).running (sym (sound.match (suc k)) ∙ had))

  leave_match_by : (j : ℕ) → (j ≡ k) ⊎ (j ≡ k → ⊥) → ran after.state.actors j ≡ told (account_of (suc j) after.events).running
  leave_match_by j (inl same) =
      ap (λ i. ran after.state.actors i) same ∙ none ∙ ap (λ a. told a.running) (sym leave_own.answered) ∙ ap (λ i. told (account_of (suc i) after.events).running) (sym same)
  leave_match_by j (inr other) =
      others j other ∙ sound.match (suc j)
      ∙ ap (λ a. told a.running) (sym (leave_other (suc j) (λ i e f. other (omega (arith, e, f)))))

  leave_match : (actor : ℕ) → runs after.state actor ≡ told (account_of actor after.events).running
  leave_match zero = sound.match zero ∙ ap (λ a. told a.running) (sym (leave_other zero (λ i e f. absurd (omega (arith, e)))))
  leave_match (suc j) = leave_match_by j (cases_eq j k)

  leave_sound : Sound after
  leave_sound = record {
    fits = fits;
    below = λ j q e. subst (λ n. q.0 < n) (sym leave_begun) (sound.below j q (leave_before j q e));
    apart = λ i j q r e f. sound.apart i j q r (leave_before i q e) (leave_before j r f);
    match = leave_match;
  }

-- ---- every run

pub kept : (before after : Recorded) (s : Step) (o : Outcome) → Sound before → length after.state.actors ≡ after.state.limits.actors → Turns before after s o → Sound after
kept before after s o sound fits (Comes k call number opens within idle here others events) = come_sound before after sound fits k call opens here others events
kept before after s o sound fits (Stays k p kind had same events) = stay_sound before after sound fits same events
kept before after s o sound fits (Quits k p kind had same events) = stay_sound before after sound fits same events
kept before after s o sound fits (Leaves k p answer had none others events) = leave_sound before after sound fits k p answer had none others events
kept before after s o sound fits (Rests swept same events) = stay_sound before after sound fits same events

pub fits_after : (before after : State) (s : Step) (o : Outcome) → Moves before s o after → length before.actors ≡ before.limits.actors → length after.actors ≡ after.limits.actors
fits_after before after s o m fits = actors_length before s o after m ∙ fits ∙ ap (λ l. l.actors) (sym (limits_kept before s o after m))

-- at first none runs
none_shown : (n k : ℕ) → ran (replicate n None) k ≡ None
none_shown zero k = refl
none_shown (suc n) zero = refl
none_shown (suc n) (suc k) = none_shown n k

first_runs : (limits : Bounds) (actor : ℕ) → runs (first_state limits) actor ≡ None
unfolding first_state
first_runs limits zero = refl
first_runs limits (suc k) = none_shown limits.actors k

pub sound_at_first : (limits : Bounds) → Sound (recorded (first_state limits) (first_record limits))
unfolding first_state account_from
sound_at_first limits = record {
  fits = length-replicate limits.actors None;
  below = λ k p e. absurd (none-some p (sym (none_shown limits.actors k) ∙ e));
  apart = λ i j p q e f same. absurd (none-some p (sym (none_shown limits.actors i) ∙ e));
  match = λ actor. first_runs limits actor;
}

pub sound_along : (limits : Bounds) (steps : List Step) → Sound (recorded_of limits steps)
sound_along limits = along_with limits (λ state past. Sound (recorded state past)) (sound_at_first limits) (λ steps s o after m sound. kept (recorded_of limits steps)
    (recorded after (noted (record_of limits steps) (run limits steps).steps (told_in (run limits steps) s))) s o sound
    (fits_after (run limits steps) after s o m sound.fits) (turns (run limits steps) (record_of limits steps) s o after sound.fits (alike_along limits steps).begun_are m))

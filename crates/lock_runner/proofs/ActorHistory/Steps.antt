-- The laws, from what each step does.
use Rattle.std.specs.Prelude.{◌≡◌, ℕ, zero, suc, List, [], ◌∷◌, ◌++◌, length, Option, Some, None, Ok, Err}
use Rattle.std.proofs.Common.{cond, refl, sym, ap, subst, ◌∙◌}
use Rattle.std.proofs.lemmas.Option.{none-some}
use Rattle.lock_runner.specs.Vocabulary.{Refusal, Operation, Step, Outcome, State, first_state, operation_of, Bounds, is_taken_step, next, run, Record, first_record, noted, record_of, told_in}
use Rattle.lock_runner.specs.Beneath.machine_model.proofs.Alike.{alike_along}
use Rattle.lock_runner.specs.Beneath.machine_model.proofs.Recorded.{record_push}
use Rattle.lock_runner.specs.Beneath.machine_model.proofs.Moves.{moved}
use Rattle.lock_runner.specs.declared.accounts.Running.{Running}
use Rattle.lock_runner.specs.ActorHistory.{account_of}
use Rattle.lock_runner.specs.ActorHistory.Laws.{IsStepOf, IsMadeBy, RunningIdsDiffer, OthersLeaveTheAccount, OwnStepsMakeTheAccount}
use Rattle.lock_runner.proofs.ActorHistory.Turns.{Recorded, recorded, recorded_of, Shown, shown, Turns, Comes, Stays, Quits, Leaves, Rests, turns}
use Rattle.lock_runner.proofs.ActorHistory.Sound.{told, Sound, sound_along, fits_after, begin_own, begin_other, come_account, leave_other, leave_own}

differ : (state : State) (past : Record) → Sound (recorded state past) → (i j : ℕ) (a b : Operation) → operation_of state i ≡ Some a → operation_of state j ≡ Some b → a.id ≡ b.id → i ≡ j
differ state past sound zero j a b e f same = absurd (none-some a e)
differ state past sound (suc i) zero a b e f same = absurd (none-some b f)
differ state past sound (suc i) (suc j) a b e f same = ap (λ n. suc n) (sound.apart i j (a.id, a.call) (b.id, b.call) (ap shown e) (ap shown f) same)

pub running_ids_differ : RunningIdsDiffer
running_ids_differ limits steps i j a b e f same = differ (run limits steps) (record_of limits steps) (sound_along limits steps) i j a b e f same

-- a step of another actor, or of the sweep
pub others_leave : (before after : Recorded) (s : Step) (o : Outcome) → Sound before → length after.state.actors ≡ after.state.limits.actors → Turns before after s o → (actor : ℕ) →
    (IsStepOf actor s → ⊥) → account_of actor after.events ≡ account_of actor before.events
others_leave before after s o sound fits (Comes k call number opens within idle here others events) actor other =
    come_account before after sound fits k call opens here others events actor
    ∙ begin_other actor (length before.events) (account_of actor before.events) _ (suc k) call opens other
others_leave before after s o sound fits (Stays k p kind had same events) actor other = ap (λ es. account_of actor es) events
others_leave before after s o sound fits (Quits k p kind had same events) actor other = ap (λ es. account_of actor es) events
others_leave before after s o sound fits (Leaves k p answer had none others events) actor other =
    leave_other before after sound fits k p answer had none others events actor (λ j e f. other (sym (e ∙ ap (λ n. suc n) f)))
others_leave before after s o sound fits (Rests swept same events) actor other = ap (λ es. account_of actor es) events

-- ---- what is recorded behind a step that is taken

noted_push : (limits : Bounds) (steps : List Step) (s : Step) (o : Outcome) (after : State) → next (run limits steps) s ≡ Ok (o, after) →
    record_of limits (steps ++ s ∷ []) ≡ noted (record_of limits steps) (run limits steps).steps (told_in (run limits steps) s)
noted_push limits steps s o after e =
    record_push (first_state limits) (first_record limits) steps s
    ∙ ap (λ answer. cond (is_taken_step answer) (noted (record_of limits steps) (run limits steps).steps (told_in (run limits steps) s)) (record_of limits steps)) e

-- of a denied one nothing
pub denied_push : (limits : Bounds) (steps : List Step) (s : Step) (refusal : Refusal) → next (run limits steps) s ≡ Err refusal →
    record_of limits (steps ++ s ∷ []) ≡ record_of limits steps
denied_push limits steps s refusal e =
    record_push (first_state limits) (first_record limits) steps s
    ∙ ap (λ answer. cond (is_taken_step answer) (noted (record_of limits steps) (run limits steps).steps (told_in (run limits steps) s)) (record_of limits steps)) e

-- the parts of a law about such a step
module _ (limits : Bounds) (steps : List Step) (s : Step) (o : Outcome) (after : State) (e : next (run limits steps) s ≡ Ok (o, after)) where
  abbrev behind : Recorded
  behind = recorded after (noted (record_of limits steps) (run limits steps).steps (told_in (run limits steps) s))

  same_events : (record_of limits (steps ++ s ∷ [])).events ≡ behind.events
  same_events = ap (λ (r : Record). r.events) (noted_push limits steps s o after e)

  turn_behind : Turns (recorded_of limits steps) behind s o
  turn_behind =
      turns (run limits steps) (record_of limits steps) s o after (sound_along limits steps).fits (alike_along limits steps).begun_are (moved (run limits steps) s o after e)

  fits_behind : length after.actors ≡ after.limits.actors
  fits_behind = fits_after (run limits steps) after s o (moved (run limits steps) s o after e) (sound_along limits steps).fits

pub others_leave_the_account : OthersLeaveTheAccount
others_leave_the_account limits steps s o after e actor other =
    ap (λ es. account_of actor es) (same_events limits steps s o after e)
    ∙ others_leave (recorded_of limits steps) (behind limits steps s o after e) s o (sound_along limits steps)
    (fits_behind limits steps s o after e) (turn_behind limits steps s o after e) actor other

-- an account runs nothing, or something, as the machine does
pub none_told : (r : Option Running) → told r ≡ None → r ≡ None
none_told None e = refl
none_told (Some r) e = absurd (none-some _ (sym e))

some_told : (r : Option Running) (p : Shown) → told r ≡ Some p → r ≡ None → ⊥
some_told None p e none = none-some p e
some_told (Some r) p e none = none-some r (sym none)

pub own_step : (before after : Recorded) (s : Step) (o : Outcome) → Sound before → length after.state.actors ≡ after.state.limits.actors → Turns before after s o → (actor : ℕ) →
    IsStepOf actor s → IsMadeBy before.events actor (account_of actor before.events) s o (account_of actor after.events)
own_step before after s o sound fits (Comes k call number opens within idle here others events) actor own =
    let none : (account_of (suc k) before.events).running ≡ None = none_told _ (sym (sound.match (suc k)) ∙ idle) in
    let made = come_account before after sound fits k call opens here others events (suc k)
    ∙ begin_own (suc k) (length before.events) (account_of (suc k) before.events) _ call opens in
    subst (λ a. IsMadeBy before.events a (account_of a before.events) s o (account_of a after.events)) own (none, made)
own_step before after s o sound fits (Stays k p kind had same events) actor own = (
  ap (λ es. account_of actor es) events,
  subst (λ a. (account_of a before.events).running ≡ None → ⊥) own (some_told _ p (sym (sound.match (suc k)) ∙ had)),
)
own_step before after s o sound fits (Quits k p kind had same events) actor own = (
  ap (λ es. account_of actor es) events,
  subst (λ a. (account_of a before.events).running ≡ None → ⊥) own (some_told _ p (sym (sound.match (suc k)) ∙ had)),
)
own_step before after s o sound fits (Leaves k p answer had none others events) actor own =
    let made = leave_own before after sound fits k p answer had none others events in
    subst (λ a. IsMadeBy before.events a (account_of a before.events) s o (account_of a after.events)) own (made.operation, made.is, made.same, made.answered)
own_step before after s o sound fits (Rests swept same events) actor own = absurd own

pub own_steps_make_the_account : OwnStepsMakeTheAccount
own_steps_make_the_account limits steps s o after e actor own =
    subst (λ es. IsMadeBy (record_of limits steps).events actor (account_of actor (record_of limits steps).events) s o (account_of actor es))
    (sym (same_events limits steps s o after e))
    (own_step (recorded_of limits steps) (behind limits steps s o after e) s o (sound_along limits steps)
    (fits_behind limits steps s o after e) (turn_behind limits steps s o after e) actor own)

-- An account's answers are the actor's ended operations, along every run.
use Rattle.std.specs.Prelude.{◌≡◌, ℕ, suc, ◌+◌, ◌<◌, ◌⊎◌, List, [], ◌∷◌, ◌++◌, length, Option, Some, slice_get}
use Rattle.std.proofs.Common.{refl, sym, ap, subst, ◌∙◌, inl, inr, arith}
use Rattle.std.proofs.lemmas.Bool.{cases_eq}
use Rattle.std.proofs.lemmas.Option.{none-some, same_Some, slice_get_within}
use Rattle.lock_runner.specs.Vocabulary.{Call, Reply, Event, End, BeginsAt, EndsAt, HasEnded, begun, Bounds, Step, Outcome, run, first_record, noted, record_of, told_in}
use Rattle.history.specs.declared.events.Event.TheVariants.{Begin}
use Rattle.history.specs.Histories.{Operation}
use Rattle.lock_runner.specs.Beneath.machine_model.proofs.Alike.{alike_along}
use Rattle.lock_runner.specs.Beneath.machine_model.proofs.Recorded.{along_with}
use Rattle.lock_runner.specs.declared.accounts.Answer.{Answer}
use Rattle.lock_runner.specs.declared.accounts.Running.{Running}
use Rattle.lock_runner.specs.ActorHistory.{account_of, account_from, begun_at, answered_at}
use Rattle.lock_runner.specs.ActorHistory.Answers.{IsOperationOf, IsToldIn, AreAnswersOf}
use Rattle.lock_runner.specs.ActorHistory.Laws.{AnswersAreThoseOfTheHistory}
use Rattle.lock_runner.proofs.ActorHistory.Turns.{Recorded, recorded, recorded_of, Turns, Comes, Stays, Quits, Leaves, Rests, turns}
use Rattle.history.proofs.Begins.{begun_push, begun_same}
use Rattle.history.proofs.Places.{at_cases, at_front, at_seam}
use Rattle.lock_runner.proofs.ActorHistory.Sound.{Sound, IsAnswered, sound_along, fits_after, later_own, later_other, leave_other, leave_own}

-- ---- events

-- two begins that are the same
pub same_begin : (a b : Event) (id owner jd other : ℕ) (call dall : Call) (opens closes : Option ℕ) → a ≡ Begin id owner call opens → b ≡ Begin jd other dall closes → a ≡ b →
    (id ≡ jd) × (owner ≡ other)
same_begin a b id owner jd other call dall opens closes e f same = (cc, cc)

pub same_end : (a : Event) (id jd : ℕ) (answer bnswer : Reply) → a ≡ End id answer → a ≡ End jd bnswer → id ≡ jd
same_end a id jd answer bnswer e f = cc

pub apart_events : {A : Type 0} (id owner jd : ℕ) (call : Call) (opens : Option ℕ) (answer : Reply) → Begin id owner call opens ≡ End jd answer → A
apart_events id owner jd call opens answer e = cc

-- an operation that is shown as its actor's
abbrev opened : ℕ → Running → Option ℕ → Operation
opened actor running opens = record { actor = actor; call = running.call; opens = opens }

-- ---- answers

-- the answer stands in a longer history
told_left : (history rest : List Event) (actor : ℕ) (answer : Answer) → IsToldIn history actor answer → IsToldIn (history ++ rest) actor answer
told_left history rest actor answer so = record {
  opens = so.opens;
  begin = at_front history rest answer.began _ so.begin;
  end = at_front history rest answer.ended _ so.end;
}

-- an event that tells the actor nothing
more_events : (actor : ℕ) (history : List Event) (event : Event) (answers : List Answer) → AreAnswersOf actor history answers →
    ((place id : ℕ) (reply : Reply) → EndsAt history place id reply → IsOperationOf (history ++ event ∷ []) actor id → IsOperationOf history actor id) →
    ((id : ℕ) (reply : Reply) → event ≡ End id reply → IsOperationOf (history ++ event ∷ []) actor id → ⊥) →
    AreAnswersOf actor (history ++ event ∷ []) answers
more_events actor history event answers so old new = record {
  each = λ k answer e. told_left history (event ∷ []) actor answer (so.each k answer e);
  all = λ place id reply e own. elim (at_cases history event place _ e) [
    | inl h ↦ so.all place id reply h (old place id reply h own)
    | inr h ↦ absurd (new id reply h.1 own)
  ];
  rising = so.rising;
}

-- behind an end no operation is new
begun_before_end : (actor : ℕ) (history : List Event) (id jd : ℕ) (reply : Reply) → IsOperationOf (history ++ End jd reply ∷ []) actor id → IsOperationOf history actor id
begun_before_end actor history id jd reply own = elim (at_cases history (End jd reply) own.0 _ own.2) [
  | inl h ↦ (own.0, own.1, h, own.3)
  | inr h ↦ apart_events _ _ _ _ _ _ (sym h.1)
]

module _ (actor : ℕ) (history : List Event) (operation : Running) (opens : Option ℕ) (reply : Reply) (answers : List Answer)
    (so : AreAnswersOf actor history answers) (begin : BeginsAt history operation.began operation.id (opened actor operation opens)) where
  abbrev answered : List Event
  answered = history ++ End operation.id reply ∷ []

  abbrev last : Answer
  last = answered_at operation (length history) reply

  last_told : IsToldIn answered actor last
  last_told = record {
    opens = opens;
    begin = at_front history (End operation.id reply ∷ []) operation.began _ begin;
    end = at_seam history [] (End operation.id reply);
  }

  one_each : (k : ℕ) (answer : Answer) → slice_get (answers ++ last ∷ []) k ≡ Some answer → IsToldIn answered actor answer
  one_each k answer e = elim (at_cases answers last k answer e) [
    | inl h ↦ told_left history _ actor answer (so.each k answer h)
    | inr h ↦ subst (λ a. IsToldIn answered actor a) h.1 last_told
  ]

  one_all : (place id : ℕ) (r : Reply) → EndsAt answered place id r → IsOperationOf answered actor id →
      (k : ℕ) × (answer : Answer) × (slice_get (answers ++ last ∷ []) k ≡ Some answer) × (answer.ended ≡ place)
  one_all place id r e own = elim (at_cases history (End operation.id reply) place _ e) [
    | inl h ↦ let found = so.all place id r h (begun_before_end actor history id operation.id reply own) in
        (found.0, found.1, at_front answers (last ∷ []) found.0 found.1 found.2, found.3)
    | inr h ↦ (length answers, last, at_seam answers [] last, sym h.0)
  ]

  one_rising : (j k : ℕ) (earlier later : Answer) → j < k → slice_get (answers ++ last ∷ []) j ≡ Some earlier →
      slice_get (answers ++ last ∷ []) k ≡ Some later → earlier.ended < later.ended
  one_rising j k earlier later within e f = elim (at_cases answers last k later f) [
    | inl h ↦ elim (at_cases answers last j earlier e) [
      | inl g ↦ so.rising j k earlier later within g h
      | inr g ↦ absurd (omega (arith, g.0, within, slice_get_within answers k later h))
    ]
    | inr h ↦ elim (at_cases answers last j earlier e) [
      | inl g ↦ subst (λ (a : Answer). earlier.ended < a.ended) h.1 (slice_get_within history earlier.ended _ (so.each j earlier g).end)
      | inr g ↦ absurd (omega (arith, g.0, h.0, within))
    ]
  ]

  one_more : AreAnswersOf actor answered (answers ++ last ∷ [])
  one_more = record { each = one_each; all = one_all; rising = one_rising }

-- ---- the invariant

pub record Told (history : List Event) : Type 0 where
  pub ids : (place id : ℕ) (operation : Operation) → BeginsAt history place id operation → id < begun history
  pub ends : (place id : ℕ) (reply : Reply) → EndsAt history place id reply → id < begun history
  pub unique : (p q id : ℕ) (a b : Operation) → BeginsAt history p id a → BeginsAt history q id b → p ≡ q
  pub begins : (actor : ℕ) (running : Running) → (account_of actor history).running ≡ Some running →
      (opens : Option ℕ) × BeginsAt history running.began running.id (opened actor running opens)
  pub unended : (actor : ℕ) (running : Running) → (account_of actor history).running ≡ Some running → (reply : Reply) → ¬ HasEnded history running.id reply
  pub right : (actor : ℕ) → AreAnswersOf actor history (account_of actor history).answers

-- ---- a begin

module _ (history : List Event) (told : Told history) (owner : ℕ) (call : Call) (opens : Option ℕ) where
  abbrev begin : Event
  begin = Begin (begun history) owner call opens

  abbrev later : List Event
  later = history ++ begin ∷ []

  later_begun : begun later ≡ begun history + 1
  later_begun = begun_push history begin refl

  later_ids : (place id : ℕ) (operation : Operation) → BeginsAt later place id operation → id < begun later
  later_ids place id operation e = elim (at_cases history begin place _ e) [
    | inl h ↦ omega (arith, later_begun, told.ids place id operation h)
    | inr h ↦ let same = (same_begin _ _ _ _ _ _ _ _ _ _ refl refl h.1).0 in omega (arith, later_begun, same)
  ]

  later_ends : (place id : ℕ) (reply : Reply) → EndsAt later place id reply → (EndsAt history place id reply) × (id < begun history)
  later_ends place id reply e = elim (at_cases history begin place _ e) [
    | inl h ↦ (h, told.ends place id reply h)
    | inr h ↦ apart_events _ _ _ _ _ _ h.1
  ]

  later_unique : (p q id : ℕ) (a b : Operation) → BeginsAt later p id a → BeginsAt later q id b → p ≡ q
  later_unique p q id a b e f = elim (at_cases history begin p _ e) [
    | inl g ↦ elim (at_cases history begin q _ f) [
      | inl h ↦ told.unique p q id a b g h
      | inr h ↦ absurd (omega (arith, told.ids p id a g, (same_begin _ _ _ _ _ _ _ _ _ _ refl refl h.1).0))
    ]
    | inr g ↦ elim (at_cases history begin q _ f) [
      | inl h ↦ absurd (omega (arith, told.ids q id b h, (same_begin _ _ _ _ _ _ _ _ _ _ refl refl g.1).0))
      | inr h ↦ g.0 ∙ sym h.0
    ]
  ]

  -- the new one is what its actor runs
  later_new : (running : Running) → (account_of owner later).running ≡ Some running → begun_at (length history) (begun history) call ≡ running
  later_new running e = same_Some _ _ (ap (λ a. a.running) (sym (later_own history owner call opens)) ∙ e)

  later_begins_own : (running : Running) → (account_of owner later).running ≡ Some running →
      (o : Option ℕ) × BeginsAt later running.began running.id (opened owner running o)
  later_begins_own running e = (opens, subst (λ r. BeginsAt later r.began r.id (opened owner r opens)) (later_new running e) (at_seam history [] begin))

  later_begins_by : (actor : ℕ) → (owner ≡ actor) ⊎ (owner ≡ actor → ⊥) → (running : Running) → (account_of actor later).running ≡ Some running →
      (o : Option ℕ) × BeginsAt later running.began running.id (opened actor running o)
  later_begins_by actor (inl own) =
      subst (λ a. (running : Running) → (account_of a later).running ≡ Some running → (o : Option ℕ) × BeginsAt later running.began running.id (opened a running o)) own later_begins_own
  later_begins_by actor (inr other) = λ running e.
      let was = told.begins actor running (ap (λ a. a.running) (sym (later_other history owner call opens actor other)) ∙ e) in
      (was.0, at_front history (begin ∷ []) running.began _ was.1)

  -- no end has the new one's id
  later_unended_by : (actor : ℕ) → (owner ≡ actor) ⊎ (owner ≡ actor → ⊥) → (running : Running) → (account_of actor later).running ≡ Some running →
      (reply : Reply) → ¬ HasEnded later running.id reply
  later_unended_by actor (inl own) running e reply ended =
      let same = later_new running (ap (λ a. (account_of a later).running) own ∙ e) in
      absurd (omega (arith, (later_ends ended.0 running.id reply ended.1).1, ap (λ r. r.id) same))
  later_unended_by actor (inr other) running e reply ended =
      told.unended actor running (ap (λ a. a.running) (sym (later_other history owner call opens actor other)) ∙ e) reply
      (ended.0, (later_ends ended.0 running.id reply ended.1).0)

  later_answers_by : (actor : ℕ) → (owner ≡ actor) ⊎ (owner ≡ actor → ⊥) → (account_of actor later).answers ≡ (account_of actor history).answers
  later_answers_by actor (inl own) = subst (λ a. (account_of a later).answers ≡ (account_of a history).answers) own (ap (λ a. a.answers) (later_own history owner call opens))
  later_answers_by actor (inr other) = ap (λ a. a.answers) (later_other history owner call opens actor other)

  -- an operation that has ended isn't the new one
  later_old : (actor place id : ℕ) (reply : Reply) → EndsAt history place id reply → IsOperationOf later actor id → IsOperationOf history actor id
  later_old actor place id reply e own = elim (at_cases history begin own.0 _ own.2) [
    | inl h ↦ (own.0, own.1, h, own.3)
    | inr h ↦ absurd (omega (arith, told.ends place id reply e, (same_begin _ _ _ _ _ _ _ _ _ _ refl refl h.1).0))
  ]

  later_right : (actor : ℕ) → AreAnswersOf actor later (account_of actor later).answers
  later_right actor =
      subst (λ answers. AreAnswersOf actor later answers) (sym (later_answers_by actor (cases_eq owner actor)))
      (more_events actor history begin (account_of actor history).answers (told.right actor) (later_old actor)
      (λ id reply e own. apart_events _ _ _ _ _ _ e))

  pub later_told : Told later
  later_told = record {
    ids = later_ids;
    ends = λ place id reply e. omega (arith, later_begun, (later_ends place id reply e).1);
    unique = later_unique;
    begins = λ actor. later_begins_by actor (cases_eq owner actor);
    unended = λ actor. later_unended_by actor (cases_eq owner actor);
    right = later_right;
  }

-- ---- an end

module _ (history : List Event) (told : Told history) (owner id : ℕ) (reply : Reply)
    (own : IsAnswered (account_of owner history) (account_of owner history).running (length history) id reply (account_of owner (history ++ End id reply ∷ [])))
    (others : (actor : ℕ) → (owner ≡ actor → ⊥) → account_of actor (history ++ End id reply ∷ []) ≡ account_of actor history) where
  abbrev ended : List Event
  ended = history ++ End id reply ∷ []

  -- its begin stands in the history
  own_begin : (o : Option ℕ) × BeginsAt history own.operation.began own.operation.id (opened owner own.operation o)
  own_begin = told.begins owner own.operation own.is

  ended_begins : (place jd : ℕ) (operation : Operation) → BeginsAt ended place jd operation → BeginsAt history place jd operation
  ended_begins place jd operation e = elim (at_cases history (End id reply) place _ e) [
    | inl h ↦ h
    | inr h ↦ apart_events _ _ _ _ _ _ (sym h.1)
  ]

  ended_ends : (place jd : ℕ) (r : Reply) → EndsAt ended place jd r → jd < begun ended
  ended_ends place jd r e = elim (at_cases history (End id reply) place _ e) [
    | inl h ↦ omega (arith, begun_same history (End id reply) refl, told.ends place jd r h)
    | inr h ↦ omega (arith, begun_same history (End id reply) refl, same_end _ id jd reply r refl h.1, own.same, told.ids _ _ _ own_begin.1)
  ]

  -- the operation that ends is this actor's alone
  only_own : (actor : ℕ) → IsOperationOf ended actor id → owner ≡ actor
  only_own actor of =
      let there : BeginsAt history of.0 id of.1 = ended_begins of.0 id of.1 of.2 in
      let here : BeginsAt history own.operation.began id (opened owner own.operation own_begin.0) =
      subst (λ n. BeginsAt history own.operation.began n (opened owner own.operation own_begin.0)) own.same own_begin.1 in
      let place : own.operation.began ≡ of.0 = told.unique _ _ id _ _ here there in
      let both = sym here ∙ ap (λ p. slice_get history p) place ∙ there in
      (same_begin _ _ _ _ _ _ _ _ _ _ refl refl (same_Some _ _ both)).1 ∙ of.3

  ended_begins_by : (actor : ℕ) → (owner ≡ actor) ⊎ (owner ≡ actor → ⊥) → (running : Running) → (account_of actor ended).running ≡ Some running →
      (o : Option ℕ) × BeginsAt ended running.began running.id (opened actor running o)
  ended_begins_by actor (inl is) running e =
      absurd (none-some running (ap (λ a. a.running) (sym own.answered) ∙ ap (λ n. (account_of n ended).running) is ∙ e))
  ended_begins_by actor (inr other) running e =
      let was = told.begins actor running (ap (λ a. a.running) (sym (others actor other)) ∙ e) in
      (was.0, at_front history (End id reply ∷ []) running.began _ was.1)

  -- what ended was another operation
  ended_unended_by : (actor : ℕ) → (owner ≡ actor) ⊎ (owner ≡ actor → ⊥) → (running : Running) → (account_of actor ended).running ≡ Some running →
      (r : Reply) → ¬ HasEnded ended running.id r
  ended_unended_by actor (inl is) running e r h = absurd (none-some running (ap (λ a. a.running) (sym own.answered) ∙ ap (λ n. (account_of n ended).running) is ∙ e))
  ended_unended_by actor (inr other) running e r h =
      let begin = ended_begins_by actor (inr other) running e in
      elim (at_cases history (End id reply) h.0 _ h.1) [
        | inl g ↦ told.unended actor running (ap (λ a. a.running) (sym (others actor other)) ∙ e) r (h.0, g)
        | inr g ↦ other (only_own actor (
          running.began,
          opened actor running begin.0,
          subst (λ n. BeginsAt ended running.began n (opened actor running begin.0)) (sym (same_end _ id running.id reply r refl g.1)) begin.1,
          refl,
        ))
      ]

  ended_right_own : AreAnswersOf owner ended (account_of owner ended).answers
  ended_right_own =
      subst (λ answers. AreAnswersOf owner ended answers) (ap (λ a. a.answers) (sym own.answered))
      (subst (λ n. AreAnswersOf owner (history ++ End n reply ∷ []) ((account_of owner history).answers ++ answered_at own.operation (length history) reply ∷ [])) own.same
      (one_more owner history own.operation own_begin.0 reply (account_of owner history).answers (told.right owner) own_begin.1))

  ended_right_by : (actor : ℕ) → (owner ≡ actor) ⊎ (owner ≡ actor → ⊥) → AreAnswersOf actor ended (account_of actor ended).answers
  ended_right_by actor (inl is) = subst (λ a. AreAnswersOf a ended (account_of a ended).answers) is ended_right_own
  ended_right_by actor (inr other) =
      subst (λ answers. AreAnswersOf actor ended answers) (ap (λ a. a.answers) (sym (others actor other)))
      (more_events actor history (End id reply) (account_of actor history).answers (told.right actor)
      (λ place jd r e of. begun_before_end actor history jd id reply of)
      (λ jd r e of. other (only_own actor (subst (λ n. IsOperationOf ended actor n) (sym (same_end _ id jd reply r refl e)) of))))

  pub ended_told : Told ended
  ended_told = record {
    ids = λ place jd operation e. omega (arith, begun_same history (End id reply) refl, told.ids place jd operation (ended_begins place jd operation e));
    ends = ended_ends;
    unique = λ p q jd a b e f. told.unique p q jd a b (ended_begins p jd a e) (ended_begins q jd b f);
    begins = λ actor. ended_begins_by actor (cases_eq owner actor);
    unended = λ actor. ended_unended_by actor (cases_eq owner actor);
    right = λ actor. ended_right_by actor (cases_eq owner actor);
  }

-- ---- every run

told_after : (before after : Recorded) (s : Step) (o : Outcome) → Sound before → length after.state.actors ≡ after.state.limits.actors → Turns before after s o → Told before.events → Told after.events
told_after before after s o sound fits (Comes k call number opens within idle here others events) told = subst Told (sym events) (later_told before.events told (suc k) call opens)
told_after before after s o sound fits (Stays k p kind had same events) told = subst Told (sym events) told
told_after before after s o sound fits (Quits k p kind had same events) told = subst Told (sym events) told
told_after before after s o sound fits (Leaves k p answer had none others events) told =
    let Own : List Event → Type 0 = λ es. IsAnswered (account_of (suc k) before.events) (account_of (suc k) before.events).running (length before.events) p.0 answer (account_of (suc k) es) in
    let Others : List Event → Type 0 = λ es. (actor : ℕ) → (suc k ≡ actor → ⊥) → account_of actor es ≡ account_of actor before.events in
    subst Told (sym events)
    (ended_told before.events told (suc k) p.0 answer (subst Own events (leave_own before after sound fits k p answer had none others events))
    (subst Others events (λ actor other. leave_other before after sound fits k p answer had none others events actor (λ j e f. other (sym (e ∙ ap (λ n. suc n) f))))))
told_after before after s o sound fits (Rests swept same events) told = subst Told (sym events) told

told_at_first : Told []
unfolding account_from
told_at_first = record {
  ids = λ place id operation e. absurd (none-some _ e);
  ends = λ place id reply e. absurd (none-some _ e);
  unique = λ p q id a b e f. absurd (none-some _ e);
  begins = λ actor running e. absurd (none-some running e);
  unended = λ actor running e reply ended. absurd (none-some running e);
  right = λ actor. record {
    each = λ k answer e. absurd (none-some _ e);
    all = λ place id reply e own. absurd (none-some _ e);
    rising = λ j k earlier later within e f. absurd (none-some _ e);
  };
}

first_told : (limits : Bounds) → Told (first_record limits).events
first_told limits = told_at_first

pub told_along : (limits : Bounds) (steps : List Step) → Told (record_of limits steps).events
told_along limits = along_with limits (λ state past. Told past.events) (first_told limits)
    (λ steps s o after m told. let sound = sound_along limits steps in
    told_after (recorded_of limits steps) (recorded after (noted (record_of limits steps) (run limits steps).steps (told_in (run limits steps) s))) s o sound
    (fits_after (run limits steps) after s o m sound.fits) (turns (run limits steps) (record_of limits steps) s o after sound.fits (alike_along limits steps).begun_are m) told)

pub answers_are_those_of_the_history : AnswersAreThoseOfTheHistory
answers_are_those_of_the_history limits steps actor = (told_along limits steps).right actor

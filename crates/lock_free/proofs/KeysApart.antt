-- A key that one actor alone has called on.
use Rattle.std.proofs.Common.{◌≡◌, ◌≢◌, ◌<◌, ◌≤◌, ℕ, inl, inr, false, All, List, Contains, filter, Option, Some, None, slice_get, refl, sym, ap, subst, ◌∙◌, arith}
use Rattle.std.proofs.lemmas.Bool.{cases_eq, true≢false}
use Rattle.std.proofs.lemmas.List.Elements.{All-nil}
use Rattle.std.proofs.lemmas.Option.{get_or_from_slice_get, none-some, slice_get_within}
use Rattle.history.specs.declared.calls.Call.{Call}
use Rattle.history.specs.declared.events.Event.{Event}
use Rattle.history.specs.declared.events.Event.TheVariants.{Begin, End}
use Rattle.history.specs.Histories.{Operation, BeginsAt}
use Rattle.history.proofs.Places.{at_cases}
use Rattle.machine_model.specs.declared.steps.Outcome.{Outcome}
use Rattle.machine_model.specs.declared.steps.Step.{Step}
use Rattle.machine_model.specs.Machine.{begun_operation, run}
use Rattle.machine_model.specs.Moves.{Moves, Begins, Goes, Ends, GivesUp, Sweeps}
use Rattle.machine_model.specs.Records.{Record, noted, record_of}
use Rattle.machine_model.specs.States.{State, operation_of}
use Rattle.machine_model.specs.Tellings.{told_in}
use Rattle.machine_model.proofs.Along.{limits_along}
use Rattle.machine_model.proofs.Notes.{noted_going, noted_ending}
use Rattle.machine_model.proofs.Recorded.{along_with}
use Rattle.proof_linearizable.specs.Beneath.proof_order.proofs.History.Books.{Books, within_actors}
use Rattle.proof_linearizable.specs.Beneath.proof_order.proofs.Views.Unconditional.{books_of}
use Rattle.lock_free.specs.declared.accounts.Account.{Account}
use Rattle.lock_free.specs.declared.rules.View.{View}
use Rattle.lock_free.specs.declared.sizes.Sizes.{Sizes}
use Rattle.lock_free.specs.Accounts.{bounds_for, past_of, state_of}
use Rattle.lock_free.specs.Answers.{Answer, Begun, Talk, silent, talk_at, talk_of}
use Rattle.lock_free.specs.Finishing.{IsTold}
use Rattle.lock_free.specs.KeysApart.{HaveAll, KeepsOff, KeysApartAreAnswered, RestingSeatsRunNothing, FirstSeatIsSilent}
use Rattle.lock_free.specs.OneKey.{is_on, touches, HasToItself, KeyReplays}
use Rattle.lock_free.specs.SeatWords.{IsIdle}
use Rattle.lock_free.specs.Telling.{history_of}
use Rattle.lock_free.proofs.AnswersTold.{first_silent}
use Rattle.lock_free.proofs.OwnKeys.{own_keys_are_answered}
use Rattle.lock_free.proofs.Timelines.{line_of, busy, Follows}

-- ---- who begins is an actor of the map

abbrev AreActors : ℕ → List Event → Type 0
AreActors seats events = (place id : ℕ) (o : Operation) → BeginsAt events place id o → (1 ≤ o.actor) × (o.actor ≤ seats)

begin_is_no_end : (id other actor : ℕ) (call : Call) (opens : Option ℕ) (reply : _) → Begin id actor call opens ≡ End other reply → ⊥
begin_is_no_end id other actor call opens reply e = grind arith

more_actors : (seats : ℕ) (state : State) (past : Record) (s : Step) (o : Outcome) (after : State) → Moves state s o after → state.limits.actors ≡ seats → AreActors seats past.events →
    AreActors seats (noted past state.steps (told_in state s)).events
more_actors seats state past s o after (Begins {actor} {call} {number} d) limits before place id b at =
    let it = begun_operation state call number in
    elim (at_cases past.events (Begin it.id actor call it.opens) place _ at) [
      | inl old ↦ before place id b old
      | inr new ↦
          (let range = within_actors state actor call number d in
          let same : b.actor ≡ actor = sym (let e = new.1 in cc e) in
          (omega (arith, range.0, same), omega (arith, range.1, same, limits)))
    ]
more_actors seats state past s o after (Goes {actor} {operation} {action} d is a g) limits before place id b at =
    before place id b (subst (λ (r : Record). BeginsAt r.events place id b) (noted_going state past actor operation action is a g) at)
more_actors seats state past s o after (Ends {actor} {operation} {answer} d is a) limits before place id b at =
    elim (at_cases past.events (End operation.id answer) place _ (subst (λ (r : Record). BeginsAt r.events place id b) (noted_ending state past actor operation answer is a) at)) [
      | inl old ↦ before place id b old
      | inr new ↦ absurd (begin_is_no_end id operation.id b.actor b.call b.opens answer (sym new.1))
    ]
more_actors seats state past s o after (GivesUp d is a) limits before place id b at = before place id b at
more_actors seats state past s o after (Sweeps spent) limits before place id b at = before place id b at

are_actors : (sizes : Sizes) (account : Account) → AreActors sizes.seats (history_of sizes account)
are_actors sizes account =
    let limits = bounds_for sizes account.steps in
    along_with limits (λ state past. AreActors sizes.seats past.events) (λ place id b at. absurd (let e = at in cc e))
    (λ xs s o after m before. more_actors sizes.seats (run limits xs) (record_of limits xs) s o after m (ap (λ l. l.actors) (limits_along limits xs)) before) account.steps

-- ---- what doesn't touch the key

all_get : {X : Type 0} (P : X → Type 0) (xs : List X) (j : ℕ) (x : X) → All P xs → slice_get xs j ≡ Some x → P x
all_get P xs j x all at = subst P (get_or_from_slice_get xs j x x at) (all j x (slice_get_within xs j x at))

contained : {X : Type 0} (P : X → Type 0) (xs : List X) (x : X) → All P xs → Contains xs x → P x
contained P xs x all c = subst P c.2 (all c.0 x c.1)

module _ (sizes : Sizes) (views : List View) (told : IsTold sizes views) (same_sizes : All (λ v. v.sizes ≡ sizes) views) (have : HaveAll sizes views) (handle key : ℕ) (own : View)
    (keeps : (v : View) → Contains views v → v.actor ≢ own.actor → KeepsOff handle key (talk_at v v.actor)) where
  abbrev history : List Event
  history = history_of sizes told.account

  -- all that an actor was ever told its seat has seen
  talk_is : (v : View) → Contains views v → talk_of v.actor history ≡ talk_at v v.actor
  talk_is v c =
      contained (λ (w : View). talk_of w.actor history ≡ talk_of w.actor (history_of sizes w.account)) views v told.talks c
      ∙ ap (λ z. talk_of v.actor (history_of z v.account)) (sym (contained (λ (w : View). w.sizes ≡ sizes) views v same_sizes c))

  keeps_off : (actor : ℕ) → actor ≢ own.actor → 1 ≤ actor → actor ≤ sizes.seats → KeepsOff handle key (talk_of actor history)
  keeps_off actor other low top =
      let (v, c, has) = have actor low top in
      elim (cases_eq actor v.actor) [
        | inl same ↦
            subst (λ a. KeepsOff handle key (talk_of a history)) (sym same) (subst (KeepsOff handle key) (sym (talk_is v c)) (keeps v c (λ is. other (same ∙ is))))
        | inr after ↦
            (let none = contained (λ (w : View). (a : ℕ) → w.actor < a → a ≤ w.last → talk_of a history ≡ silent) views v told.rested c actor
            (let first = has.0 in omega (arith, first, after)) has.1 in
            subst (KeepsOff handle key) (sym none) (record { answered = All-nil (λ (a : Answer). touches handle key a.of.call a.of.opens ≡ false); runs = λ it e. absurd (none-some it e) }))
      ]

  has_to_itself : HasToItself history own.actor handle key
  has_to_itself place id o at touching = elim (cases_eq o.actor own.actor) [
    | inl mine ↦ mine
    | inr other ↦ absurd (
        let range = are_actors sizes told.account place id o at in
        let off = keeps_off o.actor other range.0 range.1 in
        let it : Begun = record { id = id; call = o.call; opens = o.opens } in
        elim ((line_of o.actor history told.explained.1.well_formed).all it place at) [
          | inl (j, a, there, is) ↦
              (let none = all_get (λ b. touches handle key b.of.call b.of.opens ≡ false) (talk_of o.actor history).answers j a off.answered there in
              true≢false (sym touching ∙ ap (λ (x : Begun). touches handle key x.call x.opens) (sym is) ∙ none))
          | inr runs ↦ true≢false (sym touching ∙ off.runs it runs)
        ])
  ]

  answered : Contains views own → (last : Option ℕ) × KeyReplays (filter (is_on handle key) (talk_at own own.actor).answers) None last
  answered c =
      subst (λ (t : Talk). (last : Option ℕ) × KeyReplays (filter (is_on handle key) t.answers) None last) (talk_is own c)
      (own_keys_are_answered _ history _ told.explained.0 told.explained.1 own.actor handle key has_to_itself)

pub keys_apart_are_answered : KeysApartAreAnswered
keys_apart_are_answered sizes views told same_sizes have handle key own c keeps = answered sizes views told same_sizes have handle key own keeps c

-- ---- what a seat knows of its own actor

module _ (v : View) (idle : IsIdle v) where
  books : Books (state_of v.sizes v.account) (past_of v.sizes v.account)
  books = books_of (bounds_for v.sizes v.account.steps) v.account.steps

  runs_none : (runs : Option Begun) → (talk_at v v.actor).runs ≡ runs → Follows (history_of v.sizes v.account) v.actor (talk_at v v.actor).answers runs → (talk_at v v.actor).runs ≡ None
  runs_none None is follows = is
  runs_none (Some it) is (busy _ place at unended timed) =
      let (k, o, same, runs, id) = books.running it.id v.actor ((place, record { actor = v.actor; call = it.call; opens = it.opens }, at, refl), unended) in
      absurd (none-some o (sym idle ∙ ap (operation_of (state_of v.sizes v.account)) same ∙ runs))

pub resting_seats_run_nothing : RestingSeatsRunNothing
resting_seats_run_nothing v idle = runs_none v idle (talk_at v v.actor).runs refl (line_of v.actor (history_of v.sizes v.account) (books v idle).well_formed).follows

pub first_seat_is_silent : FirstSeatIsSilent
first_seat_is_silent sizes actor = first_silent sizes actor

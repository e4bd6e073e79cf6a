-- What the history says of the running operations: it is well formed, and those run that have begun and not ended.
use Rattle.std.proofs.Common.{◌≡◌, ℕ, suc, ◌-◌, ◌<◌, ◌≤◌, cond, inl, inr, List, ◌∷◌, ◌++◌, set, get_or, take, length, Option, Some, None, slice_get, refl, sym, ap, ◌∙◌, subst}
use Rattle.std.proofs.Common.{take_all, length-set, arith, []}
use Rattle.std.proofs.lemmas.List.{get_or-set_same}
use Rattle.std.proofs.lemmas.Option.{slice_get_within}
use Rattle.proof_order.specs.Vocabulary.{Call, Reply, Event, End, BeginsAt, EndsAt, HasEnded, IsRunning, begun, OpensRightly, MayFollow, IsWellFormed, Operation, Bounds, Outcome, Step, opens_handle}
use Rattle.proof_order.specs.Vocabulary.{State, begin_denial, number_for, Moves, begun_operation, Record, noted, told_in}
use Rattle.proof_order.specs.Beneath.history.specs.declared.events.Event.TheVariants.{Begin}
use Rattle.proof_order.specs.Beneath.history.specs.Histories.{Operation as Told}
use Rattle.proof_order.specs.Beneath.history.proofs.Places.{at_old, at_push, at_cases, at_take}
use Rattle.proof_order.specs.Beneath.history.proofs.Begins.{well_formed_push, begun_grows, begun_more, begins_once}
use Rattle.proof_order.specs.Beneath.machine_model.specs.declared.steps.Step.TheVariants as step
use Rattle.proof_generations.proofs.Handles.Running.{one_at, begin_not_running}
use Rattle.proof_order.specs.Facts.{Runs}
use Rattle.proof_order.proofs.History.Running.{IsBegun, IsEnded, ran_before, runs_on}
use Rattle.proof_order.specs.Running.{IsSame}
use Rattle.proof_order.specs.Beneath.machine_model.proofs.Alike.{AreAlike, noted_alike}

-- ---- histories

-- an id that has begun is below the number of those that have
pub id_below : (history : List Event) (place id : ℕ) (told : Told) → IsWellFormed history → BeginsAt history place id told → id < begun history
id_below history place id told well at =
    let is : id ≡ begun (take place history) = (well place (Begin id told.actor told.call told.opens) at).0 in
    let more = begun_more history place id told at in
    let within : place < length history = slice_get_within history place _ at in
    let grows = begun_grows history (suc place) (length history) within in
    let whole : begun (take (length history) history) ≡ begun history = ap begun (take_all (length history) history (omega arith)) in
    omega arith

-- an id that has ended too
pub ended_below : (history : List Event) (place id : ℕ) (answer : Reply) → IsWellFormed history → EndsAt history place id answer → id < begun history
ended_below history place id answer well at =
    let follows : MayFollow (take place history) (End id answer) = well place (End id answer) at in
    let ((q, told, at, owner), unended) = follows.1 in
    id_below history q id told well (at_take history place q _ at).1

-- a begin is no end
begin_not_end : (id other actor : ℕ) (call : Call) (opens : Option ℕ) (answer : Reply) → Begin id actor call opens ≡ End other answer → ⊥
begin_not_end id other actor call opens answer e = grind arith

-- ---- what the history says of an operation

pub record IsTold (history : List Event) (k : ℕ) (operation : Operation) : Type 0 where
  pub place : ℕ
  pub begins : slice_get history place ≡ Some (Begin operation.id (suc k) operation.call operation.opens)
  pub unended : (answer : Reply) → ¬ HasEnded history operation.id answer

-- what the record says of the state: whose operations run, and how many have begun
pub record Books (state : State) (past : Record) : Type 0 where
  pub alike : AreAlike state past
  pub size : length state.actors ≡ state.limits.actors
  pub well_formed : IsWellFormed past.events
  pub told : (k : ℕ) (operation : Operation) → Runs state k operation → IsTold past.events k operation
  pub running : (id actor : ℕ) → IsRunning past.events id actor → (k : ℕ) × (operation : Operation) × (actor ≡ suc k) × Runs state k operation × (operation.id ≡ id)

-- what is told of an operation is told of the same one further on
pub told_same : (history : List Event) (k : ℕ) (before after : Operation) → IsSame before after → IsTold history k before → IsTold history k after
told_same history k before after same told = record {
  place = told.place;
  begins = rw (same.id, same.call, same.opens) (told.begins);
  unended = λ answer. subst (λ id. ¬ HasEnded history id answer) (sym same.id) (told.unended answer);
}

-- two running operations with one id are one
pub one_by_id : (state : State) (past : Record) → Books state past → (j k : ℕ) (a b : Operation) → Runs state j a → Runs state k b → a.id ≡ b.id → (j ≡ k) × (a ≡ b)
one_by_id state past books j k a b at_a at_b same =
    let p = books.told j a at_a in
    let q = books.told k b at_b in
    let x : Told = record { actor = suc j; call = a.call; opens = a.opens } in
    let y : Told = record { actor = suc k; call = b.call; opens = b.opens } in
    let its : BeginsAt past.events q.place a.id y = subst (λ id. slice_get past.events q.place ≡ Some (Begin id (suc k) b.call b.opens)) (sym same) q.begins in
    let here : p.place ≡ q.place = begins_once past.events p.place q.place a.id x y books.well_formed p.begins its in
    let events : Some (Begin a.id (suc j) a.call a.opens) ≡ Some (Begin a.id (suc k) b.call b.opens) = sym p.begins ∙ ap (slice_get past.events) here ∙ its in
    let actors : j ≡ k = cc events in
    (actors, one_at state k a b (subst (λ i. Runs state i a) actors at_a) at_b)

-- ---- a step that tells no event

quiet_told : (state : State) (past : Record) (s : Step) (o : Outcome) (after : State) (now : Record) → Moves state s o after → now.events ≡ past.events →
    ((k : ℕ) (found : Operation) → ¬ IsBegun state s k found) → Books state past → (k : ℕ) (found : Operation) → Runs after k found → IsTold now.events k found
quiet_told state past s o after now m e none books k found at_k = elim (ran_before state s o after m k found at_k) [
  | inl new ↦ absurd (none k found new)
  | inr old ↦ subst (λ h. IsTold h k found) (sym e) (told_same past.events k old.0 found old.2 (books.told k old.0 old.1))
]

quiet_running : (state : State) (past : Record) (s : Step) (o : Outcome) (after : State) → Moves state s o after → (noted past state.steps (told_in state s)).events ≡ past.events →
    ((k : ℕ) (operation : Operation) → ¬ IsEnded state past s (noted past state.steps (told_in state s)) k operation) → Books state past →
    (id actor : ℕ) → IsRunning (noted past state.steps (told_in state s)).events id actor → (k : ℕ) × (operation : Operation) × (actor ≡ suc k) × Runs after k operation × (operation.id ≡ id)
quiet_running state past s o after m e none books id actor r =
    let (k, was, own, at_k, is) = books.running id actor (subst (λ h. IsRunning h id actor) e r) in
    elim (runs_on state past s o after m k was at_k) [
      | inl ends ↦ absurd (none k was ends)
      | inr goes ↦ let (found, at_found, same) = goes in (k, found, own, at_found, same.id ∙ is)
    ]

pub quiet_books : (state : State) (past : Record) (s : Step) (o : Outcome) (after : State) → Moves state s o after → length after.actors ≡ length state.actors →
    after.limits ≡ state.limits → (noted past state.steps (told_in state s)).events ≡ past.events → ((k : ℕ) (found : Operation) → ¬ IsBegun state s k found) →
    ((k : ℕ) (operation : Operation) → ¬ IsEnded state past s (noted past state.steps (told_in state s)) k operation) → Books state past →
    Books after (noted past state.steps (told_in state s))
quiet_books state past s o after m size limits e no_begin no_end books = record {
  alike = noted_alike state past s o after m books.alike;
  size = size ∙ books.size ∙ ap (λ (l : Bounds). l.actors) (sym limits);
  well_formed = subst IsWellFormed (sym e) books.well_formed;
  told = quiet_told state past s o after (noted past state.steps (told_in state s)) m e no_begin books;
  running = quiet_running state past s o after m e no_end books;
}

-- ---- a begin

opens_rightly : (call : Call) (n : ℕ) → OpensRightly call (cond (opens_handle call) (Some n) None)
opens_rightly call n = grind arith

pub within_actors : (state : State) (actor : ℕ) (call : Call) (number : Option ℕ) → begin_denial state actor call number ≡ None → (0 < actor) × (actor ≤ state.limits.actors)
within_actors state actor call number d = (grind arith, grind arith)

begin_follows : (state : State) (past : Record) (actor : ℕ) (call : Call) (number : Option ℕ) → begin_denial state actor call number ≡ None → Books state past →
    MayFollow past.events (Begin (begun_operation state call number).id actor call (begun_operation state call number).opens)
begin_follows state past actor call number d books = (
  sym books.alike.begun_are,
  opens_rightly call (number_for state number),
  λ other r.
      let (k, was, own, at_k, is) = books.running other actor r in begin_not_running state k actor call number was d own at_k,
)

pub begins_books : (state : State) (past : Record) (actor : ℕ) (call : Call) (number : Option ℕ) (o : Outcome) (after : State) → Moves state (step.Begin actor call number) o after →
    begin_denial state actor call number ≡ None →
    after.actors ≡ set state.actors (actor - 1) (Some (begun_operation state call number)) → after.limits ≡ state.limits → Books state past →
    Books after (noted past state.steps (told_in state (step.Begin actor call number)))
begins_books state past actor call number o after m d actors limits books = record {
  alike = noted_alike state past (step.Begin actor call number) o after m books.alike;
  size = ap length actors ∙ length-set state.actors (actor - 1) _ ∙ books.size ∙ ap (λ (l : Bounds). l.actors) (sym limits);
  well_formed = well_formed_push past.events event books.well_formed (begin_follows state past actor call number d books);
  told = λ k found at_k. elim (ran_before state (step.Begin actor call number) o after m k found at_k) [
    | inl new ↦ subst (λ f. IsTold history k f) (sym new.is_it) (begun_told k new.call new.number new.is_step)
    | inr old ↦ longer k found (told_same past.events k old.0 found old.2 (books.told k old.0 old.1))
  ];
  running = by;
}
  where
    begins : Operation
    begins = begun_operation state call number

    event : Event
    event = Begin begins.id actor call begins.opens

    history : List Event
    history = past.events ++ event ∷ []

    longer : (k : ℕ) (found : Operation) → IsTold past.events k found → IsTold history k found
    longer k found told = record {
      place = told.place;
      begins = at_old past.events event told.place _ told.begins;
      unended = λ answer ends. elim (at_cases past.events event ends.0 _ ends.1) [
        | inl old ↦ told.unended answer (ends.0, old)
        | inr new ↦ begin_not_end _ _ _ _ _ _ new.1
      ];
    }

    begun_told : (k : ℕ) (other : Call) (wish : Option ℕ) → step.Begin actor call number ≡ step.Begin (suc k) other wish → IsTold history k (begun_operation state other wish)
    begun_told k other wish is =
        let same_actor : actor ≡ suc k = cc is in
        let same_call : call ≡ other = cc is in
        let same_number : number ≡ wish = cc is in
        subst (λ n. IsTold history k (begun_operation state other n)) same_number (subst (λ c. IsTold history k (begun_operation state c number)) same_call (record {
          place = length past.events;
          begins = at_push past.events event (length past.events) refl ∙ ap (λ a. Some (Begin begins.id a call begins.opens)) same_actor;
          unended = λ answer ends. elim (at_cases past.events event ends.0 _ ends.1) [
            | inl old ↦ let below = ended_below past.events ends.0 begins.id answer books.well_formed old in let count = books.alike.begun_are in omega (arith, below, count)
            | inr new ↦ begin_not_end _ _ _ _ _ _ new.1
          ];
        }))

    fresh : (id other : ℕ) (told : Told) → event ≡ Begin id told.actor told.call told.opens → told.actor ≡ other →
        (k : ℕ) × (operation : Operation) × (other ≡ suc k) × Runs after k operation × (operation.id ≡ id)
    fresh id other told is owner =
        let same_id : begins.id ≡ id = cc is in
        let same_actor : actor ≡ told.actor = cc is in
        let (pos, le) = within_actors state actor call number d in
        let size = books.size in (
          actor - 1,
          begins,
          omega arith,
          ap (λ l. get_or l (actor - 1) None) actors ∙ get_or-set_same state.actors (actor - 1) (Some begins) None (omega arith),
          same_id,
        )

    by : (id other : ℕ) → IsRunning history id other → (k : ℕ) × (operation : Operation) × (other ≡ suc k) × Runs after k operation × (operation.id ≡ id)
    by id other r =
        let told : Told = r.0.1 in
        elim (at_cases past.events event r.0.0 _ r.0.2) [
          | inl old ↦
              let (k, was, own, at_k, is) = books.running id other ((r.0.0, told, old, r.0.3), λ answer ends. r.1 answer (ends.0, at_old past.events event ends.0 _ ends.1)) in
              elim (runs_on state past (step.Begin actor call number) o after m k was at_k) [
                | inl ends ↦ let wrong : ⊥ = cc (ends.1) in absurd wrong
                | inr goes ↦ let (found, at_found, same) = goes in (k, found, own, at_found, same.id ∙ is)
              ]
          | inr new ↦ fresh id other told new.1 r.0.3
        ]

-- What a call that goes on until it ends tells: its begin and its end, and nothing else.
use Rattle.std.specs.Prelude.{◌≡◌, ℕ, zero, suc, List, [], ◌∷◌, ◌++◌, length, slice_get, Option, Some, None, Ok, Err}
use Rattle.std.proofs.Common.{cond, refl, sym, ap, subst, ◌∙◌, inl, inr, append-nil, arith}
use Rattle.std.proofs.lemmas.List.{append_assoc}
use Rattle.std.proofs.lemmas.Option.{same_Some}
use Rattle.proof_runs.specs.Vocabulary.{Refusal, Call, Event, End, Reply, BeginsAt, HasEnded, Operation, Step, Outcome, State, first_state, operation_of, gone, settled, bounded, Answer}
use Rattle.proof_runs.specs.Vocabulary.{is_taken_step, next, state_after, Record, first_record, noted, told_in, Begins, Ends, Sweeps, GivesUp, Moves, begun_operation}
use Rattle.proof_runs.specs.Beneath.history.specs.declared.events.Event.TheVariants.{Begin}
use Rattle.proof_runs.specs.Beneath.machine_model.specs.declared.steps.Step.TheVariants as step
use Rattle.proof_runs.specs.Beneath.machine_model.proofs.Along.{run_push}
use Rattle.proof_runs.specs.Beneath.machine_model.proofs.Notes.{noted_going}
use Rattle.proof_runs.specs.Beneath.machine_model.proofs.Recorded.{record_push}
use Rattle.proof_runs.specs.Beneath.machine_model.proofs.Moves.{moved}
use Rattle.proof_runs.specs.Beneath.machine_model.specs.Moves.{Goes}
use Rattle.proof_runs.specs.Beneath.proof_generations.proofs.Handles.Running.{place_of_actor}
use Rattle.proof_runs.specs.Beneath.proof_order.proofs.History.Running.{runs_on}
use Rattle.proof_runs.specs.Beneath.proof_order.proofs.History.Books.{Books, ended_below}
use Rattle.proof_runs.specs.Beneath.proof_order.proofs.Places.Elements.{no_last}
use Rattle.proof_runs.specs.Beneath.proof_order.proofs.History.Growing.{ended_before}
use Rattle.proof_runs.specs.Beneath.proof_order.proofs.Views.Unconditional.{books_of}
use Rattle.proof_runs.specs.Beneath.proof_order.proofs.History.Recalling.{end_event}
use Rattle.proof_runs.specs.Machines.{Taken, past_of, state_of, with_step}
use Rattle.proof_runs.specs.Callers.{Going, after_outcome, after_go, going_on}

-- a machine after more steps, and what they tell
pub record Led (before after : Taken) (told : List Event) : Type 0 where
  pub more : List Step
  pub steps : after.steps ≡ before.steps ++ more
  pub limits : after.limits ≡ before.limits
  pub events : (past_of after).events ≡ (past_of before).events ++ told

led_on : (a b c : Taken) (s : Step) (xs ys : List Event) → b ≡ with_step a s → (past_of b).events ≡ (past_of a).events ++ xs → Led b c ys → Led a c (xs ++ ys)
led_on a b c s xs ys is told led = record {
  more = s ∷ led.more;
  steps = led.steps ∙ ap (λ (m : Taken). m.steps ++ led.more) is ∙ append_assoc a.steps (s ∷ []) led.more;
  limits = led.limits ∙ ap (λ (m : Taken). m.limits) is;
  events = led.events ∙ ap (λ l. l ++ ys) told ∙ append_assoc (past_of a).events xs ys;
}

led_none : (m : Taken) → Led m m []
led_none m = record { more = []; steps = sym (append-nil m.steps); limits = refl; events = sym (append-nil (past_of m).events) }

-- the state that a taken step leads to
pub stepped : (m : Taken) (s : Step) (o : Outcome) (after : State) → next (state_of m) s ≡ Ok (o, after) → state_of (with_step m s) ≡ after
stepped m s o after e = run_push (first_state (bounded m.limits)) m.steps s ∙ ap (state_after (state_of m)) e

-- and what is recorded then
pub noted_step : (m : Taken) (s : Step) (o : Outcome) (after : State) → next (state_of m) s ≡ Ok (o, after) →
    past_of (with_step m s) ≡ noted (past_of m) (state_of m).steps (told_in (state_of m) s)
noted_step m s o after e =
    record_push (first_state (bounded m.limits)) (first_record (bounded m.limits)) m.steps s
    ∙ ap (λ answer. cond (is_taken_step answer) (noted (past_of m) (state_of m).steps (told_in (state_of m) s)) (past_of m)) e

-- a step that ends no operation tells nothing, and the operation runs on
runs_further : (state : State) (past : Record) (s : Step) (o : Outcome) (after : State) → Moves state s o after →
    (noted past state.steps (told_in state s)).events ≡ past.events → (actor : ℕ) (operation : Operation) → operation_of state actor ≡ Some operation →
    (found : Operation) × (operation_of after actor ≡ Some found) × (found.id ≡ operation.id)
runs_further state past s o after m quiet actor operation runs =
    let (k, own, at_k) = place_of_actor state actor operation runs in
    elim (runs_on state past s o after m k operation at_k) [
      | inl ends ↦ absurd (no_last past.events (End operation.id ends.0) (sym quiet ∙ ends.3))
      | inr goes ↦ (goes.0, ap (operation_of after) own ∙ goes.1, goes.2.id)
    ]

pub answered_parts : (a b : Reply) (x y : Taken) → ◌≡◌ {A = Going} (Ok (Some a), x) (Ok (Some b), y) → (a ≡ b) × (x ≡ y)
answered_parts a b x y e = (let first = ap (λ (g : Going). g.0) e in cc, ap (λ (g : Going). g.1) e)

pub unanswered : (a : Reply) (x y : Taken) → ◌≡◌ {A = Going} (Ok None, x) (Ok (Some a), y) → ⊥
unanswered a x y e = let first = ap (λ (g : Going). g.0) e in cc first

pub denied_parts : (why : Refusal) (a : Reply) (x y : Taken) → ◌≡◌ {A = Going} (Err why, x) (Ok (Some a), y) → ⊥
denied_parts why a x y e = let first = ap (λ (g : Going). g.0) e in cc first

-- a call that goes on to its end tells that end alone
abbrev GoesTo : ℕ → ℕ → Type 0
GoesTo n actor =
    (m after : Taken) (answer : Reply) (operation : Operation) → operation_of (state_of m) actor ≡ Some operation → going_on n actor m ≡ (Ok (Some answer), after) →
    Led m after (End operation.id answer ∷ [])

by_move : (n actor : ℕ) (m : Taken) (s : Step) (o : Outcome) (state : State) → next (state_of m) s ≡ Ok (o, state) → s ≡ step.Go actor → Moves (state_of m) s o state →
    GoesTo n actor → (after : Taken) (answer : Reply) (operation : Operation) → operation_of (state_of m) actor ≡ Some operation →
    after_outcome (going_on n actor) (with_step m (step.Go actor)) o ≡ (Ok (Some answer), after) → Led m after (End operation.id answer ∷ [])
by_move n actor m s o state e is (Begins {actor = who} {call} {number} d) rest after answer operation runs goes = cc is
by_move n actor m s o state e is (GivesUp d found a) rest after answer operation runs goes = cc is
by_move n actor m s o state e is (Sweeps d) rest after answer operation runs goes = cc is
by_move n actor m s o state e is (Goes {actor = who} {operation = own} {action} d found a g) rest after answer operation runs goes =
    let quiet = ap (λ (r : Record). r.events) (noted_going (state_of m) (past_of m) who own action found a g) in
    let led : state_of (with_step m (step.Go actor)) ≡ settled (state_of m) (gone (state_of m) who own) = ap (λ x. state_of (with_step m x)) (sym is) ∙ stepped m s o _ e in
    let told = ap (λ x. past_of (with_step m x)) (sym is) ∙ noted_step m s o _ e in
    let (further, at, same) = runs_further (state_of m) (past_of m) s o _ (Goes d found a g) quiet actor operation runs in
    let behind = rest (with_step m (step.Go actor)) after answer further (ap (λ x. operation_of x actor) led ∙ at) goes in
    subst (λ id. Led m after (End id answer ∷ [])) same
    (led_on m (with_step m (step.Go actor)) after (step.Go actor) [] (End further.id answer ∷ []) refl
    (ap (λ (r : Record). r.events) told ∙ quiet ∙ sym (append-nil (past_of m).events)) behind)
by_move n actor m s o state e is (Ends {actor = who} {operation = own} {answer = said} d found a) rest after answer operation runs goes =
    let told = ap (λ x. past_of (with_step m x)) (sym is) ∙ noted_step m s o _ e in
    let whose : who ≡ actor = cc is in
    let one : own ≡ operation = same_Some own operation (sym found ∙ ap (operation_of (state_of m)) whose ∙ runs) in
    let (replies, machine) = answered_parts said answer (with_step m (step.Go actor)) after goes in
    let ends = end_event (state_of m) (past_of m) who own said found a ∙ ap (λ (x : Operation). (past_of m).events ++ End x.id said ∷ []) one in
    subst (λ x. Led m x (End operation.id answer ∷ [])) machine
    (led_on m (with_step m (step.Go actor)) (with_step m (step.Go actor)) (step.Go actor) (End operation.id answer ∷ []) [] refl
    (ap (λ (r : Record). r.events) told ∙ ends ∙ ap (λ r. (past_of m).events ++ End operation.id r ∷ []) replies) (led_none (with_step m (step.Go actor))))

by_answer : (n actor : ℕ) (m : Taken) (reply : Answer) → next (state_of m) (step.Go actor) ≡ reply → GoesTo n actor → (after : Taken) (answer : Reply) (operation : Operation) →
    operation_of (state_of m) actor ≡ Some operation → after_go (going_on n actor) m actor reply ≡ (Ok (Some answer), after) → Led m after (End operation.id answer ∷ [])
by_answer n actor m (Ok (o, state)) e rest after answer operation runs goes =
    by_move n actor m (step.Go actor) o state e refl (moved (state_of m) (step.Go actor) o state e) rest after answer operation runs goes
by_answer n actor m (Err why) e rest after answer operation runs goes = absurd (denied_parts why answer m after goes)

told_going : (n actor : ℕ) → GoesTo n actor
unfolding going_on
told_going zero actor m after answer operation runs goes = absurd (unanswered answer m after goes)
told_going (suc n) actor m after answer operation runs goes = by_answer n actor m (next (state_of m) (step.Go actor)) refl (told_going n actor) after answer operation runs goes

-- ---- a call that begins and goes on to its end

-- it tells its begin and its end
pub record Tells (before after : Taken) (actor : ℕ) (call : Call) (answer : Reply) : Type 0 where
  pub id : ℕ
  pub opens : Option ℕ
  pub led : Led before after (Begin id actor call opens ∷ End id answer ∷ [])

-- what the begin tells runs then
pub begun_runs : (state after : State) (past now : Record) (actor : ℕ) (call : Call) (opens : Option ℕ) → Books state past → Books after now →
    now.events ≡ past.events ++ Begin state.begun actor call opens ∷ [] → (operation : Operation) × (operation_of after actor ≡ Some operation) × (operation.id ≡ state.begun)
begun_runs state after past now actor call opens before books told =
    let id = state.begun in
    let at : BeginsAt now.events (length past.events) id (record { actor = actor; call = call; opens = opens }) =
    subst (λ h. slice_get h (length past.events) ≡ Some (Begin id actor call opens)) (sym told) (get_at_end past.events (Begin id actor call opens)) in
    let unended : (answer : Reply) → ¬ HasEnded now.events id answer = λ answer ended.
    elim (ended_before past.events (Begin id actor call opens) id answer (subst (λ h. HasEnded h id answer) told ended)) [
      | inl old ↦ let low = ended_below past.events old.0 id answer before.well_formed old.1 in let count = before.alike.begun_are in omega (arith, low, count)
      | inr bad ↦ cc bad
    ] in
    let (k, operation, own, runs, same) = books.running id actor ((length past.events, record { actor = actor; call = call; opens = opens }, at, refl), unended) in
    (operation, ap (operation_of after) own ∙ runs, same)
  where
    get_at_end : (xs : List Event) (x : Event) → slice_get (xs ++ x ∷ []) (length xs) ≡ Some x
    get_at_end [] x = refl
    get_at_end (y ∷ xs) x = get_at_end xs x

-- so it tells these two
pub tells : (n : ℕ) (before after : Taken) (actor : ℕ) (call : Call) (answer : Reply) → going_on n actor (with_step before (step.Begin actor call None)) ≡ (Ok (Some answer), after) →
    (o : Outcome) (state : State) → next (state_of before) (step.Begin actor call None) ≡ Ok (o, state) → Tells before after actor call answer
tells n before after actor call answer goes o state e =
    let middle = with_step before (step.Begin actor call None) in
    let id = (state_of before).begun in
    let opens = (begun_operation (state_of before) call None).opens in
    let told : (past_of middle).events ≡ (past_of before).events ++ Begin id actor call opens ∷ [] =
    ap (λ (r : Record). r.events) (noted_step before (step.Begin actor call None) o state e) in
    let (operation, runs, same) =
    begun_runs (state_of before) (state_of middle) (past_of before) (past_of middle) actor call opens (books_of (bounded before.limits) before.steps)
    (books_of (bounded middle.limits) middle.steps) told in
    record {
      id = id;
      opens = opens;
      led = led_on before middle after (step.Begin actor call None) (Begin id actor call opens ∷ []) (End id answer ∷ []) refl told
          (subst (λ id. Led middle after (End id answer ∷ [])) same (told_going n actor middle after answer operation runs goes));
    }

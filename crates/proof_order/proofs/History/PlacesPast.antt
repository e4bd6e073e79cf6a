-- Places and closings lie in the past.
use Rattle.std.proofs.Common.{◌≡◌, ℕ, ◌+◌, ◌<◌, ◌≤◌, Bool, true, false, cond, nat_lt, List, [], ◌∷◌, ◌++◌, All, Option, Some, None, refl, sym, subst, arith, ltb-true, inl, inr}
use Rattle.std.proofs.lemmas.List.Elements.{All-append, All-cons, All-nil, All-weaker}
use Rattle.proof_order.specs.Vocabulary.{Call, Close, Reply, Ref, Place, late, on_time, place_by, Closing, Bounds, Outcome, Step, run, Begins, Ends, Moves, Sweeps, GivesUp, begun_operation, State}
use Rattle.proof_order.specs.Vocabulary.{first_state, entered, is_placed, place_of, entered_at_end, entered_by, Record, entered_at_begin, first_record, record_of, changer_of, placed_by, noted}
use Rattle.proof_order.specs.Vocabulary.{moment_at, told_in, progress_of, entrant_of, Carried, Entrant, Progress}
use Rattle.proof_order.specs.Beneath.history.specs.declared.replies.Reply.TheVariants as reply
use Rattle.proof_order.specs.Beneath.machine_model.specs.Moves.{Goes}
use Rattle.proof_order.specs.Beneath.machine_model.proofs.Frames.{steps_counted}
use Rattle.proof_order.specs.Laws.Past.{PlacesPast}
use Rattle.proof_order.proofs.History.Past.{Past, first_past, past_kept}
use Rattle.proof_order.specs.Beneath.history.proofs.Among.{Among}
use Rattle.proof_generations.proofs.Handles.Running.{place_of_actor}
use Rattle.proof_order.specs.Beneath.machine_model.proofs.Recorded.{along_with}
use Rattle.proof_order.specs.Beneath.machine_model.proofs.Notes.{noted_going, noted_ending}

-- each place is of a step below
abbrev Below : ℕ → List Place → Type 0
Below n places = All (λ place. place.step < n) places

-- a place is of its moment's step or an earlier one
place_low : (closing : Option ℕ) (moment id n : ℕ) (changed_nothing : Bool) → moment < n → (place_by closing moment changed_nothing id).step < n
place_low None moment id n changed_nothing lt = lt
place_low (Some c) moment id n changed_nothing lt = by (nat_lt c moment) refl
  where
    by : (b : Bool) → nat_lt c moment ≡ b → (cond b (late c moment changed_nothing id) (on_time moment changed_nothing id)).step < n
    by true e = let low = ltb-true c moment e in omega (arith, low, lt)
    by false e = lt

one_below : (n : ℕ) (place : Place) → place.step < n → Below n (place ∷ [])
one_below n place lt = All-cons (λ (p : Place). p.step < n) place [] lt (All-nil (λ (p : Place). p.step < n))

-- what enters at a commit
entered_below : (past : Record) (step : ℕ) (changer : Option Entrant) (n : ℕ) → step < n → Below n (entered_by past step changer)
entered_below past step None n lt = All-nil (λ (p : Place). p.step < n)
entered_below past step (Some e) n lt = one_below n (place_of past e step false) (place_low _ step e.id n false lt)

committed_below : (past : Record) (step : ℕ) (main : Option Ref) (n : ℕ) → step < n → Below n (entered past step main)
committed_below past step None n lt = All-nil (λ (p : Place). p.step < n)
committed_below past step (Some main) n lt = entered_below past step (changer_of past main) n lt

-- where an offer is carried out
placed_below : (step : ℕ) (carried : Option Carried) (n : ℕ) → step < n → Below n (placed_by step carried)
placed_below step None n lt = All-nil (λ (p : Place). p.step < n)
placed_below step (Some c) n lt = one_below n (on_time step false c.operation) lt

-- what a begin enters
begun_below : (step id : ℕ) (call : Call) (n : ℕ) → step < n → Below n (entered_at_begin step id call)
begun_below step id (Close handle) n lt = one_below n (on_time step false id) lt
begun_below step id call n lt = All-nil (λ (p : Place). p.step < n)

-- what an end enters
ended_below : (past : Record) (e : Entrant) (moment : ℕ) (answer : Reply) (n : ℕ) → moment < n → Below n (entered_at_end past e moment answer)
ended_below past e moment reply.NoSlots n lt = All-nil (λ (p : Place). p.step < n)
ended_below past e moment answer n lt = by (is_placed past e.id)
  where
    place : Place
    place = place_of past e moment true

    by : (b : Bool) → Below n (cond b [] (place ∷ []))
    by true = All-nil (λ (p : Place). p.step < n)
    by false = one_below n place (place_low _ moment e.id n true lt)

-- ---- each step

later : (n m : ℕ) (places : List Place) → n ≤ m → Below n places → Below m places
later n m places le h = All-weaker (λ (p : Place). p.step < n) (λ (p : Place). p.step < m) (λ p lt. omega (arith, lt, le)) places h

more_below : (n : ℕ) (places new : List Place) → Below n places → Below (n + 1) new → Below (n + 1) (places ++ new)
more_below n places new h k = All-append (λ (p : Place). p.step < n + 1) places new (later n (n + 1) places (omega arith) h) k

moved_below : (state : State) (past : Record) → Past state past → Below state.steps past.places → (s : Step) (o : Outcome) (after : State) → Moves state s o after →
    Below (state.steps + 1) (noted past state.steps (told_in state s)).places
moved_below state past h below s o after (Begins {actor} {call} {number} d) =
    more_below state.steps past.places _ below (begun_below state.steps (begun_operation state call number).id call (state.steps + 1) (omega arith))
moved_below state past h below s o after (Goes {actor} {operation} {action} d is a g) =
    let p : Progress = progress_of state operation in
    subst (λ (r : Record). Below (state.steps + 1) r.places) (sym (noted_going state past actor operation action is a g))
    (All-append (λ (q : Place). q.step < state.steps + 1) (past.places ++ entered past state.steps p.committed) (placed_by state.steps p.carried)
    (more_below state.steps past.places _ below (committed_below past state.steps p.committed (state.steps + 1) (omega arith)))
    (placed_below state.steps p.carried (state.steps + 1) (omega arith)))
moved_below state past h below s o after (Ends {actor} {operation} {answer} d is a) =
    let (k, place, runs) = place_of_actor state actor operation is in
    let low = (h.operations k operation runs).1 in
    let its : (moment_at past actor).moment < state.steps = subst (λ j. (moment_at past j).moment < state.steps) (sym place) low in
    subst (λ (r : Record). Below (state.steps + 1) r.places) (sym (noted_ending state past actor operation answer is a))
    (more_below state.steps past.places _ below (ended_below past (entrant_of operation) (moment_at past actor).moment answer (state.steps + 1) (omega (arith, its))))
moved_below state past h below s o after (GivesUp d is a) = later state.steps (state.steps + 1) past.places (omega arith) below
moved_below state past h below s o after (Sweeps spent) = later state.steps (state.steps + 1) past.places (omega arith) below

-- ---- all of it

abbrev AllPast : State → Record → Type 0
AllPast state past = Past state past × Below state.steps past.places

first_below : (limits : Bounds) → Below (first_state limits).steps (first_record limits).places
unfolding first_state
first_below limits = All-nil (λ (p : Place). p.step < 0)

all_past : (limits : Bounds) (steps : List Step) → AllPast (run limits steps) (record_of limits steps)
all_past limits =
    along_with limits AllPast (first_past limits, first_below limits)
    (λ steps s o after m h.
    let n = steps_counted (run limits steps) s o after m in (
      past_kept (run limits steps) (record_of limits steps) s o after m h.0,
      subst (λ k. Below k (noted (record_of limits steps) (run limits steps).steps (told_in (run limits steps) s)).places) (sym n)
          (moved_below (run limits steps) (record_of limits steps) h.0 h.1 s o after m),
    ))

each_closing : (n : ℕ) (closings : List Closing) → ((c : Closing) → Among c closings → c.step < n) → All (λ closing. closing.step < n) closings
each_closing n [] h = All-nil (λ (c : Closing). c.step < n)
each_closing n (c ∷ closings) h = All-cons (λ (c : Closing). c.step < n) c closings (h c (inl refl)) (each_closing n closings (λ d a. h d (inr a)))

pub places_past : PlacesPast
places_past limits steps = let past = all_past limits steps in (past.1, each_closing (run limits steps).steps (record_of limits steps).closings past.0.closings)

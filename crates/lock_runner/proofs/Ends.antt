-- The end of a runner.
use Rattle.std.specs.Prelude.{None, ◌≡◌, ℕ, ◌+◌, ◌≤◌, List, [], ◌∷◌, ◌++◌, Some, slice_get, slice_index_or, unwrap_or, All, sum_by, length, Ok, Err}
use Rattle.std.proofs.Common.{refl, sym, ap, subst, ◌∙◌, append_assoc, ne_eqb, arith}
use Rattle.std.proofs.lemmas.List.Sums.{sum_by-cons}
use Rattle.std.proofs.lemmas.List.Elements.{All-head, All-tail}
use Rattle.std.proofs.lemmas.Option.{slice_get_within, unwrap_or-slice_get}
use Rattle.lock_runner.specs.Vocabulary.{Step, bounded}
use Rattle.lock_runner.specs.Beneath.machine_model.specs.declared.steps.Step.TheVariants as step
use Rattle.lock_runner.specs.Beneath.proof_runs.specs.Machines.{Taken, past_of, AreTaken, fresh}
use Rattle.step_machine.specs.declared.records.Record.{Record}
use Rattle.step_machine.specs.Records.{IsRecordOf, IsLegalRecord}
use Rattle.history.proofs.Places.{at_seam}
use Rattle.gate.specs.Logs.{Leads, calls_of}
use Rattle.gate.specs.Rules.{AreSeated}
use Rattle.gate.specs.Seats as gate
use Rattle.gate.specs.Finishing as finish
use Rattle.gate.proofs.Summing.{seats_make_the_log}
use Rattle.lock_runner.specs.declared.asks.Shared.{Shared}
use Rattle.lock_runner.specs.declared.asks.Work.{Work}
use Rattle.lock_runner.specs.declared.asks.Work.TheVariants as work
use Rattle.lock_runner.specs.declared.seats.Stop.TheVariants.{Denied, Memory, Ahead}
use Rattle.lock_runner.specs.declared.finishing.Unfinished.TheVariants as unfinished
use Rattle.lock_runner.specs.ActorHistory.Answers.{AreAnswersOf, RunsJust}
use Rattle.lock_runner.specs.ActorHistory.Laws.{IsStepOf}
use Rattle.lock_runner.specs.Asks.{Told, Hold, step_of, swept_by, swept}
use Rattle.lock_runner.specs.Boards.{account_in, sweeps_in, HasFollowed}
use Rattle.lock_runner.specs.Seats.{Room, Seated, pass_of, sweeps_of, IsTold}
use Rattle.lock_runner.specs.Holds.{Worked, Answers}
use Rattle.lock_runner.specs.Finishing.{IsHere, AreHere, all_swept, IsGathered, recorded, IsFinished}
use Rattle.lock_runner.proofs.ActorHistory.Told.{answers_are_those_of_the_history}
use Rattle.lock_runner.proofs.ActorHistory.Runs.{runs_just}
use Rattle.lock_runner.proofs.Boards.{goes_on_without, same_account, sweeps_push}
use Rattle.lock_runner.proofs.Holds.{has_worked, along}

-- ---- one element more

-- the next one stands in the list behind those that were taken
pub next_at : {X : Type 0} (all before rest later : List X) (x : X) → all ≡ before ++ rest → rest ≡ x ∷ later → slice_get all (length before) ≡ Some x
next_at all before rest later x is next =
    ap (λ xs. slice_get xs (length before)) (is ∙ ap (λ ys. before ++ ys) next) ∙ at_seam before later x

-- what holds of each holds of this one
pub of_each : {X : Type 0} (P : X → Type 0) (xs : List X) (k : ℕ) (x : X) → All P xs → slice_get xs k ≡ Some x → P x
of_each P xs k x all at =
    let here : slice_index_or xs k x ≡ x = sym (unwrap_or-slice_get xs k x) ∙ ap (λ o. unwrap_or o x) at in
    subst P here (all k x (slice_get_within xs k x at))

pub moved_on : {X : Type 0} (all before rest later : List X) (x : X) → all ≡ before ++ rest → rest ≡ x ∷ later → all ≡ (before ++ x ∷ []) ++ later
moved_on all before rest later x is next = is ∙ ap (λ ys. before ++ ys) next ∙ sym (append_assoc before (x ∷ []) later)

pub none_left : {X : Type 0} (rest : List X) (n : ℕ) → n ≡ length rest → n ≡ 0 → rest ≡ []
none_left [] n is none = refl
none_left (x ∷ rest) n is none = absurd (omega (arith, is, none))

-- ---- seats

-- ---- all holds of the gate

limits_along : (start : Shared) (es : List Hold) (last : Shared) → Leads Answers start es last → last.machine.limits ≡ start.machine.limits
limits_along start [] last leads = ap (λ (o : Shared). o.machine.limits) leads
limits_along start (e ∷ es) last leads =
    limits_along leads.0 es last leads.2 ∙ (has_worked e.seat e.call.work e.answer start.machine e.call.heard leads.0.machine leads.1).limits

one_swept : (seat heard : ℕ) (asked : Work) (answer : Told) (before after : Taken) → Worked answer before (step_of seat asked) heard after → sweeps_in after ≡ sweeps_in before + swept_by answer asked
one_swept seat heard (work.Begin call) (Ok done) before after w = sweeps_push before after (step.Begin seat call None) w.2
one_swept seat heard work.Go (Ok done) before after w = sweeps_push before after (step.Go seat) w.2
one_swept seat heard work.Sweep (Ok done) before after w = sweeps_push before after step.Sweep w.2
one_swept seat heard asked (Err Ahead) before after w = omega (arith, ap sweeps_in w.0)
one_swept seat heard asked (Err Memory) before after w = omega (arith, ap sweeps_in w.0)
one_swept seat heard asked (Err (Denied refusal)) before after w = omega (arith, ap sweeps_in w.0)

sweeps_along : (start : Shared) (es : List Hold) (last : Shared) → Leads Answers start es last → sweeps_in last.machine ≡ sweeps_in start.machine + sum_by swept es
sweeps_along start [] last leads = omega (arith, ap (λ (o : Shared). sweeps_in o.machine) leads)
sweeps_along start (e ∷ es) last leads =
    omega (arith, sum_by-cons swept e es, one_swept e.seat e.call.heard e.call.work e.answer start.machine leads.0.machine leads.1, sweeps_along leads.0 es last leads.2)

-- the seats have counted them
counted_alike : (seats : List Seated) → All IsTold seats → sum_by (λ s. sweeps_of (pass_of s)) seats ≡ all_swept seats
counted_alike [] told = refl
counted_alike (s ∷ seats) told =
    omega (
      arith,
      (All-head IsTold s seats told).counted,
      sum_by-cons (λ (x : Seated). x.sweeps) s seats,
      sum_by-cons (λ (x : Seated). sweeps_of (pass_of x)) s seats,
      counted_alike seats (All-tail IsTold s seats told),
    )

-- no hold is of a number that isn't a seat's
no_calls : (number seats : ℕ) (es : List Hold) → (1 ≤ number → number ≤ seats → ⊥) → AreSeated seats es → calls_of number es ≡ []
no_calls number seats [] out seated = refl
no_calls number seats (e ∷ es) out seated =
    let Is : Hold → Type 0 = λ x. (1 ≤ x.seat) × (x.seat ≤ seats) in
    let its = All-head Is e es seated in
    let apart : e.seat ≡ number → ⊥ = λ same. out (omega (arith, its.0, same)) (omega (arith, its.1, same)) in
    let rest : calls_of number (e ∷ es) ≡ calls_of number es = rw (ne_eqb e.seat number apart) refl in
    rest ∙ no_calls number seats es out (All-tail Is e es seated)

-- ---- the end

-- what contracts see of a runner with this gate
abbrev pub room : gate.Room Shared → Room
room gate = record { id = gate.id; limits = gate.first.machine.limits; seats = gate.seats }

module _ (gate : gate.Room Shared) (seats : List Seated) (object : Shared) (start : gate.first.machine ≡ fresh gate.first.machine.limits) (told : All IsTold seats)
    (here : AreHere gate.seats seats) (all : finish.IsGathered Answers pass_of gate seats object) where
  -- since a seat saw the machine it has gone on without its actor
  followed : (k : ℕ) (s : Seated) → slice_get seats k ≡ Some s → HasFollowed s.actor s.seen object.machine
  followed k s at =
      let f = all.followed k s at in
      subst (λ (o : Shared). HasFollowed s.actor s.seen o.machine) (sym all.object_is) (along s.actor (record { machine = s.seen }) f.rest all.last.object f.others f.leads)

  -- what the machine tells of a seat's actor is what the seat has
  account : (k : ℕ) (s : Seated) → slice_get seats k ≡ Some s → account_in s.actor object.machine ≡ record { answers = s.answers; running = s.running }
  account k s at = same_account s.actor s.seen object.machine (followed k s at) ∙ (of_each IsTold seats k s told at).told

  none_first : sweeps_in all.last.first.machine ≡ 0
  none_first = ap (λ (o : Shared). sweeps_in o.machine) all.first ∙ ap sweeps_in start

  -- an actor without a seat has taken no step
  none_taken : (actor : ℕ) → ¬ IsHere actor seats → All (λ s. ¬ IsStepOf actor s) object.machine.steps
  none_taken actor away =
      let none = no_calls actor gate.seats all.last.log (λ low high. away (here actor low high)) all.calls in
      let more = (along actor all.last.first all.last.log all.last.object none all.legal).steps in
      let first : all.last.first.machine.steps ≡ [] = ap (λ (o : Shared). o.machine.steps) all.first ∙ ap (λ (m : Taken). m.steps) start in
      let rest : object.machine.steps ≡ more.0 = ap (λ (o : Shared). o.machine.steps) all.object_is ∙ more.1 ∙ ap (λ (xs : List Step). xs ++ more.0) first in
      subst (λ (xs : List Step). All (λ s. ¬ IsStepOf actor s) xs) (sym rest) more.2

  gathers : IsGathered (room gate) seats object.machine
  gathers = record {
    limits = ap (λ (o : Shared). o.machine.limits) all.object_is ∙ limits_along all.last.first all.last.log all.last.object all.legal ∙ ap (λ (o : Shared). o.machine.limits) all.first;
    sizes = λ k s at. (followed k s at).limits;
    steps = λ k s at. goes_on_without s.actor s.seen.steps object.machine.steps (followed k s at).steps;
    answers = λ k s at.
        subst (λ xs. AreAnswersOf s.actor (past_of object.machine).events xs) (ap (λ a. a.answers) (account k s at))
        (answers_are_those_of_the_history (bounded object.machine.limits) object.machine.steps s.actor);
    running = λ k s at.
        subst (λ r. RunsJust s.actor (past_of object.machine).events r) (ap (λ a. a.running) (account k s at))
        (runs_just (bounded object.machine.limits) object.machine.steps s.actor);
    sweeps = omega (
      arith,
      ap (λ (o : Shared). sweeps_in o.machine) all.object_is,
      none_first,
      sweeps_along all.last.first all.last.log all.last.object all.legal,
      seats_make_the_log Answers pass_of gate seats object here all swept,
      counted_alike seats told,
    );
    others = none_taken;
  }

pub finished : (gate : gate.Room Shared) (runner : Room) (seats : List Seated) (object : Shared) → room gate ≡ runner → gate.first.machine ≡ fresh gate.first.machine.limits → All IsTold seats →
    finish.IsFinished Answers pass_of gate seats (Ok object) → AreHere runner.seats seats × IsGathered runner seats object.machine
finished gate runner seats object is start told done =
    subst (λ (r : Room). AreHere r.seats seats × IsGathered r seats object.machine) is (done.0, gathers gate seats object start told done.0 done.1)

-- ---- the record

-- the machine that the record tells of is the one
told_machine : (machine : Taken) (made : Record) → IsRecordOf machine made → machine ≡ recorded made
told_machine machine made is =
    ap (λ l. record { limits = l; steps = machine.steps }) (sym is.sizes) ∙ ap (λ xs. record { limits = made.limits; steps = xs }) (sym is.path)

pub with_record : (runner : Room) (seats : List Seated) (machine : Taken) (made : Record) → AreHere runner.seats seats → IsGathered runner seats machine → IsRecordOf machine made →
    AreTaken machine.limits machine.steps → IsLegalRecord made → IsFinished runner seats (Ok made)
with_record runner seats machine made here all is taken legal =
    let same = told_machine machine made is in
    (here, subst (λ m. IsRecordOf m made) same is, subst (λ m. IsGathered runner seats m) same all, subst (λ (m : Taken). AreTaken m.limits m.steps) same taken, legal)

pub without_memory : (runner : Room) (seats : List Seated) (machine back : Taken) → AreHere runner.seats seats → IsGathered runner seats machine → back ≡ machine →
    IsFinished runner seats (Err (unfinished.Memory back))
without_memory runner seats machine back here all same = (here, subst (λ m. IsGathered runner seats m) (sym same) all)

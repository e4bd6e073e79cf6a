-- The line on which an operation that is alone stands after its step; it doesn't end.
use Rattle.std.proofs.Common.{◌≡◌, ℕ, zero, suc, ◌<◌, ◌≤◌, Option, Some, refl, sym, ap, ◌∙◌, subst, arith}
use Rattle.std.proofs.lemmas.Option.{same_Some}
use Rattle.proof_obstruction_free.specs.Vocabulary.{Reply, Line, Operation, Outcome, Step, operation_after, action_of, line_action, line_after, generation_from, Record, first_record, noted, State}
use Rattle.proof_obstruction_free.specs.Vocabulary.{operation_of, told_in, IsRun, turns, Begins, Ends, Sweeps, GivesUp, Moves, GoesOn}
use Rattle.proof_obstruction_free.specs.Beneath.machine_model.specs.declared.actions.Action.TheVariants as act
use Rattle.proof_obstruction_free.specs.Beneath.machine_model.specs.declared.lines.Line.TheVariants as line
use Rattle.proof_obstruction_free.specs.Beneath.machine_model.specs.declared.steps.Step.TheVariants as step
use Rattle.proof_obstruction_free.specs.Beneath.machine_model.proofs.Actors.{mark_one, mark_only, marks_in, of_end}
use Rattle.proof_obstruction_free.specs.Beneath.machine_model.specs.Moves.{Goes}
use Rattle.proof_obstruction_free.specs.Beneath.proof_commits.proofs.Lines.Reads.{only_end}
use Rattle.proof_obstruction_free.specs.Beneath.proof_generations.proofs.Handles.Running.{Follows, rests, steps, ends, follows, place_of_actor, gives_up}
use Rattle.proof_obstruction_free.specs.Beneath.proof_generations.specs.Running.{Runs}
use Rattle.proof_obstruction_free.specs.Alone.{Lone, Stands}
use Rattle.proof_obstruction_free.specs.Stepping.{IsNoEnd}

-- each line but an end goes on
pub no_end : (state : State) (operation : Operation) (l : Line) → IsNoEnd l → (answer : Reply) → line_action state operation l ≡ act.End answer → ⊥
no_end state operation l more answer e = subst IsNoEnd (only_end state operation l answer e) more

-- ---- one step

-- the actor that ends runs nothing afterwards
ends_so : (state : State) (s : Step) (o : Outcome) (after : State) → Moves state s o after → (k : ℕ) (operation found : Operation) (answer : Reply) → s ≡ step.Go (suc k) → Runs state k operation →
    action_of state operation ≡ act.End answer → Runs after k found → ⊥
ends_so state s o after (Begins d) k operation found answer e at_k at_end at_found = let wrong : ⊥ = cc e in wrong
ends_so state s o after (Goes {actor} {operation = own} d is a goes) k operation found answer e at_k at_end at_found =
    let place : actor ≡ suc k = cc e in
    let one : own ≡ operation = same_Some _ _ (sym is ∙ ap (operation_of state) place ∙ at_k) in
    subst GoesOn (sym a ∙ ap (action_of state) one ∙ at_end) goes
ends_so state s o after (Ends {actor} d is a) k operation found answer e at_k at_end at_found =
    let place : actor ≡ suc k = cc e in of_end state actor k place found at_found
ends_so state s o after (GivesUp d is a) k operation found answer e at_k at_end at_found = let wrong : ⊥ = cc e in wrong
ends_so state s o after (Sweeps spent) k operation found answer e at_k at_end at_found = let wrong : ⊥ = cc e in wrong

module _ (a : Lone) where
  -- what its steps record
  unfoldable pub recorded : ℕ → Record
  recorded zero = first_record a.limits
  recorded (suc t) = noted (recorded t) (a.states t).steps (told_in (a.states t) (a.steps t))

  pub recorded_first : recorded zero ≡ first_record a.limits
  unfolding recorded
  recorded_first = refl

  pub recorded_next : (t : ℕ) → recorded (suc t) ≡ noted (recorded t) (a.states t).steps (told_in (a.states t) (a.steps t))
  unfolding recorded
  recorded_next t = refl

  -- the run of these steps, with their record
  abbrev pub own_run : IsRun a.limits a.states a.last
  own_run = record {
    limits_ok = a.run.limits_ok;
    first = a.run.first;
    turn = λ t h. turns (a.steps t) (a.takes t h).0 (a.takes t h).1;
    records = recorded;
    nothing_recorded = recorded_first;
    recorded = λ t h. recorded_next t;
  }

  -- its next step
  pub record Takes (t : ℕ) : Type 0 where
    pub outcome : Outcome
    pub moves : Moves (a.states t) (step.Go a.actor) outcome (a.states (suc t))

  pub takes : (t : ℕ) → a.start ≤ t → t < a.last → Takes t
  takes t since more =
      let (o, m) = a.takes t more in
      record { outcome = o; moves = subst (λ s. Moves (a.states t) s o (a.states (suc t))) (a.alone t since more) m }

  -- what a step makes of the operation, but for its mark
  marked : (t : ℕ) (g : Option ℕ) (l : Line) (s : Stands a t g l) → t < a.last → (found : Operation) → operation_of (a.states (suc t)) a.actor ≡ Some found →
      found ≡ record (operation_after (a.states t) s.operation) { is_marked = found.is_marked } →
      Stands a (suc t) (generation_from (a.states t) s.operation l) (line_after (a.states t) s.operation l)
  marked t g l s more found runs same = record {
    since = omega (arith, s.since);
    until = omega arith;
    operation = found;
    runs = runs;
    id = ap (λ (o : Operation). o.id) same ∙ s.id;
    call = ap (λ (o : Operation). o.call) same ∙ s.call;
    access = ap (λ (o : Operation). o.access) same ∙ s.access;
    opens = ap (λ (o : Operation). o.opens) same ∙ s.opens;
    generation = ap (λ (o : Operation). o.generation) same ∙ ap (generation_from (a.states t) s.operation) s.line;
    line = ap (λ (o : Operation). o.line) same ∙ ap (line_after (a.states t) s.operation) s.line;
  }

  by_follows : (t : ℕ) (g : Option ℕ) (l : Line) (s : Stands a t g l) → t < a.last → IsNoEnd l → (k : ℕ) → a.actor ≡ suc k →
      Follows (a.states t) (step.Go a.actor) (a.states (suc t)) k s.operation → Stands a (suc t) (generation_from (a.states t) s.operation l) (line_after (a.states t) s.operation l)
  by_follows t g l s more not k place (rests apart runs) = absurd (apart (ap (λ n. step.Go n) place))
  by_follows t g l s more not k place (steps own goes runs) =
      marked t g l s more (mark_one (marks_in (a.states t) (step.Go a.actor)) (operation_after (a.states t) s.operation))
      (ap (operation_of (a.states (suc t))) place ∙ runs) (mark_only (marks_in (a.states t) (step.Go a.actor)) (operation_after (a.states t) s.operation))
  by_follows t g l s more not k place (ends answer own is) =
      absurd (no_end (a.states t) s.operation l not answer (ap (line_action (a.states t) s.operation) (sym s.line) ∙ is))
  by_follows t g l s more not k place (gives_up answer own may runs) = let wrong : ⊥ = cc own in absurd wrong

  pub next : (t : ℕ) (g : Option ℕ) (l : Line) (s : Stands a t g l) → t < a.last → IsNoEnd l →
      Stands a (suc t) (generation_from (a.states t) s.operation l) (line_after (a.states t) s.operation l)
  next t g l s more not =
      let (k, place, runs) = place_of_actor (a.states t) a.actor s.operation s.runs in
      let moved = takes t s.since more in
      by_follows t g l s more not k place (follows (a.states t) (step.Go a.actor) moved.outcome (a.states (suc t)) moved.moves k s.operation runs)

  pub ends_never : (t : ℕ) (g : Option ℕ) (answer : Reply) → Stands a t g (line.End answer) → t < a.last → ⊥
  ends_never t g answer s more =
      let (k, place, runs) = place_of_actor (a.states t) a.actor s.operation s.runs in
      let moved = takes t s.since more in
      let (found, later) = a.runs (suc t) (omega (arith, s.since)) (omega arith) in
      ends_so (a.states t) (step.Go a.actor) moved.outcome (a.states (suc t)) moved.moves k s.operation found answer (ap (λ n. step.Go n) place) runs
      (ap (line_action (a.states t) s.operation) s.line) (sym (ap (operation_of (a.states (suc t))) place) ∙ later)

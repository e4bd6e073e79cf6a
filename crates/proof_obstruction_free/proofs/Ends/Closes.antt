-- A close ends with the step after its begin.
use Rattle.std.proofs.Common.{◌≡◌, ℕ, ◌<◌, true, List, Some, Ok, refl, sym, ap, ◌∙◌, subst, append-nil}
use Rattle.std.specs.Prelude.{Contains}
use Rattle.std.proofs.lemmas.Bool.{false≢true}
use Rattle.std.proofs.lemmas.Option.{same_Some, none-some}
use Rattle.proof_obstruction_free.specs.Vocabulary.{Kind, Call, Close, End, Reply, Closed, Operation, Bounds, Ended, Went, Step, is_close, next, next_state, run, Moves, GoesOn, action_of}
use Rattle.proof_obstruction_free.specs.Vocabulary.{first_line, line_action, State, operation_of, Record, next_record, record_of, given_up, Line}
use Rattle.proof_obstruction_free.specs.Beneath.machine_model.specs.declared.actions.Action.TheVariants as act
use Rattle.proof_obstruction_free.specs.Beneath.machine_model.specs.declared.lines.Line.TheVariants as line
use Rattle.proof_obstruction_free.specs.Beneath.machine_model.specs.declared.steps.Step.TheVariants as step
use Rattle.proof_obstruction_free.specs.Beneath.machine_model.specs.Moves.{Goes}
use Rattle.proof_obstruction_free.specs.Beneath.machine_model.proofs.Along.{limits_along}
use Rattle.proof_obstruction_free.specs.Beneath.machine_model.proofs.Actors.{mark_only}
use Rattle.proof_obstruction_free.specs.Beneath.machine_model.proofs.EachOperation.{OfEach, of_each_along, of_running}
use Rattle.proof_obstruction_free.specs.Beneath.machine_model.proofs.Moves.{ending, moved}
use Rattle.proof_obstruction_free.specs.Closes.{ClosesEnd}
use Rattle.proof_obstruction_free.specs.Laws.{HasEnded, alone_after, history_after}
use Rattle.proof_obstruction_free.proofs.Ends.Actors.{is_one}
use Rattle.proof_obstruction_free.proofs.Ends.Lists.{none_more, one_more, one_more_recorded, record_after}
use Rattle.proof_obstruction_free.proofs.Ends.Steps.{Last, Leads, Steps, allowed, steps_alone}

-- a close stands on its end
abbrev Closes : State → Operation → Type 0
Closes state operation = is_close operation.call ≡ true → operation.line ≡ line.End Closed

begun_closes : (call : Call) → is_close call ≡ true → first_line call ≡ line.End Closed
begun_closes (Close h) e = refl
begun_closes call e = absurd (false≢true e)

no_step : (state : State) (operation : Operation) → operation.line ≡ line.End Closed → GoesOn (action_of state operation) → ⊥
no_step state operation e g = subst GoesOn (ap (line_action state operation) e) g

-- so it doesn't give up
stays_closing : (call : Call) (l : Line) (answer : Reply) → given_up call l ≡ Some answer → l ≡ line.End Closed → ⊥
stays_closing call l answer may e = none-some answer (subst (λ x. given_up call x ≡ Some answer) e may)

each_closes : (limits : Bounds) (steps : List Step) → OfEach Closes (run limits steps)
each_closes limits =
    of_each_along limits Closes (λ steps actor call number d e. begun_closes call e)
    (λ steps actor operation found g h. rw (mark_only _ _) (λ e. absurd (no_step (run limits steps) operation (h e) g)))
    (λ steps actor operation answer found may h e. absurd (stays_closing operation.call operation.line answer may (h e)))
    (λ steps s o after m k other operation found h. rw (mark_only _ operation) h)

goes_on : (state : State) (actor : ℕ) (kind : Kind) (after : State) → Moves state (step.Go actor) (Went kind) after →
    (operation : Operation) × (operation_of state actor ≡ Some operation) × GoesOn (action_of state operation)
goes_on state actor kind after (Goes {operation} d is a g) = (operation, is, rw a g)

module _ (limits : Bounds) (steps : List Step) (actor : ℕ) (operation : Operation) (runs : operation_of (run limits steps) actor ≡ Some operation) (closes : is_close operation.call ≡ true) where
  abbrev now : State
  now = run limits steps

  abbrev later : State
  later = next_state now (step.Go actor)

  there : operation.line ≡ line.End Closed
  there = of_running Closes now (each_closes limits steps) actor operation runs closes

  after_one : alone_after limits steps actor 1 ≡ later
  after_one = one_more limits steps actor 0 ∙ ap (λ x. next_state x (step.Go actor)) (none_more limits steps actor)

  recorded_one : record_after limits steps actor 1 ≡ next_record now (record_of limits steps) (step.Go actor)
  recorded_one =
      one_more_recorded limits steps actor 0 ∙ ap (λ l. next_record (run limits l) (record_of limits l) (step.Go actor)) (append-nil steps)

  its_answer : (answer : Reply) → next now (step.Go actor) ≡ Ok (Ended operation.id answer, later) → answer ≡ Closed
  its_answer answer e =
      let (found, at, same, is, d) = ending now actor operation.id answer later (moved now (step.Go actor) (Ended operation.id answer) later e) in
      let one = same_Some operation found (sym runs ∙ at) in
      let ends : act.End answer ≡ act.End Closed = sym is ∙ ap (action_of now) (sym one) ∙ ap (line_action now operation) there in
      cc ends

  by : Steps now actor operation → (next now (step.Go actor) ≡ Ok (Ended operation.id Closed, alone_after limits steps actor 1))
      × HasEnded (alone_after limits steps actor 1) (history_after limits steps actor 1) actor operation.id
  by (Leads kind e found at id) =
      let (was, is, g) = goes_on now actor kind later (moved now (step.Go actor) (Went kind) later e) in
      let one = same_Some operation was (sym runs ∙ is) in
      absurd (no_step now was (ap (λ (o : Operation). o.line) (sym one) ∙ there) g)
  by (Last answer e idle told) =
      let same = its_answer answer e in (
        e ∙ ap (λ r. Ok (Ended operation.id r, later)) same ∙ ap (λ x. Ok (Ended operation.id Closed, x)) (sym after_one),
        record {
          idle = ap (λ x. operation_of x actor) after_one ∙ idle;
          answer = answer;
          told = subst (λ (x : Record). Contains x.events (End operation.id answer)) (sym recorded_one) (told (record_of limits steps));
        },
      )

pub closes_end : ClosesEnd
closes_end limits steps actor operation runs closes left =
    by limits steps actor operation runs closes
    (steps_alone (run limits steps) actor operation (allowed (run limits steps) actor operation (is_one limits steps actor operation runs) runs
    (subst (λ (b : Bounds). (run limits steps).steps < b.steps) (sym (limits_along limits steps)) left)) runs)

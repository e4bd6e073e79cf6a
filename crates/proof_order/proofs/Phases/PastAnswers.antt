-- Past its own commit an operation answers that it made its change, if it ends.
use Rattle.std.proofs.Common.{◌≡◌, ℕ, suc, ◌<◌, ◌≤◌, inl, inr, Option, Some, sym, ap, ◌∙◌, subst, arith}
use Rattle.proof_order.specs.Vocabulary.{Call, Reply, HasEnded, begun, Operation, Bounds, Outcome, Step, changed_reply, State, action_of, operation_after, Moves, turns, noted_turn, IsRun, Turn}
use Rattle.proof_order.specs.Vocabulary.{Record}
use Rattle.proof_order.specs.Beneath.machine_model.specs.declared.actions.Action.TheVariants as act
use Rattle.proof_order.specs.Beneath.machine_model.proofs.Actors.{mark_only, marks_in, marks_by}
use Rattle.proof_order.specs.Beneath.proof_commits.proofs.Course.Finals.{from_time}
use Rattle.proof_order.specs.Facts.{Runs, Notes}
use Rattle.proof_order.proofs.History.Books.{one_by_id}
use Rattle.proof_order.proofs.History.Growing.{events_grow, Grows}
use Rattle.proof_order.proofs.History.Recalling.{begun_more_or_same}
use Rattle.proof_order.proofs.Offers.Known.{running_below}
use Rattle.proof_order.proofs.Offers.Standing.{offers_at}
use Rattle.proof_order.proofs.History.OneStep.{From, began, kept, stepped, from, gave}
use Rattle.proof_order.proofs.History.Answering.{ended_now}
use Rattle.proof_order.specs.Phases.{IsPast, IsPastAt, PastAnswers}
use Rattle.proof_order.proofs.Phases.PastSteps.{past_by}
use Rattle.proof_order.specs.Beneath.proof_commits.proofs.Lines.Reads.{only_end}
use Rattle.proof_order.specs.Beneath.machine_model.proofs.Alike.{alike}

module _ {limits : Bounds} {states : ℕ → State} {last : ℕ} (r : IsRun limits states last) (id : ℕ) (call : Call) (former : Option ℕ) where
  -- it is past its commit while it runs, and has this answer once it has ended
  record Answers (t : ℕ) : Type 0 where
    low : id < begun (r.records t).events
    going : (k : ℕ) (operation : Operation) → Runs (states t) k operation → operation.id ≡ id → IsPast states t operation former × (operation.call ≡ call)
    answered : (answer : Reply) → HasEnded (r.records t).events id answer → answer ≡ changed_reply call former

  -- at its end
  its_answer : (t : ℕ) (operation : Operation) (answer : Reply) → IsPast states t operation former → operation.call ≡ call → action_of (states t) operation ≡ act.End answer →
      answer ≡ changed_reply call former
  its_answer t operation answer h same does =
      subst (IsPastAt states t operation.call former) (only_end (states t) operation operation.line answer does) h.0 ∙ ap (λ c. changed_reply c former) same

  goes_on : (t : ℕ) (lt : t < last) (s : Step) (o : Outcome) → Moves (states t) s o (states (suc t)) → Notes states r.records t s → Answers t → (k : ℕ) (found : Operation) →
      found.id ≡ id → From (states t) s k found →
      IsPast states (suc t) found former × (found.call ≡ call)
  goes_on t lt s o m notes h k found same (began new) =
      let low = h.low in
      let count = (alike r t (omega arith)).begun_are in
      let its : found.id ≡ (states t).begun = ap (λ (x : Operation). x.id) new.is_it in
      absurd (omega arith)
  goes_on t lt s o m notes h k found same (kept was at_k it other) =
      let is = it ∙ mark_only (marks_in (states t) s) was in
      let (past, calls) = h.going k was at_k (sym (ap (λ (x : Operation). x.id) is) ∙ same) in
      (past_by r t lt s k was found former at_k past (ap (λ (x : Operation). x.id) is) (kept was at_k it other), ap (λ (x : Operation). x.call) is ∙ calls)
  goes_on t lt s o m notes h k found same (stepped was at_k go goes it) =
      let is = it ∙ mark_only (marks_by (states t) (Some was)) (operation_after (states t) was) in
      let (past, calls) = h.going k was at_k (sym (ap (λ (x : Operation). x.id) is) ∙ same) in
      (past_by r t lt s k was found former at_k past (ap (λ (x : Operation). x.id) is) (stepped was at_k go goes it), ap (λ (x : Operation). x.call) is ∙ calls)
  goes_on t lt s o m notes h k found same (gave was answer at_k go may it) =
      let (past, calls) = h.going k was at_k (sym (ap (λ (x : Operation). x.id) it) ∙ same) in
      (past_by r t lt s k was found former at_k past (ap (λ (x : Operation). x.id) it) (gave was answer at_k go may it), ap (λ (x : Operation). x.call) it ∙ calls)

  answers_after : (t : ℕ) → t < last → (s : Step) (o : Outcome) → Moves (states t) s o (states (suc t)) → Notes states r.records t s → Answers t → Answers (suc t)
  answers_after t lt s o m notes h =
      let low = h.low in
      let more = begun_more_or_same (r.records t).events (r.records (suc t)).events (subst (λ (x : Record). Grows (r.records t).events x.events) (sym notes)
      (events_grow (states t) (r.records t) s o (states (suc t)) m)) in
      record {
        low = omega arith;
        going = λ k found at_k same. goes_on t lt s o m notes h k found same (from (states t) s o (states (suc t)) m k found at_k);
        answered = λ answer ended. elim (ended_now (states t) (r.records t) s o (states (suc t)) m id answer (subst (λ (x : Record). HasEnded x.events id answer) notes ended)) [
          | inl before ↦ h.answered answer before
          | inr now ↦
              let (k, operation, go, runs, same, does) = now in
              let (past, calls) = h.going k operation runs same in
              its_answer t operation answer past calls does
        ];
      }

  answers_by : (t : ℕ) → t < last → (turn : Turn (states t) (states (suc t))) → r.records (suc t) ≡ noted_turn turn (r.records t) → Answers t → Answers (suc t)
  answers_by t lt (turns s o m) notes h = answers_after t lt s o m notes h

  answers_later : (t : ℕ) → t ≤ last → Answers t → Answers last
  answers_later t le h = from_time Answers t last h (λ v from lt so_far. answers_by v lt (r.turn v lt) (r.recorded v lt) so_far) last le (omega arith)

pub past_answers : {limits : Bounds} {states : ℕ → State} {last : ℕ} (r : IsRun limits states last) → PastAnswers states r.records last
past_answers {limits} {states} {last} r t k operation former le runs h answer ended =
    let books = (offers_at r t le).books in
    let now : Answers r operation.id operation.call former t = record {
      low = running_below (states t) books k operation runs;
      going = λ j other at_j same.
          let one = (one_by_id (states t) (r.records t) books k j operation other runs at_j (sym same)).1 in
          (subst (λ x. IsPast states t x former) one h, ap (λ (x : Operation). x.call) (sym one));
      answered = λ other before. absurd ((books.told k operation runs).unended other before);
    } in
    sym ((answers_later r operation.id operation.call former t le now).answered answer ended)

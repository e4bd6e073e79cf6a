-- A close is answered with Closed, if it ends.
use Rattle.std.proofs.Common.{◌≡◌, ℕ, suc, ◌≤◌, inl, inr, Option, Some, slice_get, sym, ap, ◌∙◌, subst, arith, List}
use Rattle.std.proofs.lemmas.Option.{none-some}
use Rattle.proof_order.specs.Vocabulary.{Call, Close, Reply, Event, End, HasEnded, Operation, Action, Bounds, Outcome, Step, State, first_state, action_of, line_action, first_line, operation_after}
use Rattle.proof_order.specs.Vocabulary.{Begins, Ends, Sweeps, GivesUp, Moves, GoesOn, begun_operation, IsRun, Record, first_record, noted, told_in, given_up}
use Rattle.proof_order.specs.Beneath.history.specs.declared.replies.Reply.TheVariants as reply
use Rattle.proof_order.specs.Beneath.history.specs.declared.events.Event.TheVariants.{Begin}
use Rattle.proof_order.specs.Beneath.history.specs.Histories.{Operation as Told}
use Rattle.proof_order.specs.Beneath.history.proofs.Places.{at_cases}
use Rattle.proof_order.specs.Beneath.history.proofs.Begins.{begins_once}
use Rattle.proof_order.specs.Beneath.machine_model.specs.declared.actions.Action.TheVariants as act
use Rattle.proof_order.specs.Beneath.machine_model.specs.declared.lines.Line.TheVariants as line
use Rattle.proof_order.specs.Beneath.machine_model.specs.Moves.{Goes}
use Rattle.proof_order.specs.Beneath.machine_model.proofs.Found.{none_found}
use Rattle.proof_order.specs.Beneath.machine_model.proofs.Actors.{IsOf, is_of, mark_one, mark_only, of_others, of_itself, of_begin, of_end, of_giving_up}
use Rattle.proof_generations.proofs.Handles.Running.{place_of_actor, at_place}
use Rattle.proof_order.specs.Facts.{Runs}
use Rattle.proof_order.proofs.History.Books.{Books, ended_below}
use Rattle.proof_order.proofs.History.AllBooks.{books_kept, first_books}
use Rattle.proof_order.specs.Beneath.machine_model.proofs.Recorded.{KeptByNotes, at_each_record}
use Rattle.proof_order.specs.Beneath.machine_model.proofs.Notes.{noted_going, noted_ending}

-- ---- a close that runs is about to end

-- it stands on its only line
abbrev EndsClosed : Operation → Type 0
EndsClosed operation = (handle : ℕ) → operation.call ≡ Close handle → operation.line ≡ line.End reply.Closed

marked_closed : (m : Option ℕ) (operation : Operation) → EndsClosed operation → EndsClosed (mark_one m operation)
marked_closed m operation h handle e =
    ap (λ (o : Operation). o.line) (mark_only m operation) ∙ h handle (ap (λ (o : Operation). o.call) (sym (mark_only m operation)) ∙ e)

begun_closed : (state : State) (call : Call) (number : Option ℕ) → EndsClosed (begun_operation state call number)
begun_closed state call number handle e = ap first_line e

goes_not_closed : (state : State) (operation : Operation) (action : Action) → action_of state operation ≡ action → GoesOn action → operation.line ≡ line.End reply.Closed → ⊥
goes_not_closed state operation action a g e =
    let its : action ≡ act.End reply.Closed = sym a ∙ ap (line_action state operation) e in
    let wrong : GoesOn (act.End reply.Closed) = subst (λ x. GoesOn x) its g in
    wrong

closed_by : (state : State) (s : Step) (o : Outcome) (after : State) → Moves state s o after → (k : ℕ) (found : Operation) → Runs after k found →
    ((k : ℕ) (operation : Operation) → Runs state k operation → EndsClosed operation) → Dec (IsOf (suc k) s) → EndsClosed found
closed_by state s o after m k found at_k h (no other) =
    let (was, at_was, same) = of_others state s o after m k other found at_k in
    subst EndsClosed (sym same) (marked_closed _ was (h k was at_was))
closed_by state s o after (Begins {actor} {call} {number} d) k found at_k h (yes own) =
    subst EndsClosed (sym (of_begin state actor call (begun_operation state call number) k own found at_k)) (begun_closed state call number)
closed_by state s o after (Goes {actor} {operation} {action} d is a g) k found at_k h (yes own) =
    subst EndsClosed (sym (of_itself state actor operation k own found at_k)) (marked_closed _ (operation_after state operation) (λ handle e.
    absurd (goes_not_closed state operation action a g (h k operation (at_place state actor k operation own is) handle e))))
closed_by state s o after (Ends {actor} d is a) k found at_k h (yes own) = absurd (of_end state actor k own found at_k)
closed_by state s o after (GivesUp {actor} {operation} {answer} d is a) k found at_k h (yes own) =
    subst EndsClosed (of_giving_up state actor operation answer k own found at_k) (λ handle e. absurd (none-some answer
    (subst (λ l. given_up (Close handle) l ≡ Some answer) (h k operation (at_place state actor k operation own is) handle e) (subst (λ x. given_up x operation.line ≡ Some answer) e a))))
closed_by state s o after (Sweeps spent) k found at_k h (yes own) = absurd own

-- ---- so it is answered with that

-- the operation of this number is a close
pub record IsClose (events : List Event) (id : ℕ) : Type 0 where
  pub place : ℕ
  pub actor : ℕ
  pub handle : ℕ
  pub opens : Option ℕ
  pub at : slice_get events place ≡ Some (Begin id actor (Close handle) opens)

record Closing (state : State) (past : Record) : Type 0 where
  books : Books state past
  ends : (k : ℕ) (operation : Operation) → Runs state k operation → EndsClosed operation
  answers : (id : ℕ) → IsClose past.events id → (answer : Reply) → HasEnded past.events id answer → answer ≡ reply.Closed

ended_closed : (state : State) (past : Record) (k : ℕ) (operation : Operation) (told : Reply) → Closing state past → Runs state k operation → action_of state operation ≡ act.End told →
    IsClose past.events operation.id → told ≡ reply.Closed
ended_closed state past k operation told c runs a close =
    let its = c.books.told k operation runs in
    let x : Told = record { actor = suc k; call = operation.call; opens = operation.opens } in
    let y : Told = record { actor = close.actor; call = Close close.handle; opens = close.opens } in
    let here : its.place ≡ close.place = begins_once past.events its.place close.place operation.id x y c.books.well_formed its.begins close.at in
    let events : Some (Begin operation.id (suc k) operation.call operation.opens) ≡ Some (Begin operation.id close.actor (Close close.handle) close.opens) =
    sym its.begins ∙ ap (slice_get past.events) here ∙ close.at in
    let calls : operation.call ≡ Close close.handle = cc events in
    let replies : act.End told ≡ act.End reply.Closed = sym a ∙ ap (line_action state operation) (c.ends k operation runs close.handle calls) in
    cc replies

-- the same begin, where it stands before
its_begin : {before events : List Event} {id : ℕ} (close : IsClose events id) → slice_get before close.place ≡ Some (Begin id close.actor (Close close.handle) close.opens) → IsClose before id
its_begin close at = record { place = close.place; actor = close.actor; handle = close.handle; opens = close.opens; at = at }

answers_kept : (state : State) (past : Record) (s : Step) (o : Outcome) (after : State) → Moves state s o after → Closing state past →
    (id : ℕ) → IsClose (noted past state.steps (told_in state s)).events id → (answer : Reply) → HasEnded (noted past state.steps (told_in state s)).events id answer → answer ≡ reply.Closed
answers_kept state past s o after (Begins {actor = a} {call} {number} d) c id close answer ended =
    let (end, at_end) = ended in
    elim (at_cases past.events _ end _ at_end) [
      | inl old_end ↦ elim (at_cases past.events _ close.place _ close.at) [
        | inl old ↦ c.answers id (its_begin close old) answer (end, old_end)
        | inr new ↦
            let same : state.begun ≡ id = let event = new.1 in cc event in
            let count = c.books.alike.begun_are in
            let lt = ended_below past.events end id answer c.books.well_formed old_end in
            absurd (omega arith)
      ]
      | inr new_end ↦ let event = new_end.1 in let wrong : ⊥ = cc event in absurd wrong
    ]
answers_kept state past s o after (Goes {actor = a} {operation} {action} d is b g) c id close answer ended =
    let e = ap (λ (r : Record). r.events) (noted_going state past a operation action is b g) in
    c.answers id (subst (λ l. IsClose l id) e close) answer (subst (λ l. HasEnded l id answer) e ended)
answers_kept state past s o after (Ends {actor = a} {operation} {answer = told} d is b) c id close answer ended =
    let e = ap (λ (r : Record). r.events) (noted_ending state past a operation told is b) in
    let (end, at_end) = subst (λ l. HasEnded l id answer) e ended in
    let later = subst (λ l. IsClose l id) e close in
    elim (at_cases past.events (End operation.id told) later.place _ later.at) [
      | inl old ↦ elim (at_cases past.events (End operation.id told) end _ at_end) [
        | inl old_end ↦ c.answers id (its_begin later old) answer (end, old_end)
        | inr new_end ↦
            let event = new_end.1 in
            let same_id : operation.id ≡ id = cc event in
            let same_reply : told ≡ answer = cc event in
            let (k, own, runs) = place_of_actor state a operation is in
            sym same_reply ∙ ended_closed state past k operation told c runs b (subst (λ i. IsClose past.events i) (sym same_id) (its_begin later old))
      ]
      | inr new ↦ let event = new.1 in let wrong : ⊥ = cc event in absurd wrong
    ]
answers_kept state past s o after (GivesUp d is b) c id close answer ended = c.answers id close answer ended
answers_kept state past s o after (Sweeps spent) c id close answer ended = c.answers id close answer ended

closing_kept : KeptByNotes Closing
closing_kept state past s o after m c = record {
  books = books_kept state past s o after m c.books;
  ends = λ k found at_k. closed_by state s o after m k found at_k c.ends (is_of (suc k) s);
  answers = answers_kept state past s o after m c;
}

none_closes : (limits : Bounds) (k : ℕ) (operation : Operation) → Runs (first_state limits) k operation → EndsClosed operation
unfolding first_state
none_closes limits k operation at_k = absurd (none_found limits.actors k operation at_k)

nothing_told : (limits : Bounds) (place : ℕ) (event : Event) → slice_get (first_record limits).events place ≡ Some event → ⊥
nothing_told limits place event at = cc at

first_closing : (limits : Bounds) → Closing (first_state limits) (first_record limits)
first_closing limits = record {
  books = first_books limits;
  ends = none_closes limits;
  answers = λ id close answer ended. absurd (nothing_told limits close.place _ close.at);
}

-- at each time of a run
pub closed_reply : {limits : Bounds} {states : ℕ → State} {last : ℕ} (r : IsRun limits states last) (t : ℕ) → t ≤ last → (id : ℕ) → IsClose (r.records t).events id → (answer : Reply) →
    HasEnded (r.records t).events id answer → answer ≡ reply.Closed
closed_reply {limits} {states} {last} r t le = (at_each_record r Closing (first_closing limits) closing_kept t le).answers

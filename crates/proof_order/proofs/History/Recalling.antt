-- What the whole history says of an operation that runs at some time.
use Rattle.std.proofs.Common.{◌≡◌, ℕ, suc, ◌+◌, ◌≤◌, cond, List, [], ◌∷◌, ◌++◌, Some, slice_get, refl, ap, ◌∙◌, arith}
use Rattle.std.proofs.lemmas.List.Sums.{sum_by-append}
use Rattle.proof_order.specs.Vocabulary.{Reply, Event, End, HasEnded, is_begin, begun, Recalls, Operation, Bounds, State, operation_of, action_of, IsRun, Record, noted, told_in}
use Rattle.proof_order.specs.Beneath.history.specs.Histories.{Operation as Told}
use Rattle.proof_order.specs.Beneath.machine_model.specs.declared.actions.Action.TheVariants as act
use Rattle.proof_order.specs.Beneath.machine_model.specs.declared.steps.Step.TheVariants as step
use Rattle.proof_order.specs.Facts.{Runs, IsReply}
use Rattle.proof_order.proofs.History.AllBooks.{books_at}
use Rattle.proof_order.proofs.History.Growing.{holds_later, Grows, get_grown, events_grow}
use Rattle.proof_order.specs.Beneath.history.proofs.OneFault.{reply_once}
use Rattle.proof_order.specs.Beneath.machine_model.proofs.Recorded.{KeptByNotes}
use Rattle.proof_order.specs.Beneath.machine_model.proofs.Notes.{noted_ending}

-- ---- what is told at one time is told at the end

event_kept : (place : ℕ) (event : Event) → KeptByNotes (λ state past. slice_get past.events place ≡ Some event)
event_kept place event state past s o after m at = get_grown past.events _ place event (events_grow state past s o after m) at

module _ {limits : Bounds} {states : ℕ → State} {last : ℕ} (r : IsRun limits states last) where
  pub event_later : (t u place : ℕ) (event : Event) → t ≤ u → u ≤ last → slice_get (r.records t).events place ≡ Some event → slice_get (r.records u).events place ≡ Some event
  event_later t u place event le within at = holds_later r (λ state past. slice_get past.events place ≡ Some event) (event_kept place event) t u le within at

  -- an operation that runs at some time has begun, and the whole history says with which call
  pub recalls_running : (t k : ℕ) (operation : Operation) (answer : Reply) → t ≤ last → Runs (states t) k operation → IsReply (r.records last).events operation.id answer →
      Recalls (r.records last).events operation.id (record { call = operation.call; opens = operation.opens; answer = answer })
  recalls_running t k operation answer le runs is =
      let told = (books_at r t le).told k operation runs in
      let says : Told = record { actor = suc k; call = operation.call; opens = operation.opens } in
      ((told.place, says, event_later t last told.place _ le (omega arith) told.begins, refl, refl), is)

  -- a reply that is told is the one with which the operation ends
  pub told_reply : (t id : ℕ) (answer : Reply) → t ≤ last → HasEnded (r.records t).events id answer → IsReply (r.records last).events id answer
  told_reply t id answer le ended other ends =
      reply_once (r.records last).events id answer other (books_at r last (omega arith)).well_formed
      (ended.0, event_later t last ended.0 _ le (omega arith) ended.1) ends

-- ---- the events of a step

-- the end of an operation is told
pub end_event : (state : State) (past : Record) (actor : ℕ) (operation : Operation) (answer : Reply) → operation_of state actor ≡ Some operation →
    action_of state operation ≡ act.End answer → (noted past state.steps (told_in state (step.Go actor))).events ≡ past.events ++ End operation.id answer ∷ []
end_event state past actor operation answer is does = ap (λ (r : Record). r.events) (noted_ending state past actor operation answer is does)

-- as many operations have begun later
pub begun_more_or_same : (xs ys : List Event) → Grows xs ys → begun xs ≤ begun ys
begun_more_or_same xs ys (more, e) =
    let whole : begun ys ≡ begun xs + begun more = ap begun e ∙ sum_by-append (λ x. cond (is_begin x) 1 0) xs more in
    omega arith

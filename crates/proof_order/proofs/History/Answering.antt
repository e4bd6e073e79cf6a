-- An operation whose offer was carried out answers so, if it ends.
use Rattle.std.proofs.Common.{◌≡◌, ℕ, suc, ◌<◌, ◌≤◌, ◌⊎◌, inl, inr, cond, true, Option, Some, None, sym, ap, ◌∙◌, subst, arith}
use Rattle.proof_order.specs.Vocabulary.{Call, Reply, End, HasEnded, begun, Operation, Descriptor, Complete, Outcome, Step, Bounds, handle_of, State, first_state, word_at, complete_action}
use Rattle.proof_order.specs.Vocabulary.{is_carried_out, copied_reply, action_of, line_action, operation_after, Begins, Ends, Sweeps, GivesUp, Moves, IsRun, Record, first_record, noted, told_in}
use Rattle.proof_order.specs.Beneath.machine_model.specs.declared.actions.Action.TheVariants as act
use Rattle.proof_order.specs.Beneath.machine_model.specs.declared.copying.CopyLine.TheVariants as copy
use Rattle.proof_order.specs.Beneath.machine_model.specs.declared.lines.Line.TheVariants as line
use Rattle.proof_order.specs.Beneath.machine_model.specs.declared.steps.Step.TheVariants as step
use Rattle.proof_order.specs.Beneath.machine_model.specs.Moves.{Goes}
use Rattle.proof_order.specs.Beneath.machine_model.proofs.Actors.{mark_one, mark_only, marks_in, marks_by, marks_of}
use Rattle.proof_generations.proofs.Offers.Marks.{marks_mark}
use Rattle.proof_generations.proofs.Offers.Standing.{offer_line}
use Rattle.proof_generations.proofs.Handles.Running.{place_of_actor, one_at, at_place}
use Rattle.proof_order.specs.Facts.{Runs, IsReply, CarriesOut}
use Rattle.proof_order.specs.Openings.{IsSwap}
use Rattle.proof_order.proofs.History.Books.{one_by_id}
use Rattle.proof_order.proofs.History.Growing.{ended_before, events_grow, holds_later}
use Rattle.proof_order.proofs.History.Recalling.{begun_more_or_same}
use Rattle.proof_order.proofs.Offers.Known.{Offers, running_below}
use Rattle.proof_order.proofs.Offers.Standing.{offers_kept, first_offers, nobody}
use Rattle.proof_order.proofs.History.OneStep.{From, began, kept, stepped, from, gave}
use Rattle.proof_order.proofs.History.Copies.{IsDone, done_by, stays_marked, mark_kept, own_marks}
use Rattle.proof_order.specs.Beneath.machine_model.proofs.Recorded.{KeptByNotes, at_each_record}
use Rattle.proof_order.specs.Beneath.machine_model.proofs.Notes.{noted_going, noted_ending}

-- an end that a step tells is of an operation that takes it
pub ended_now : (state : State) (past : Record) (s : Step) (o : Outcome) (after : State) → Moves state s o after → (id : ℕ) (answer : Reply) →
    HasEnded (noted past state.steps (told_in state s)).events id answer → HasEnded past.events id answer
    ⊎ ((k : ℕ) × (operation : Operation) × (s ≡ step.Go (suc k)) × Runs state k operation × (operation.id ≡ id) × (action_of state operation ≡ act.End answer))
ended_now state past s o after (Begins {actor} {call} {number} d) id answer ended = elim (ended_before past.events _ id answer ended) [
  | inl old ↦ inl old
  | inr new ↦ let wrong : ⊥ = cc new in absurd wrong
]
ended_now state past s o after (Goes {actor} {operation} {action} d is a g) id answer ended =
    inl (subst (λ (r : Record). HasEnded r.events id answer) (noted_going state past actor operation action is a g) ended)
ended_now state past s o after (Ends {actor} {operation} {answer = told} d is a) id answer ended =
    let notes = noted_ending state past actor operation told is a in
    elim (ended_before past.events (End operation.id told) id answer (subst (λ (r : Record). HasEnded r.events id answer) notes ended)) [
      | inl old ↦ inl old
      | inr new ↦
          let same_id : operation.id ≡ id = cc new in
          let same_reply : told ≡ answer = cc new in
          let (k, actors, runs) = place_of_actor state actor operation is in
          inr (k, operation, ap step.Go actors, runs, same_id, a ∙ ap act.End same_reply)
    ]
ended_now state past s o after (GivesUp d is a) id answer ended = inl ended
ended_now state past s o after (Sweeps spent) id answer ended = inl ended

-- ---- at each time

pub record Phased (state : State) (past : Record) : Type 0 where
  pub offers : Offers state past
  pub done : (k : ℕ) (operation : Operation) → Runs state k operation → IsDone operation

pub phased_kept : KeptByNotes Phased
phased_kept state past s o after m h = record {
  offers = offers_kept state past s o after m h.offers;
  done = λ k found at_k. done_by state s h.offers h.done k found (from state s o after m k found at_k);
}

pub first_phased : (limits : Bounds) → Phased (first_state limits) (first_record limits)
first_phased limits = record { offers = first_offers limits; done = λ k operation at_k. absurd (nobody limits k operation at_k) }

-- ---- once its offer is carried out

-- it is marked while it runs, and has this answer once it has ended
pub record Settled (id : ℕ) (call : Call) (opens : Option ℕ) (state : State) (past : Record) : Type 0 where
  pub phased : Phased state past
  pub begun_before : id < begun past.events
  pub marked : (k : ℕ) (operation : Operation) → Runs state k operation → operation.id ≡ id → (operation.is_marked ≡ true) × (operation.call ≡ call) × (operation.opens ≡ opens)
  pub answered : (answer : Reply) → HasEnded past.events id answer → answer ≡ copied_reply call opens

complete_no_end : (c : Complete) (answer : Reply) → complete_action c ≡ act.End answer → ⊥
complete_no_end c answer e = grind arith

-- a marked operation makes no offer
pub no_offer : (state : State) (operation : Operation) → IsDone operation → operation.is_marked ≡ true → (offer : Descriptor) → action_of state operation ≡ act.Offer offer → ⊥
no_offer state operation done marked offer does = by (offer_line state operation operation.line offer does) (done marked)
  where
    by : operation.line ≡ line.Copy (copy.Offer offer) → ((c : Complete) × (operation.line ≡ line.Copy (copy.Complete c)))
        ⊎ (operation.line ≡ line.End (copied_reply operation.call operation.opens)) → ⊥
    by at (inl (c, e)) = let wrong : line.Copy (copy.Offer offer) ≡ line.Copy (copy.Complete c) = sym at ∙ e in cc wrong
    by at (inr e) = let wrong : line.Copy (copy.Offer offer) ≡ line.End (copied_reply operation.call operation.opens) = sym at ∙ e in cc wrong

-- and ends with that answer alone
done_answer : (state : State) (operation : Operation) (answer : Reply) → IsDone operation → operation.is_marked ≡ true → action_of state operation ≡ act.End answer →
    answer ≡ copied_reply operation.call operation.opens
done_answer state operation answer done marked does = elim (done marked) [
  | inl at ↦ absurd (complete_no_end at.0 answer (sym (ap (line_action state operation) at.1) ∙ does))
  | inr at ↦ let same : act.End (copied_reply operation.call operation.opens) ≡ act.End answer = sym (ap (line_action state operation) at) ∙ does in cc same
]

module _ (id : ℕ) (call : Call) (opens : Option ℕ) where
  Fits : Operation → Type 0
  Fits operation = (operation.is_marked ≡ true) × (operation.call ≡ call) × (operation.opens ≡ opens)

  marked_fits : (m : Option ℕ) (operation : Operation) → Fits operation → Fits (mark_one m operation)
  unfolding Fits
  marked_fits m operation (a, b, c) =
      (stays_marked m operation a, ap (λ (o : Operation). o.call) (mark_only m operation) ∙ b, ap (λ (o : Operation). o.opens) (mark_only m operation) ∙ c)

  fits_by : (state : State) {past : Record} (s : Step) → Settled id call opens state past → (k : ℕ) (found : Operation) → found.id ≡ id → From state s k found → Fits found
  unfolding Fits
  fits_by state s h k found same (began new) =
      let low = h.begun_before in
      let count = h.phased.offers.books.alike.begun_are in
      let its : found.id ≡ state.begun = ap (λ (x : Operation). x.id) new.is_it in
      absurd (omega arith)
  fits_by state s h k found same (kept operation runs is other) =
      let its : operation.id ≡ id = sym (ap (λ (o : Operation). o.id) (mark_only (marks_in state s) operation)) ∙ ap (λ (x : Operation). x.id) (sym is) ∙ same in
      subst (λ x. Fits x) (sym is) (marked_fits (marks_in state s) operation (h.marked k operation runs its))
  fits_by state s h k found same (stepped operation runs e goes is) =
      let next : Operation = operation_after state operation in
      let m = marks_by state (Some operation) in
      let its : operation.id ≡ id = sym (ap (λ (o : Operation). o.id) (mark_only m next)) ∙ ap (λ (x : Operation). x.id) (sym is) ∙ same in
      let (marked, calls, number) = h.marked k operation runs its in
      let keeps = mark_kept operation.is_marked (action_of state operation) (no_offer state operation (h.phased.done k operation runs) marked) in
      subst (λ x. Fits x) (sym is) (marked_fits m next (keeps ∙ marked, calls, number))
  fits_by state s h k found same (gave operation answer runs e may is) = subst (λ x. Fits x) (sym is) (h.marked k operation runs (ap (λ (x : Operation). x.id) (sym is) ∙ same))

  settled_kept : KeptByNotes (Settled id call opens)
  unfolding Fits
  settled_kept state past s o after m h =
      let low = h.begun_before in
      let more = begun_more_or_same past.events _ (events_grow state past s o after m) in
      record {
        phased = phased_kept state past s o after m h.phased;
        begun_before = omega arith;
        marked = λ k found at_k same. fits_by state s h k found same (from state s o after m k found at_k);
        answered = λ answer ended. elim (ended_now state past s o after m id answer ended) [
          | inl old ↦ h.answered answer old
          | inr new ↦
              let (k, operation, e, runs, same, does) = new in
              let (marked, calls, number) = h.marked k operation runs same in
              done_answer state operation answer (h.phased.done k operation runs) marked does ∙ ap (λ c. copied_reply c operation.opens) calls ∙ ap (copied_reply call) number
        ];
      }

-- ---- from the step that carries it out

pub carried_marks : (state : State) (s : Step) (handle : ℕ) (offer : Descriptor) → CarriesOut state s handle offer → marks_in state s ≡ Some offer.operation
carried_marks state s handle offer (actor, operation, main, e, is, does, on, out) =
    ap (marks_in state) e ∙ ap (marks_by state) is ∙ ap (marks_of state (handle_of operation.call)) does
    ∙ ap (λ b. cond b (Some offer.operation) None) (ap (λ h. is_carried_out (word_at state h) offer main) on ∙ out)

module _ (state : State) (past : Record) (s : Step) (o : Outcome) (after : State) (m : Moves state s o after) (phased : Phased state past) (handle : ℕ) (offer : Descriptor)
    (carries : CarriesOut state s handle offer)
    (k : ℕ) (offerer : Operation) (runs : Runs state k offerer) (id : offerer.id ≡ offer.operation) where
  NowFits : Operation → Type 0
  NowFits operation = (operation.is_marked ≡ true) × (operation.call ≡ offerer.call) × (operation.opens ≡ offerer.opens)

  now_marked : (x : Operation) (marks : Option ℕ) → marks ≡ Some offer.operation → x.id ≡ offer.operation → x.call ≡ offerer.call → x.opens ≡ offerer.opens → NowFits (mark_one marks x)
  unfolding NowFits
  now_marked x marks is same calls number =
      (marks_mark marks x (is ∙ ap Some (sym same)), ap (λ (q : Operation). q.call) (mark_only marks x) ∙ calls, ap (λ (q : Operation). q.opens) (mark_only marks x) ∙ number)

  now_by : (j : ℕ) (found : Operation) → found.id ≡ offer.operation → From state s j found → NowFits found
  unfolding NowFits
  now_by j found same (began new) =
      let low = running_below state phased.offers.books k offerer runs in
      let count = phased.offers.books.alike.begun_are in
      let its : found.id ≡ state.begun = ap (λ (x : Operation). x.id) new.is_it in
      absurd (omega arith)
  now_by j found same (kept operation there is other) =
      let its : operation.id ≡ offer.operation = sym (ap (λ (q : Operation). q.id) (mark_only (marks_in state s) operation)) ∙ ap (λ (x : Operation). x.id) (sym is) ∙ same in
      let one = (one_by_id state past phased.offers.books j k operation offerer there runs (its ∙ sym id)).1 in
      subst (λ x. NowFits x) (sym is) (now_marked operation (marks_in state s) (carried_marks state s handle offer carries) its (ap (λ (x : Operation). x.call) one)
      (ap (λ (x : Operation). x.opens) one))
  now_by j found same (stepped operation there e goes is) =
      let next : Operation = operation_after state operation in
      let marks = marks_by state (Some operation) in
      let its : operation.id ≡ offer.operation = sym (ap (λ (q : Operation). q.id) (mark_only marks next)) ∙ ap (λ (x : Operation). x.id) (sym is) ∙ same in
      let one = (one_by_id state past phased.offers.books j k operation offerer there runs (its ∙ sym id)).1 in
      let marked : marks ≡ Some offer.operation = sym (own_marks state s j operation e there) ∙ carried_marks state s handle offer carries in
      subst (λ x. NowFits x) (sym is) (now_marked next marks marked its (ap (λ (x : Operation). x.call) one) (ap (λ (x : Operation). x.opens) one))
  now_by j found same (gave operation answer there e may is) =
      let (actor, other, main, step_is, is_other, completes, on, out) = carries in let wrong : step.Go actor ≡ step.GiveUp (suc j) = sym step_is ∙ e in absurd (cc wrong)

  carries_not_ends : (j : ℕ) (operation : Operation) (answer : Reply) → s ≡ step.Go (suc j) → Runs state j operation → action_of state operation ≡ act.End answer → ⊥
  carries_not_ends j operation answer e there does =
      let (actor, other, main, step_is, is, completes, on, out) = carries in
      let steps : step.Go actor ≡ step.Go (suc j) = sym step_is ∙ e in
      let actors : actor ≡ suc j = cc steps in
      let one = one_at state j other operation (at_place state actor j other actors is) there in
      let wrong : act.Complete offer main ≡ act.End answer = sym completes ∙ ap (action_of state) one ∙ does in
      cc wrong

  pub settled_now : Settled offer.operation offerer.call offerer.opens after (noted past state.steps (told_in state s))
  unfolding NowFits
  settled_now =
      let low = running_below state phased.offers.books k offerer runs in
      let more = begun_more_or_same past.events _ (events_grow state past s o after m) in
      record {
        phased = phased_kept state past s o after m phased;
        begun_before = omega arith;
        marked = λ j found at_j same. now_by j found same (from state s o after m j found at_j);
        answered = λ answer ended. elim (ended_now state past s o after m offer.operation answer ended) [
          | inl old ↦ absurd ((phased.offers.books.told k offerer runs).unended answer (subst (λ i. HasEnded past.events i answer) (sym id) old))
          | inr new ↦ let (j, operation, e, there, same, does) = new in absurd (carries_not_ends j operation answer e there does)
        ];
      }

module _ {limits : Bounds} {states : ℕ → State} {last : ℕ} (r : IsRun limits states last) where
  pub phased_at : (t : ℕ) → t ≤ last → Phased (states t) (r.records t)
  phased_at t le = at_each_record r Phased (first_phased limits) phased_kept t le

  -- the operation whose offer is carried out answers so
  pub carried_reply : (t handle : ℕ) (offer : Descriptor) → IsSwap states r.records last t handle offer → (k : ℕ) (offerer : Operation) → Runs (states t) k offerer →
      offerer.id ≡ offer.operation → IsReply (r.records last).events offer.operation (copied_reply offerer.call offerer.opens)
  carried_reply t handle offer swap k offerer runs id other ended =
      let now =
      subst (λ x. Settled offer.operation offerer.call offerer.opens (states (suc t)) x) (sym swap.notes)
      (settled_now (states t) (r.records t) swap.step swap.outcome (states (suc t)) swap.moves (phased_at t (omega (arith, swap.taken))) handle offer swap.carries k offerer runs id) in
      let then_on = holds_later r (Settled offer.operation offerer.call offerer.opens) (settled_kept offer.operation offerer.call offerer.opens) (suc t) last swap.taken
      (omega arith) now in
      sym (then_on.answered other ended)

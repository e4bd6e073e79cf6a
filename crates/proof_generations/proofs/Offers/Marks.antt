-- Marks: an operation that is marked has its offer carried out, and is about to end.
use Rattle.std.proofs.Common.{◌≡◌, ℕ, suc, ◌==◌, ◌||◌, Bool, true, false, cond, Option, Some, None, refl, sym, ap, ◌∙◌, inl, inr, eqb-true, eq-eqb, arith}
use Rattle.std.proofs.lemmas.Bool.{true≢false, false≢true, and_parts, cases_Bool, or_left, or_right}
use Rattle.std.proofs.lemmas.Option.{none-some, same_Some}
use Rattle.proof_generations.specs.Vocabulary.{Ref, Action, Line, Operation, After, Gives, Complete, CompleteLine, Descriptor, Offer, Outcome, Step, handle_of, State, word_at, operation_of, new_try}
use Rattle.proof_generations.specs.Vocabulary.{is_carried_out, stands_in, complete_action, of_offer, after_complete, after_reading, copy_after_complete, copied_reply, action_of, line_action}
use Rattle.proof_generations.specs.Vocabulary.{line_after, operation_after, mark_after, Moves, GoesOn}
use Rattle.proof_generations.specs.Beneath.machine_model.specs.declared.actions.Action.TheVariants as act
use Rattle.proof_generations.specs.Beneath.machine_model.specs.declared.copying.CopyLine.TheVariants as copy
use Rattle.proof_generations.specs.Beneath.machine_model.specs.declared.lines.Line.TheVariants as line
use Rattle.proof_generations.specs.Beneath.machine_model.specs.declared.reading.After.TheVariants.{Goes as Continues}
use Rattle.proof_generations.specs.Beneath.machine_model.specs.declared.roots.CompleteLine.TheVariants as complete
use Rattle.proof_generations.specs.Beneath.machine_model.specs.declared.steps.Step.TheVariants as step
use Rattle.proof_generations.specs.Beneath.machine_model.proofs.Actors.{mark_one, mark_only, marks_in, marks_by, marks_of}
use Rattle.proof_generations.proofs.Handles.Running.{Comes, began, rested, went, comes, gave}
use Rattle.proof_generations.specs.Running.{Runs}
use Rattle.proof_generations.proofs.Handles.Ids.{one_of_id}
use Rattle.proof_generations.specs.Laws.Roots.{settles}
use Rattle.proof_generations.proofs.Offers.Standing.{own_offer, own_numbers, completes_it}
use Rattle.proof_generations.proofs.Offers.Same.{HasOffers, same_offer}
use Rattle.proof_generations.proofs.Handles.Footings.{ActionCarriesOut}

-- ---- who is marked

-- an offer that is carried out stands in the word of the handle, and its operation by it
pub carried_stands : (state : State) → HasOffers state → (actor : ℕ) (operation : Operation) (offer : Descriptor) → operation_of state actor ≡ Some operation →
    ActionCarriesOut state (handle_of operation.call) (action_of state operation) offer → word_at state (handle_of operation.call) ≡ Offer offer
carried_stands state I actor operation offer is c =
    same_offer state I actor operation offer is (ap settles c.is_it) (handle_of operation.call)
    (and_parts (stands_in (word_at state (handle_of operation.call)) offer) (c.main == offer.expected) c.carried).0

carries_so : (state : State) (handle : ℕ) (action : Action) (id : ℕ) → marks_of state handle action ≡ Some id → (offer : Descriptor) × ActionCarriesOut state handle action offer
    × (offer.operation ≡ id)
carries_so state handle (act.Complete offer main) id e = by (is_carried_out (word_at state handle) offer main) refl e
  where
    by : (b : Bool) → is_carried_out (word_at state handle) offer main ≡ b → cond b (Some offer.operation) None ≡ Some id →
        (d : Descriptor) × ActionCarriesOut state handle (act.Complete offer main) d × (d.operation ≡ id)
    by true t e = (offer, record { main = main; is_it = refl; carried = t }, same_Some _ _ e)
    by false t e = absurd (none-some id e)
carries_so state handle action id e = absurd (none-some id e)

-- the step carries out the offer of this operation, which stands by it
pub record Marks (state : State) (s : Step) (k : ℕ) (owner : Operation) : Type 0 where
  pub actor : ℕ
  pub mover : Operation
  pub offer : Descriptor
  pub is_step : s ≡ step.Go actor
  pub moves : operation_of state actor ≡ Some mover
  pub carries : ActionCarriesOut state (handle_of mover.call) (action_of state mover) offer
  pub completes : own_offer owner.line ≡ Some offer
  pub on_handle : handle_of owner.call ≡ handle_of mover.call
  pub unmarked : owner.is_marked ≡ false

module _ (state : State) (I : HasOffers state) where
  marked_by : (k : ℕ) (owner : Operation) → Runs state k owner → (actor : ℕ) (o : Option Operation) → operation_of state actor ≡ o →
      marks_by state o ≡ Some owner.id → Marks state (step.Go actor) k owner
  marked_by k owner at_k actor None is e = absurd (none-some owner.id e)
  marked_by k owner at_k actor (Some mover) is e =
      let (offer, carries, its) = carries_so state (handle_of mover.call) (action_of state mover) owner.id e in
      let b = I.offers (handle_of mover.call) offer (carried_stands state I actor mover offer is carries) in
      let one : b.owner ≡ owner = one_of_id state I.ids b.k k b.owner owner b.runs at_k (sym (own_numbers b.owner offer (I.own b.k b.owner b.runs) b.completes).its ∙ its) in
      record {
        actor = actor;
        mover = mover;
        offer = offer;
        is_step = refl;
        moves = is;
        carries = carries;
        completes = ap (λ (x : Operation). own_offer x.line) (sym one) ∙ b.completes;
        on_handle = ap (λ (x : Operation). handle_of x.call) (sym one) ∙ b.on_handle;
        unmarked = ap (λ (x : Operation). x.is_marked) (sym one) ∙ b.unmarked;
      }

  pub marked_in : (s : Step) (k : ℕ) (owner : Operation) → Runs state k owner → marks_in state s ≡ Some owner.id → Marks state s k owner
  marked_in (step.Begin actor call number) k owner at_k e = absurd (none-some owner.id e)
  marked_in (step.Go actor) k owner at_k e = marked_by k owner at_k actor (operation_of state actor) refl e
  marked_in step.Sweep k owner at_k e = absurd (none-some owner.id e)
  marked_in (step.GiveUp actor) k owner at_k e = absurd (none-some owner.id e)

-- ---- what is marked is done

abbrev pub is_done : Line → Bool
is_done (line.Copy (copy.Complete c)) = true
is_done (line.End answer) = true
is_done l = false

abbrev pub AllDone : State → Type 0
AllDone state = (k : ℕ) (operation : Operation) → Runs state k operation → operation.is_marked ≡ true → is_done operation.line ≡ true

-- a marked operation was so before, or the step marks it
pub mark_cases : (m : Option ℕ) (operation : Operation) → (mark_one m operation).is_marked ≡ true → (operation.is_marked ≡ false → m ≡ Some operation.id)
mark_cases None operation e f = absurd (true≢false (sym e ∙ f))
mark_cases (Some id) operation e f = by (operation.id == id) refl e
  where
    by : (b : Bool) → (operation.id == id) ≡ b → (cond b (record operation { is_marked = true }) operation).is_marked ≡ true → Some id ≡ Some operation.id
    by true t e = ap Some (sym (eqb-true operation.id id t))
    by false t e = absurd (true≢false (sym e ∙ f))

-- it isn't marked after the step: it wasn't before, and the step doesn't mark it
pub unmarked_before : (m : Option ℕ) (operation : Operation) → (mark_one m operation).is_marked ≡ false → operation.is_marked ≡ false
unmarked_before None operation e = e
unmarked_before (Some id) operation e = by (operation.id == id) e
  where
    by : (b : Bool) → (cond b (record operation { is_marked = true }) operation).is_marked ≡ false → operation.is_marked ≡ false
    by true e = absurd (true≢false e)
    by false e = e

pub marks_mark : (m : Option ℕ) (operation : Operation) → m ≡ Some operation.id → (mark_one m operation).is_marked ≡ true
marks_mark m operation e =
    ap (λ x. (mark_one x operation).is_marked) e ∙ ap (λ b. (cond b (record operation { is_marked = true }) operation).is_marked) (eq-eqb operation.id operation.id refl)

done_of : (l : Line) (offer : Descriptor) → own_offer l ≡ Some offer → is_done l ≡ true
done_of (line.Copy (copy.Complete c)) offer e = refl
done_of l offer e = absurd (none-some offer e)

-- a done line that goes on completes its offer; it leads to a done one where the operation is marked, or is by this very step
ended_done : (operation : Operation) (done : Bool) → (done || operation.is_marked) ≡ true → is_done (copy_after_complete operation (Gives done)) ≡ true
ended_done operation done e = ap (λ b. is_done (cond b (line.End (copied_reply operation.call operation.opens)) new_try)) e

next_done : (state : State) (operation : Operation) (c : Complete) →
    ((main : Ref) → c.line ≡ complete.Swap main → (is_carried_out (word_at state (handle_of operation.call)) c.offer main || operation.is_marked) ≡ true) →
    is_done (line_after state operation (line.Copy (copy.Complete c))) ≡ true
next_done state operation c h = by c.line refl
  where
    going : (a : After CompleteLine Bool) → ((done : Bool) → a ≡ Gives done → (done || operation.is_marked) ≡ true) → is_done (copy_after_complete operation (of_offer c.offer a)) ≡ true
    going (Continues l) g = refl
    going (Gives done) g = ended_done operation done (g done refl)

    by : (l : CompleteLine) → c.line ≡ l →
        is_done (copy_after_complete operation (of_offer c.offer (after_complete state.heap operation.access (word_at state (handle_of operation.call)) c.offer l))) ≡ true
    by (complete.Reading l) e = going _ (λ done wrong. absurd (never done _ wrong))
      where
        never : (done : Bool) (a : After _ Ref) → after_reading a ≡ Gives done → ⊥
        never done (Continues l) e = cc e
        never done (Gives main) e = cc e
    by (complete.Swap main) e = ended_done operation _ (h main e)

pub is_completing : (l : Line) → is_done l ≡ true → (state : State) (operation : Operation) → GoesOn (line_action state operation l) → (c : Complete) × (l ≡ line.Copy (copy.Complete c))
is_completing (line.Copy (copy.Complete c)) e state operation g = (c, refl)
is_completing (line.End answer) e state operation g = absurd g
is_completing l e state operation g = absurd (false≢true e)

pub complete_mark : (mark : Bool) (c : Complete) → mark_after mark (complete_action c) ≡ mark
complete_mark mark c = grind arith

module _ (state : State) (I : HasOffers state) (all : AllDone state) (s : Step) where
  done_by : (k : ℕ) (found : Operation) → Comes state s k found → found.is_marked ≡ true → is_done found.line ≡ true
  done_by k found (began call number is d it) e = absurd (false≢true (ap (λ (x : Operation). x.is_marked) (sym it) ∙ e))
  done_by k found (rested was at_k it other_step) e =
      ap (λ (x : Operation). is_done x.line) (it ∙ mark_only (marks_in state s) was) ∙
      elim (cases_Bool was.is_marked) [
        | inl set ↦ all k was at_k set
        | inr not_yet ↦ let h = marked_in state I s k was at_k (mark_cases (marks_in state s) was (ap (λ (x : Operation). x.is_marked) (sym it) ∙ e) not_yet) in done_of was.line h.offer h.completes
      ]
  done_by k found (gave was answer is at_k may it) e = ap (λ (x : Operation). is_done x.line) it
  done_by k found (went was is at_k g it) e =
      ap (λ (x : Operation). is_done x.line) (it ∙ mark_only (marks_in state s) (operation_after state was)) ∙
      elim (cases_Bool was.is_marked) [
        | inl set ↦ goes_on k was at_k g set
        | inr not_yet ↦
            let fresh : mark_after was.is_marked (action_of state was) ≡ false = ap (λ b. mark_after b (action_of state was)) not_yet ∙ stays_unmarked (action_of state was) in
            let h = marked_in state I s k was at_k (mark_cases (marks_in state s) (operation_after state was) (ap (λ (x : Operation). x.is_marked) (sym it) ∙ e) fresh) in
            let (c, at_line, its) = completes_it was.line h.offer h.completes in
            carries_now k was at_k is h c at_line its
      ]
    where
      stays_unmarked : (action : Action) → mark_after false action ≡ false
      stays_unmarked (act.Offer offer) = refl
      stays_unmarked action = refl

      goes_on : (k : ℕ) (was : Operation) → Runs state k was → GoesOn (action_of state was) → was.is_marked ≡ true → is_done (line_after state was was.line) ≡ true
      goes_on k was at_k g set =
          let (c, at_line) = is_completing was.line (all k was at_k set) state was g in
          ap (λ l. is_done (line_after state was l)) at_line ∙ next_done state was c (λ main e. or_right (is_carried_out (word_at state (handle_of was.call)) c.offer main) was.is_marked set)

      same_actor : (actor k : ℕ) → s ≡ step.Go actor → s ≡ step.Go (suc k) → actor ≡ suc k
      same_actor actor k e f = let both : step.Go actor ≡ step.Go (suc k) = sym e ∙ f in cc both

      complete_main : (a b : Descriptor) (m n : Ref) → act.Complete a m ≡ act.Complete b n → m ≡ n
      complete_main a b m n e = cc e

      carried_by : (was : Operation) (c : Complete) (offer : Descriptor) (now main : Ref) → c.line ≡ complete.Swap main → complete_action c ≡ act.Complete offer now → c.offer ≡ offer →
          is_carried_out (word_at state (handle_of was.call)) offer now ≡ true → (is_carried_out (word_at state (handle_of was.call)) c.offer main || was.is_marked) ≡ true
      carried_by was c offer now main e action_is its carried =
          let swaps : act.Complete c.offer main ≡ act.Complete offer now = ap (λ l. complete_action (record c { line = l })) (sym e) ∙ action_is in
          or_left (is_carried_out (word_at state (handle_of was.call)) c.offer main) was.is_marked
          (ap (λ d. is_carried_out (word_at state (handle_of was.call)) d main) its ∙ ap (λ m. is_carried_out (word_at state (handle_of was.call)) offer m)
          (complete_main c.offer offer main now swaps) ∙ carried)

      carries_now : (k : ℕ) (was : Operation) → Runs state k was → s ≡ step.Go (suc k) → (h : Marks state s k was) → (c : Complete) → was.line ≡ line.Copy (copy.Complete c) → c.offer ≡ h.offer →
          is_done (line_after state was was.line) ≡ true
      carries_now k was at_k is h c at_line its =
          let mover_is : h.mover ≡ was = same_Some _ _ (sym h.moves ∙ ap (operation_of state) (same_actor h.actor k h.is_step is) ∙ at_k) in
          let action_is : complete_action c ≡ act.Complete h.offer (h.carries.main) = ap (line_action state was) (sym at_line) ∙ ap (action_of state) (sym mover_is) ∙ h.carries.is_it in
          let carried : is_carried_out (word_at state (handle_of was.call)) h.offer (h.carries.main) ≡ true =
          ap (λ (x : Operation). is_carried_out (word_at state (handle_of x.call)) h.offer (h.carries.main)) (sym mover_is) ∙ h.carries.carried in
          ap (λ l. is_done (line_after state was l)) at_line ∙ next_done state was c (λ main e. carried_by was c h.offer (h.carries.main) main e action_is its carried)

pub done_after : (state : State) → HasOffers state → AllDone state → (s : Step) (o : Outcome) (after : State) → Moves state s o after → AllDone after
done_after state I all s o after m k found at_k = done_by state I all s k found (comes state s o after m k found at_k)

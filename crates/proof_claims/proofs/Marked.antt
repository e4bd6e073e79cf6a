-- A running operation that is marked and completes its offer was marked by the step that swapped the root for it.
use Rattle.std.proofs.Common.{◌≡◌, ◌<◌, ◌≤◌, ◌||◌, inl, inr, ℕ, suc, Bool, true, false, Some, cond, refl, sym, ap, subst, ◌∙◌, arith}
use Rattle.std.proofs.lemmas.Bool.{true≢false}
use Rattle.std.proofs.lemmas.Option.{none-some, same_Some}
use Rattle.proof_claims.specs.Beneath.machine_model.specs.declared.actions.Action.{Action}
use Rattle.proof_claims.specs.Beneath.machine_model.specs.declared.actions.Action.TheVariants as act
use Rattle.proof_claims.specs.Beneath.machine_model.specs.declared.copying.CopyLine.TheVariants as copy
use Rattle.proof_claims.specs.Beneath.machine_model.specs.declared.lines.Line.TheVariants as line
use Rattle.proof_claims.specs.Beneath.machine_model.specs.declared.operations.Operation.{Operation}
use Rattle.proof_claims.specs.Beneath.machine_model.specs.declared.reading.After.{After}
use Rattle.proof_claims.specs.Beneath.machine_model.specs.declared.reading.After.TheVariants.{Goes, Gives}
use Rattle.proof_claims.specs.Beneath.machine_model.specs.declared.roots.Complete.{Complete}
use Rattle.proof_claims.specs.Beneath.machine_model.specs.declared.roots.Descriptor.{Descriptor}
use Rattle.proof_claims.specs.Beneath.machine_model.specs.declared.steps.Bounds.{Bounds}
use Rattle.proof_claims.specs.Beneath.machine_model.specs.declared.steps.Outcome.{Outcome}
use Rattle.proof_claims.specs.Beneath.machine_model.specs.declared.steps.Step.{Step}
use Rattle.proof_claims.specs.Beneath.machine_model.specs.Acting.{mark_after, operation_after}
use Rattle.proof_claims.specs.Beneath.machine_model.specs.Calls.{handle_of}
use Rattle.proof_claims.specs.Beneath.machine_model.specs.Copying.{copied_reply, copy_after_complete}
use Rattle.proof_claims.specs.Beneath.machine_model.specs.Lines.{new_try}
use Rattle.proof_claims.specs.Beneath.machine_model.specs.Moves.{Moves}
use Rattle.proof_claims.specs.Beneath.machine_model.specs.Operations.{action_of, line_after}
use Rattle.proof_claims.specs.Beneath.machine_model.specs.States.{State, word_at}
use Rattle.proof_claims.specs.Beneath.machine_model.specs.Swapping.{complete_after, is_carried_out}
use Rattle.proof_claims.specs.Beneath.machine_model.specs.Times.{IsRun}
use Rattle.proof_claims.specs.Beneath.machine_model.proofs.Actors.{mark_only, marks_in}
use Rattle.proof_claims.specs.Beneath.machine_model.proofs.Fates.{Comes, began, comes, gave, rested, went}
use Rattle.proof_claims.specs.Beneath.proof_generations.specs.Running.{Runs}
use Rattle.proof_claims.specs.Beneath.proof_generations.proofs.Handles.Operations.{has_handles_at}
use Rattle.proof_claims.specs.Beneath.proof_generations.proofs.Lines.Copy.{same_offer_after}
use Rattle.proof_claims.specs.Beneath.proof_generations.proofs.Offers.Marks.{is_completing, marked_in}
use Rattle.proof_claims.specs.Beneath.proof_generations.proofs.Offers.Standing.{completes_it, own_offer}
use Rattle.proof_claims.specs.Beneath.proof_order.specs.Facts.{Notes}
use Rattle.proof_claims.specs.Beneath.proof_order.specs.Openings.{IsSwap}
use Rattle.proof_claims.specs.Beneath.proof_order.proofs.History.Copies.{marked_or}
use Rattle.proof_claims.specs.Beneath.proof_order.proofs.Openings.AlongMoves.{along_moves}

-- what is completed after a step of a COMPLETE is the same offer
pub same_own : (state : State) (operation : Operation) (c : Complete) (d : Descriptor) → own_offer (line_after state operation (line.Copy (copy.Complete c))) ≡ Some d → c.offer ≡ d
same_own state operation c d e = by (complete_after state.heap operation.access (word_at state (handle_of operation.call)) c) refl e
  where
    ended : (b : Bool) → own_offer (cond b (line.End (copied_reply operation.call operation.opens)) new_try) ≡ Some d → ⊥
    ended true e = none-some d e
    ended false e = none-some d e

    by : (a : After Complete Bool) → complete_after state.heap operation.access (word_at state (handle_of operation.call)) c ≡ a → own_offer (copy_after_complete operation a) ≡ Some d → c.offer ≡ d
    by (Goes next) is e = sym (same_offer_after state operation c next is) ∙ same_Some _ _ e
    by (Gives done) is e = absurd (ended (done || operation.is_marked) e)

-- a mark that is there after an action was there before it
pub marked_before : (mark : Bool) (action : Action) → mark_after mark action ≡ true → mark ≡ true
marked_before mark (act.Offer offer) e = absurd (true≢false (sym e))
marked_before mark action e = e

module _ {limits : Bounds} {states : ℕ → State} {last : ℕ} (run : IsRun limits states last) where
  -- the root was swapped for this offer by an earlier step
  pub record WasSwapped (t : ℕ) (offer : Descriptor) : Type 0 where
    pub at : ℕ
    pub before : at < t
    pub handle : ℕ
    pub swap : IsSwap states run.records last at handle offer

  abbrev AllSwapped : ℕ → Type 0
  AllSwapped t =
      (k : ℕ) (operation : Operation) (offer : Descriptor) → Runs (states t) k operation → operation.is_marked ≡ true → own_offer operation.line ≡ Some offer → WasSwapped t offer

  module _ (t : ℕ) (lt : t < last) (so_far : AllSwapped t) (s : Step) (o : Outcome) (mv : Moves (states t) s o (states (suc t))) (notes : Notes states run.records t s) where
    later : (offer : Descriptor) → WasSwapped t offer → WasSwapped (suc t) offer
    later offer h = record { at = h.at; before = omega (arith, h.before); handle = h.handle; swap = h.swap }

    marks_now : (k : ℕ) (was : Operation) (offer : Descriptor) → Runs (states t) k was → marks_in (states t) s ≡ Some was.id → own_offer was.line ≡ Some offer → WasSwapped (suc t) offer
    marks_now k was offer at_k e own =
        let m = marked_in (states t) (has_handles_at run t (omega (arith, lt))).0 s k was at_k e in
        let same = same_Some _ _ (sym m.completes ∙ own) in
        record {
          at = t;
          before = omega arith;
          handle = handle_of m.mover.call;
          swap = record {
            taken = lt;
            step = s;
            outcome = o;
            moves = mv;
            notes = notes;
            carries = (
              m.actor,
              m.mover,
              m.carries.main,
              m.is_step,
              m.moves,
              m.carries.is_it ∙ ap (λ d. act.Complete d m.carries.main) same,
              refl,
              subst (λ d. is_carried_out (word_at (states t) (handle_of m.mover.call)) d m.carries.main ≡ true) same m.carries.carried,
            );
          };
        }

    by_comes : (k : ℕ) (found : Operation) (offer : Descriptor) → Comes (states t) s k found → found.is_marked ≡ true → own_offer found.line ≡ Some offer → WasSwapped (suc t) offer
    by_comes k found offer (began call number is d it) marked own = absurd (true≢false (sym marked ∙ ap (λ (x : Operation). x.is_marked) it))
    by_comes k found offer (gave was answer is at_k may it) marked own = absurd (none-some offer (sym (ap (λ (x : Operation). own_offer x.line) it) ∙ own))
    by_comes k found offer (rested was at_k it other) marked own =
        let own_was = sym (ap (λ (x : Operation). own_offer x.line) (it ∙ mark_only (marks_in (states t) s) was)) ∙ own in
        elim (marked_or (marks_in (states t) s) was (sym (ap (λ (x : Operation). x.is_marked) it) ∙ marked)) [
          | inl before ↦ later offer (so_far k was offer at_k before own_was)
          | inr now ↦ marks_now k was offer at_k now own_was
        ]
    by_comes k found offer (went was is at_k goes it) marked own =
        let own_then = sym (ap (λ (x : Operation). own_offer x.line) (it ∙ mark_only (marks_in (states t) s) (operation_after (states t) was))) ∙ own in
        elim (marked_or (marks_in (states t) s) (operation_after (states t) was) (sym (ap (λ (x : Operation). x.is_marked) it) ∙ marked)) [
          | inl before ↦
              let was_marked = marked_before was.is_marked (action_of (states t) was) before in
              let (c, on) = is_completing was.line ((has_handles_at run t (omega (arith, lt))).1.done k was at_k was_marked) (states t) was goes in
              let same = same_own (states t) was c offer (ap (λ l. own_offer (line_after (states t) was l)) (sym on) ∙ own_then) in
              later offer (so_far k was offer at_k was_marked (ap own_offer on ∙ ap Some same))
          | inr now ↦
              let m = marked_in (states t) (has_handles_at run t (omega (arith, lt))).0 s k was at_k now in
              let (c, on, its) = completes_it was.line m.offer m.completes in
              let same = same_own (states t) was c offer (ap (λ l. own_offer (line_after (states t) was l)) (sym on) ∙ own_then) in
              marks_now k was offer at_k now (ap own_offer on ∙ ap Some same)
        ]

  pub swapped_at : (t : ℕ) → t ≤ last → AllSwapped t
  swapped_at = along_moves run AllSwapped (λ none k operation offer runs. absurd (none k operation runs))
      (λ t lt so_far s o mv notes k found offer at_k marked own. by_comes t lt so_far s o mv notes k found offer (comes (states t) s o (states (suc t)) mv k found at_k) marked own)

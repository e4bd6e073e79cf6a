-- Behind COPY: an offer that was carried out has brought its operation a place.
use Rattle.std.proofs.Common.{◌≡◌, ℕ, suc, ◌<◌, Bool, true, false, cond, refl, sym, ap, subst, ◌∙◌, arith}
use Rattle.proof_updates.specs.Vocabulary.{Reply, Ref, CopyLine, WalkLine, Line, Operation, After, Gives, Complete, CompleteLine, ReadLine, new_try, Bounds, handle_of, State, word_at, read_after}
use Rattle.proof_updates.specs.Vocabulary.{complete_action_at, complete_after, after_complete, after_reading, of_offer, is_carried_out, copied_reply, copy_after, copy_after_complete, action_of}
use Rattle.proof_updates.specs.Vocabulary.{line_action, IsRun, is_placed}
use Rattle.proof_updates.specs.Beneath.machine_model.specs.declared.actions.Action.TheVariants as act
use Rattle.proof_updates.specs.Beneath.machine_model.specs.declared.copying.CopyLine.TheVariants as copy
use Rattle.proof_updates.specs.Beneath.machine_model.specs.declared.lines.Line.TheVariants as line
use Rattle.proof_updates.specs.Beneath.machine_model.specs.declared.reading.After.TheVariants.{Goes}
use Rattle.proof_updates.specs.Beneath.machine_model.specs.declared.roots.CompleteLine.TheVariants as complete
use Rattle.proof_updates.specs.Beneath.machine_model.specs.declared.steps.Step.TheVariants as step
use Rattle.proof_updates.specs.Beneath.proof_generations.proofs.Lines.Copy.{LineFits}
use Rattle.proof_order.proofs.Offers.Standing.{offers_at}
use Rattle.proof_updates.proofs.Placed.Behind.{has_place, Behind, plain_behind, copy_plain}
use Rattle.proof_updates.proofs.Tries.EachOperation.{OwnStep, own_notes}
use Rattle.proof_updates.proofs.Placed.Placing.{carried_placed, marked_placed, still}

module _ {limits : Bounds} {states : ℕ → State} {last : ℕ} (run : IsRun limits states last) (t k : ℕ) (lt : t < last) (operation : Operation) (own : OwnStep states run.records t k operation)
    (Right : Reply → Type 0) (Walks : WalkLine → Type 0) where
  abbrev state : State
  state = states t

  abbrev On : Line → Type 0
  On l = Behind states run.records (suc t) operation.id Right Walks l

  module _ (c : Complete) (e : operation.line ≡ line.Copy (copy.Complete c)) where
    its_offer : c.offer.operation ≡ operation.id
    its_offer =
        let mine = subst (λ l. LineFits operation.call operation.id operation.opens operation.attempt l) e ((offers_at run t (omega arith)).own.own k operation own.runs) in
        mine.its

    -- the step that gives so carries it out
    carries : (l : CompleteLine) → c.line ≡ l → of_offer c.offer (after_complete state.heap operation.access (word_at state (handle_of operation.call)) c.offer l) ≡ Gives true →
        is_placed (run.records (suc t)) operation.id ≡ true
    carries (complete.Reading x) at gives = absurd (by_out (read_after state.heap operation.access (word_at state (handle_of operation.call)) c.offer.root x) gives)
      where
        by_out : (out : After ReadLine Ref) → of_offer c.offer (after_reading out) ≡ Gives true → ⊥
        by_out (Goes y) bad = cc
        by_out (Gives m) bad = cc
    carries (complete.Swap main) at gives =
        let carried : is_carried_out (word_at state (handle_of operation.call)) c.offer main ≡ true = cc in
        let does : action_of state operation ≡ act.Complete c.offer main = ap (line_action state operation) e ∙ ap (complete_action_at c.offer) at in
        subst (λ n. is_placed (run.records (suc t)) n ≡ true) its_offer
        (subst (λ q. is_placed q c.offer.operation ≡ true) (sym own.noted) (carried_placed state (run.records t) (suc k) operation c.offer main does carried))

    complete_on : (out : After Complete Bool) → complete_after state.heap operation.access (word_at state (handle_of operation.call)) c ≡ out → On (copy_after_complete operation out)
    complete_on (Goes d) is = tt
    complete_on (Gives true) is = has_place (carries c.line refl is)
    complete_on (Gives false) is = by_mark operation.is_marked refl
      where
        by_mark : (b : Bool) → operation.is_marked ≡ b → On (cond b (line.End (copied_reply operation.call operation.opens)) new_try)
        by_mark true marked =
            has_place (still run t (step.Go (suc k)) own.outcome own.moves (own_notes states run.records t k operation own) operation.id
            (marked_placed run t (omega arith) k operation own.runs marked))
        by_mark false unmarked = tt

  pub copy_behind : (l : CopyLine) → operation.line ≡ line.Copy l → On (copy_after state operation l)
  copy_behind (copy.Complete c) e = complete_on c e (complete_after state.heap operation.access (word_at state (handle_of operation.call)) c) refl
  copy_behind (copy.Read root r) e = plain_behind states run.records (suc t) operation.id Right Walks _ (copy_plain state operation (copy.Read root r) refl)
  copy_behind (copy.Successor root main) e = plain_behind states run.records (suc t) operation.id Right Walks _ (copy_plain state operation (copy.Successor root main) refl)
  copy_behind (copy.Second root main successor) e = plain_behind states run.records (suc t) operation.id Right Walks _ (copy_plain state operation (copy.Second root main successor) refl)
  copy_behind (copy.Empty root main) e = plain_behind states run.records (suc t) operation.id Right Walks _ (copy_plain state operation (copy.Empty root main) refl)
  copy_behind (copy.Cleared root main branch) e = plain_behind states run.records (suc t) operation.id Right Walks _ (copy_plain state operation (copy.Cleared root main branch) refl)
  copy_behind (copy.Offer offer) e = plain_behind states run.records (suc t) operation.id Right Walks _ (copy_plain state operation (copy.Offer offer) refl)

-- Past its own commit an operation stays so, in its own steps and in those of others.
use Rattle.std.proofs.Common.{◌≡◌, ℕ, suc, ◌<◌, ◌≤◌, List, Option, Some, sym, ap, ◌∙◌, subst, arith}
use Rattle.std.proofs.lemmas.Option.{none-some, same_Some}
use Rattle.proof_order.specs.Beneath.slot_arena.specs.declared.nodes.Prev.TheVariants as prev
use Rattle.proof_order.specs.Vocabulary.{Ref, prev_at, Line, Operation, Swap, Bounds, Step, State, action_of, operation_after, GoesOn, prev_word, IsRun, given_up, gave_up, swap_given_up}
use Rattle.proof_order.specs.Vocabulary.{unless_effect, tells_effect, SwapLine, Climb, changed_reply, Call, Reply}
use Rattle.proof_order.specs.Beneath.machine_model.specs.declared.lines.Line.TheVariants as line
use Rattle.proof_order.specs.Beneath.machine_model.specs.declared.lines.Purpose.TheVariants as purpose
use Rattle.proof_order.specs.Beneath.machine_model.specs.declared.reading.SwapLine.TheVariants as swap
use Rattle.proof_order.specs.Beneath.machine_model.proofs.Actors.{mark_one, mark_only, marks_in, marks_by}
use Rattle.proof_generations.proofs.Handles.Running.{one_at}
use Rattle.proof_order.specs.Facts.{Runs}
use Rattle.proof_order.proofs.Offers.Known.{running_below}
use Rattle.proof_order.proofs.Offers.Standing.{offers_at}
use Rattle.proof_order.proofs.History.OneStep.{From, began, kept, stepped, gave}
use Rattle.proof_order.specs.Phases.{IsPast, IsPastAt, TellsEffect, IsPublished}
use Rattle.proof_order.proofs.Phases.PastLines.{past_after}
use Rattle.proof_order.proofs.Phases.Published.{stays_none, seen}
use Rattle.proof_order.specs.Beneath.machine_model.proofs.Alike.{alike}

-- what the SWAP of its own change needs
abbrev Keeps : (ℕ → State) → ℕ → Option ℕ → Line → Type 0
Keeps states t former l = (s : Swap) (path : List Ref) → l ≡ line.Swap (purpose.Update path former) s → prev_word states (suc t) s.fresh ≡ prev.None

past_rests : (states : ℕ → State) (t : ℕ) (call : _) (former : Option ℕ) (l : Line) → IsPastAt states t call former l → Keeps states t former l → IsPastAt states (suc t) call former l
past_rests states t call former (line.Swap (purpose.Update path was) s) h keeps = (h.0, h.1, keeps s path (ap (λ f. line.Swap (purpose.Update path f) s) h.0))
past_rests states t call former (line.Swap (purpose.Climb c) s) h keeps = h
past_rests states t call former (line.Swap why s) h keeps = absurd h
past_rests states t call former (line.Climb l) h keeps = h
past_rests states t call former (line.End answer) h keeps = h
past_rests states t call former line.Impossible h keeps = tt
past_rests states t call former l h keeps = absurd h

-- who is past it and gives up is in a climb, and answers that it made the change
published_kept : (call : Call) (path : List Ref) (former : Option ℕ) (answer : Reply) (l : SwapLine) → IsPublished l → swap_given_up call (purpose.Update path former) l ≡ Some answer → ⊥
published_kept call path former answer swap.Publish p e = p
published_kept call path former answer (swap.Deciding l) p e = none-some answer e
published_kept call path former answer swap.Check p e = none-some answer e

climb_given_up : (call : Call) (c : Climb) (answer : Reply) (l : SwapLine) → swap_given_up call (purpose.Climb c) l ≡ Some answer → answer ≡ changed_reply call c.former
climb_given_up call c answer swap.Publish e = sym (same_Some _ _ e)
climb_given_up call c answer (swap.Deciding l) e = absurd (none-some answer e)
climb_given_up call c answer swap.Check e = absurd (none-some answer e)

past_given_up : (states : ℕ → State) (t : ℕ) (call : Call) (former : Option ℕ) (answer : Reply) (l : Line) → IsPastAt states t call former l → TellsEffect call former →
    given_up call l ≡ Some answer → answer ≡ changed_reply call former
past_given_up states t call former answer (line.Swap (purpose.Update path was) s) h tells e = absurd (published_kept call path was answer s.line h.1 e)
past_given_up states t call former answer (line.Swap (purpose.Climb c) s) h tells e = climb_given_up call c answer s.line e ∙ ap (changed_reply call) h
past_given_up states t call former answer (line.Swap why s) h tells e = absurd h
past_given_up states t call former answer (line.Climb l) h tells e = sym (same_Some _ _ e) ∙ ap (changed_reply call) h
past_given_up states t call former answer (line.End told) h tells e = absurd (none-some answer (ap unless_effect (sym (ap (tells_effect call) h ∙ tells)) ∙ e))
past_given_up states t call former answer line.Impossible h tells e = absurd (none-some answer e)
past_given_up states t call former answer l h tells e = absurd h

-- with a mark
pub past_marked : (states : ℕ → State) (t : ℕ) (m : Option ℕ) (operation : Operation) (former : Option ℕ) → IsPast states t operation former → IsPast states t (mark_one m operation) former
past_marked states t m operation former h = subst (λ x. IsPast states t x former) (sym (mark_only m operation)) h

module _ {limits : Bounds} {states : ℕ → State} {last : ℕ} (r : IsRun limits states last) (t : ℕ) (lt : t < last) where
  within : t ≤ last
  within = omega (arith, lt)

  module _ (k : ℕ) (operation : Operation) (former : Option ℕ) (runs : Runs (states t) k operation) (h : IsPast states t operation former) where
    stays : (s : Swap) (path : List Ref) → operation.line ≡ line.Swap (purpose.Update path former) s → prev_word states (suc t) s.fresh ≡ prev.None
    stays s path at =
        let now = subst (IsPastAt states t operation.call former) at h.0 in
        stays_none r t k within operation runs (purpose.Update path former) s at lt now.1 now.2

    sees : (s : Swap) (path : List Ref) → operation.line ≡ line.Swap (purpose.Update path former) s → s.line ≡ swap.Check → prev_at (states t).heap s.fresh ≡ prev.None
    sees s path at is =
        let now = subst (IsPastAt states t operation.call former) at h.0 in
        seen r t k within operation runs (purpose.Update path former) s at lt is ∙ now.2

    pub past_rested : (m : Option ℕ) → IsPast states (suc t) (mark_one m operation) former
    past_rested m = past_marked states (suc t) m operation former (past_rests states t operation.call former operation.line h.0 stays, h.1)

    pub past_went : (m : Option ℕ) → GoesOn (action_of (states t) operation) → IsPast states (suc t) (mark_one m (operation_after (states t) operation)) former
    past_went m goes =
        past_marked states (suc t) m (operation_after (states t) operation) former
        (past_after states t operation former operation.line h.0 goes (λ s path at. (stays s path at, λ is. sees s path at is)), h.1)

    pub past_gave : (answer : Reply) → given_up operation.call operation.line ≡ Some answer → IsPast states (suc t) (gave_up operation answer) former
    past_gave answer may = (past_given_up states t operation.call former answer operation.line h.0 h.1 may, h.1)

  -- what an actor runs next
  pub past_by : (s : Step) (k : ℕ) (operation found : Operation) (former : Option ℕ) → Runs (states t) k operation → IsPast states t operation former → found.id ≡ operation.id →
      From (states t) s k found → IsPast states (suc t) found former
  past_by s k operation found former runs h same (began new) =
      let low = running_below (states t) (offers_at r t within).books k operation runs in
      let count = (alike r t within).begun_are in
      let its : found.id ≡ (states t).begun = ap (λ (x : Operation). x.id) new.is_it in
      absurd (omega arith)
  past_by s k operation found former runs h same (kept was at_k it other) =
      subst (λ x. IsPast states (suc t) x former) (sym (it ∙ ap (mark_one (marks_in (states t) s)) (one_at (states t) k was operation at_k runs)))
      (past_rested k operation former runs h (marks_in (states t) s))
  past_by s k operation found former runs h same (stepped was at_k go goes it) =
      let one = one_at (states t) k was operation at_k runs in
      subst (λ x. IsPast states (suc t) x former) (sym (it ∙ ap (λ (x : Operation). mark_one (marks_by (states t) (Some x)) (operation_after (states t) x)) one))
      (past_went k operation former runs h (marks_by (states t) (Some operation)) (subst (λ x. GoesOn (action_of (states t) x)) one goes))
  past_by s k operation found former runs h same (gave was answer at_k go may it) =
      let one = one_at (states t) k was operation at_k runs in
      subst (λ x. IsPast states (suc t) x former) (sym (it ∙ ap (λ x. gave_up x answer) one))
      (past_gave k operation former runs h answer (subst (λ (x : Operation). given_up x.call x.line ≡ Some answer) one may))

-- What the READs of a running operation left lies behind some step, before now, and closes nothing: kept by each step.
use Rattle.std.proofs.Common.{◌≡◌, ℕ, suc, ◌<◌, true, ◌⊎◌, inl, inr, Option, Some, sym, ◌∙◌, subst, arith, ap, refl}
use Rattle.proof_order.specs.Vocabulary.{Operation, Outcome, Step, State, operation_of, action_of, operation_after, Moves, GoesOn, committed_now, progress_of, told_in, commit_step, moment_after}
use Rattle.proof_order.specs.Vocabulary.{Record, moment_at, noted, Bounds, IsRun, Moment}
use Rattle.proof_order.specs.Beneath.machine_model.specs.declared.steps.Step.TheVariants as step
use Rattle.proof_order.specs.Beneath.machine_model.proofs.Actors.{mark_one, mark_only}
use Rattle.proof_generations.proofs.Offers.Same.{has_offers_at}
use Rattle.proof_order.specs.Times.{ClosesNone, IsWithin, ReadsWithin, counts, has_read}
use Rattle.proof_order.proofs.Phases.LineTimes.{CountsNow, GivesNow, MomentNow, counts_after, counted_now, counted_or, read_after_step, moment_so, moment_now}
use Rattle.proof_order.proofs.Phases.Quiet.{counts_complete, commits_complete, closes_none, commit_quiet, max_within, NoComplete, quiet_commits}
use Rattle.proof_order.specs.Facts.{Notes}
use Rattle.proof_order.specs.Beneath.machine_model.proofs.Times.{steps_at}
use Rattle.proof_order.specs.Beneath.machine_model.proofs.Notes.{noted_going}
use Rattle.proof_order.specs.Beneath.machine_model.proofs.Alike.{moment_goes, alike, go_actor, not_denied}

within_later : (records : ℕ → Record) (at t n : ℕ) → IsWithin records at t n → IsWithin records at (suc t) n
within_later records at t n w = record { behind = w.behind; past = omega (arith, w.past); closes_none = w.closes_none }

-- while the operation rests
pub reads_later : (records : ℕ → Record) (at t k : ℕ) (operation : Operation) → moment_at (records (suc t)) (suc k) ≡ moment_at (records t) (suc k) →
    ReadsWithin records at t k operation → ReadsWithin records at (suc t) k operation
reads_later records at t k operation same h = record {
  read_at = λ e. subst (λ (m : Moment). IsWithin records at (suc t) m.read_at) (sym same) (within_later records at t (moment_at (records t) (suc k)).read_at (h.read_at e));
  moment = λ e. subst (λ (m : Moment). IsWithin records at (suc t) m.moment) (sym same) (within_later records at t (moment_at (records t) (suc k)).moment (h.moment e));
}

-- with a mark
pub reads_marked : (records : ℕ → Record) (at t k : ℕ) (m : Option ℕ) (operation : Operation) → ReadsWithin records at t k operation → ReadsWithin records at t k (mark_one m operation)
reads_marked records at t k m operation h = subst (ReadsWithin records at t k) (sym (mark_only m operation)) (record { read_at = h.read_at; moment = h.moment })

-- in its own step
module _ {limits : Bounds} {states : ℕ → State} {last : ℕ} (r : IsRun limits states last) (at t : ℕ) (early : at < t) (lt : t < last) (s : Step) (o : Outcome)
    (m : Moves (states t) s o (states (suc t))) (notes : Notes states r.records t s) (k : ℕ) (operation : Operation) (go : s ≡ step.Go (suc k))
    (is : operation_of (states t) (suc k) ≡ Some operation) (goes : GoesOn (action_of (states t) operation)) (h : ReadsWithin r.records at t k operation) where
  count : (states t).steps ≡ t
  count = steps_at r t (omega (arith, lt))

  -- what was known of its READs, and what is
  abbrev was : Moment
  was = moment_at (r.records t) (suc k)

  abbrev found : Moment
  found = moment_after (r.records t) (states t).steps (progress_of (states t) operation) was

  found_is : moment_at (r.records (suc t)) (suc k) ≡ found
  found_is =
      let moved = subst (λ x. Moves (states t) x o (states (suc t))) go m in
      ap (λ q. moment_at q (suc k))
      (notes ∙ ap (λ x. noted (r.records t) (states t).steps (told_in (states t) x)) go ∙ noted_going (states t) (r.records t) (suc k) operation (action_of (states t) operation) is refl goes)
      ∙ moment_goes (states t) (r.records t) (suc k) operation (alike r t (omega (arith, lt))) (go_actor (states t) (suc k) (not_denied moved))

  closes : NoComplete (action_of (states t) operation) → ClosesNone r.records t
  closes = closes_none (states t) (has_offers_at r t (omega (arith, lt))) (r.records t) (r.records (suc t)) s o (states (suc t)) m notes (suc k) operation go is

  here : ClosesNone r.records t → IsWithin r.records at (suc t) t
  here none = record { behind = early; past = omega arith; closes_none = none }

  counts_here : CountsNow (action_of (states t) operation) → IsWithin r.records at (suc t) found.read_at
  counts_here now =
      subst (IsWithin r.records at (suc t)) (sym count ∙ sym (counted_now (action_of (states t) operation) (states t).steps was.read_at now))
      (here (closes (counts_complete (action_of (states t) operation) now)))

  counted : (counts operation.line ≡ true) ⊎ CountsNow (action_of (states t) operation) → IsWithin r.records at (suc t) found.read_at
  counted (inr now) = counts_here now
  counted (inl before) = elim (counted_or (action_of (states t) operation) (states t).steps was.read_at) [
    | inl same ↦ subst (IsWithin r.records at (suc t)) (sym same) (within_later r.records at t was.read_at (h.read_at before))
    | inr now ↦ counts_here now.0
  ]

  given : counts operation.line ≡ true → MomentNow (r.records t) (states t).steps (progress_of (states t) operation) was → IsWithin r.records at (suc t) found.moment
  given before (main, e) =
      subst (IsWithin r.records at (suc t)) (sym e)
      (max_within r.records at t found.read_at (commit_step (r.records t) (states t).steps main (committed_now (states t) operation)) (counted (inl before))
      (commit_quiet r.records t (states t).steps main (committed_now (states t) operation) count (quiet_commits r t (omega (arith, lt)))
      (λ x now. closes (commits_complete (states t) operation x now))))

  moments : counts operation.line ≡ true → (has_read operation.line ≡ true) ⊎ GivesNow (states t) operation operation.line → IsWithin r.records at (suc t) found.moment
  moments before (inr gives) = given before (moment_now (states t) (r.records t) operation was gives)
  moments before (inl had) = elim (moment_so (r.records t) (states t).steps (progress_of (states t) operation) was) [
    | inl same ↦ subst (IsWithin r.records at (suc t)) (sym same) (within_later r.records at t was.moment (h.moment had))
    | inr now ↦ given before now
  ]

  pub reads_stepped : ReadsWithin r.records at (suc t) k (operation_after (states t) operation)
  reads_stepped = record {
    read_at = λ e. subst (λ (x : Moment). IsWithin r.records at (suc t) x.read_at) (sym found_is) (counted (counts_after (states t) operation operation.line e));
    moment = λ e.
        let p = read_after_step (states t) operation operation.line e in
        subst (λ (x : Moment). IsWithin r.records at (suc t) x.moment) (sym found_is) (moments p.0 p.1);
  }

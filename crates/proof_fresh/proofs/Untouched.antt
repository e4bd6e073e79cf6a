-- What is private to an operation stays as it is in the steps of others.
use Rattle.std.proofs.Common.{◌≡◌, ℕ, suc, ◌<◌, ◌==◌, Bool, true, false, Contains, Option, Some, None, is_some, sym, ap, ◌∙◌, subst, arith}
use Rattle.std.proofs.lemmas.Bool.{true≢false}
use Rattle.proof_fresh.specs.Vocabulary.{Ref, Node, Indirection, Action, Operation, Bounds, State, Verdict, Commits, Fails, Overtaken, main_at}
use Rattle.proof_fresh.specs.Vocabulary.{next_ref, verdict, action_of, operation_of, grown, IsRun}
use Rattle.proof_fresh.specs.Beneath.machine_model.specs.declared.actions.Action.TheVariants as act
use Rattle.proof_fresh.specs.Beneath.machine_model.specs.declared.steps.Step.TheVariants as step
use Rattle.proof_fresh.specs.Beneath.machine_model.proofs.Fates.{place_of_actor}
use Rattle.proof_fresh.specs.Beneath.machine_model.proofs.Grown.{grown_in_use}
use Rattle.proof_fresh.specs.Beneath.proof_memory.specs.Laws.{IsInUse}
use Rattle.proof_fresh.specs.Beneath.proof_memory.specs.Wants.{action_wants}
use Rattle.proof_fresh.specs.Beneath.proof_memory.proofs.Safety.AtEachTime.{safe_at}
use Rattle.proof_fresh.specs.Beneath.proof_memory.proofs.Safety.Standing.{in_private_list}
use Rattle.proof_fresh.specs.Beneath.proof_commits.proofs.Known.Acts.{known_run}
use Rattle.proof_fresh.specs.Beneath.proof_commits.proofs.Known.Given.{ActsOn, Either, Taken, GrownStays, GrownChanges, GrownSwaps, Decided}
use Rattle.proof_fresh.specs.Beneath.proof_commits.proofs.Known.StepsAt.{NotedAt, NotesBegin, NotesGo, NotesEnd, NotesSweep, NotesGivingUp}
use Rattle.proof_fresh.specs.Beneath.proof_generations.proofs.Handles.Operations.{has_handles_at}
use Rattle.proof_shape.proofs.Runs.RunOf.{run_of}
use Rattle.proof_shape.proofs.Runs.Takers.{taker, taker_of, step_taken}
use Rattle.proof_garbage.specs.Live.{refs_of_claims}
use Rattle.proof_garbage.proofs.Known.{named_known}
use Rattle.proof_garbage.proofs.Private.{Others, AllPrivate, private_along}

-- ---- an action changes what it names

module _ (states : ℕ → State) (t : ℕ) (y : Ref) where
  abbrev Same : Type 0
  Same = grown states (suc t) y ≡ grown states t y

  pub either_same : (b : Bool) (A B : Type 0) → (A → Same) → (B → Same) → Either b A B → Same
  either_same true A B f g x = f x
  either_same false A B f g x = g x

  pub decided_same : (m p : Ref) (v : Verdict) → (y ≡ m → ⊥) → Decided states t m p v → Same
  decided_same m p Commits apart d = d.elsewhere y apart
  decided_same m p Fails apart d = d.elsewhere y apart
  decided_same m p (Overtaken licensed) apart d = d y

  taken_same : (node : Node) (o : Option Ref) → is_some (grown states t y) ≡ true → Taken states t node o → Same
  taken_same node None made x = x y
  taken_same node (Some n) made x = x.elsewhere y (λ same. true≢false (sym made ∙ ap (λ r. is_some (grown states t r)) same ∙ ap is_some x.new))

  pub untouched : (a : Action) → ActsOn states t a → is_some (grown states t y) ≡ true → (Contains (refs_of_claims (action_wants a)) y → ⊥) → Same
  untouched (act.ReadMain i) x made not = x.1 y
  untouched (act.ReadPrev m) x made not = x.1 y
  untouched (act.Publish i a f) x made not =
      either_same (main_at (states t).heap i == a) (GrownSwaps states t i a f) (GrownStays states t)
      (λ s. s.elsewhere y (λ e. not (0, omega arith, sym e)) (λ e. not (2, omega arith, sym e))) (λ s. s y) x.2
  untouched (act.Restore i m p) x made not =
      either_same (main_at (states t).heap i == m) (GrownChanges states t _ i) (GrownStays states t) (λ s. s.elsewhere y (λ e. not (0, omega arith, sym e))) (λ s. s y) x.1
  untouched (act.Decide i m p told) x made not = decided_same m p (verdict (states t).heap i m p told) (λ e. not (1, omega arith, sym e)) x.3
  untouched (act.Make node) x made not = taken_same node (next_ref (states t).heap) made x
  untouched (act.MakeRoot main) x made not = taken_same (Indirection (states t).generations main) (next_ref (states t).heap) made x
  untouched act.ReadRoot x made not = x y
  untouched (act.Abort offer) x made not = x y
  untouched (act.Offer offer) x made not = x y
  untouched (act.Complete offer main) x made not = x y
  untouched (act.Look at) x made not = x y
  untouched (act.End answer) x made not = x y

module _ {limits : Bounds} {states : ℕ → State} {last : ℕ} (run : IsRun limits states last) where
  -- nobody else comes to what is private
  private_at : (t : ℕ) → t < last → AllPrivate (states t)
  private_at t h = let (steps, is) = run_of run t (omega arith) in subst AllPrivate (sym is) (private_along limits run.limits_ok steps)

  module _ (t : ℕ) (h : t < last) (k : ℕ) (operation : Operation) (is : operation_of (states t) k ≡ Some operation) where
    -- what is private is in use
    pub private_used : (y : Ref) → Contains operation.private y → IsInUse (states t).heap y
    private_used y c = in_private_list (states t) (safe_at run t (omega arith)) k operation y is c

    pub private_made : (y : Ref) → Contains operation.private y → is_some (grown states t y) ≡ true
    private_made y c = let (slot, stands) = private_used y c in ap is_some (grown_in_use states t y slot stands)

    -- another's next action doesn't name it
    others_name_not : (actor : ℕ) (other : Operation) → operation_of (states t) actor ≡ Some other → (actor ≡ k → ⊥) → (y : Ref) → Contains operation.private y →
        Contains (refs_of_claims (action_wants (action_of (states t) other))) y → ⊥
    others_name_not actor other runs apart y c named =
        let (place, own, found) = place_of_actor (states t) k operation is in
        let (j, its, at_j) = place_of_actor (states t) actor other runs in
        private_at t h place operation found y c
        (named_known (states t) (safe_at run t (omega arith)) (Others operation.id) actor other runs
        (λ same. apart (its ∙ ap suc ((has_handles_at run t (omega arith)).0.ids.distinct j place other operation at_j found same) ∙ sym own)) y named)

    pub others_leave : (taker run t ≡ k → ⊥) → (y : Ref) → Contains operation.private y → grown states (suc t) y ≡ grown states t y
    others_leave apart y c = let x = step_taken run t h in by_step x.0 x.1
      where
        by_step : (x : NotedAt (states t) (run.records t) (states (suc t)) (run.records (suc t))) → taker run t ≡ taker_of x → grown states (suc t) y ≡ grown states t y
        by_step (NotesGo actor other o m d runs g e n) takes =
            untouched states t y (action_of (states t) other) ((known_run run).acts t h actor o m other runs) (private_made y c)
            (others_name_not actor other runs (λ same. apart (takes ∙ same)) y c)
        by_step (NotesEnd actor other answer o m runs a e n) takes = (subst (λ x. ActsOn states t x) a ((known_run run).acts t h actor o m other runs)) y
        by_step (NotesBegin actor call number o m d e n) takes = (known_run run).stays t h (step.Begin actor call number) o m tt y
        by_step (NotesGivingUp actor other answer o m runs a e n) takes = (known_run run).stays t h (step.GiveUp actor) o m tt y
        by_step (NotesSweep o m e n) takes = (known_run run).stays t h step.Sweep o m tt y

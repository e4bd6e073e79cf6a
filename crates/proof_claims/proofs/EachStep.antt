-- Each step that is taken keeps every reference held in its place, where what is asked of two of its kinds is so.
use Rattle.std.proofs.Common.{◌≡◌, ℕ, true, List, [], ◌∷◌, ◌++◌, Option, Some, Ok, refl, ◌==◌}
use Rattle.proof_claims.specs.Beneath.slot_arena.specs.declared.nodes.Prev.TheVariants as prev
use Rattle.proof_claims.specs.Beneath.slot_arena.specs.declared.refs.Ref.{Ref}
use Rattle.proof_claims.specs.Beneath.slot_arena.specs.Heaps.{main_at, next_ref, prev_at}
use Rattle.proof_claims.specs.Beneath.machine_model.specs.declared.actions.Action.{Action}
use Rattle.proof_claims.specs.Beneath.machine_model.specs.declared.actions.Action.TheVariants as act
use Rattle.proof_claims.specs.Beneath.machine_model.specs.declared.operations.Operation.{Operation}
use Rattle.proof_claims.specs.Beneath.machine_model.specs.declared.roots.Descriptor.{Descriptor}
use Rattle.proof_claims.specs.Beneath.machine_model.specs.declared.steps.Bounds.{Bounds}
use Rattle.proof_claims.specs.Beneath.machine_model.specs.declared.steps.Outcome.{Outcome}
use Rattle.proof_claims.specs.Beneath.machine_model.specs.declared.steps.Step.{Step}
use Rattle.proof_claims.specs.Beneath.machine_model.specs.declared.steps.Step.TheVariants as step
use Rattle.proof_claims.specs.Beneath.machine_model.specs.Acting.{gone}
use Rattle.proof_claims.specs.Beneath.machine_model.specs.Counting.{settled}
use Rattle.proof_claims.specs.Beneath.machine_model.specs.Machine.{AreBounds, next, run}
use Rattle.proof_claims.specs.Beneath.machine_model.specs.Moves.{Begins, Ends, Goes, GivesUp, GoesOn, Moves, Sweeps}
use Rattle.proof_claims.specs.Beneath.machine_model.specs.Operations.{action_of}
use Rattle.proof_claims.specs.Beneath.machine_model.specs.States.{State, operation_of}
use Rattle.proof_claims.specs.Held.{is_owned}
use Rattle.proof_claims.specs.Claims.{held_of}
use Rattle.proof_claims.specs.Dropped.{WasDropped}
use Rattle.proof_claims.proofs.Acts.{publishes_by, quiet, reads_prev, restores_by}
use Rattle.proof_claims.proofs.Decides.{decides_kept}
use Rattle.proof_claims.proofs.Makes.{makes_by, makes_root_by}
use Rattle.proof_claims.proofs.Offering.{aborts, offers_kept}
use Rattle.proof_claims.proofs.Others.{begins, ends, give_up_keeps, sweep_keeps}
use Rattle.proof_claims.proofs.Spine.{Each, EachAfter}

-- what a commit asks: an indirection's own main node that is to be replaced wasn't dropped before
abbrev pub OwnStands : Bounds → Type 0
OwnStands limits =
    (xs : List Step) (actor : ℕ) (operation : Operation) (i f p : Ref) (told : Option ℕ) → operation_of (run limits xs) actor ≡ Some operation →
    action_of (run limits xs) operation ≡ act.Decide i f p told → prev_at (run limits xs).heap f ≡ prev.Pending p → is_owned (held_of limits xs) i p ≡ true → ¬ WasDropped limits xs p

-- a step that is to carry an offer out keeps it
abbrev pub CompletesKeep : Bounds → Type 0
CompletesKeep limits =
    (xs : List Step) (actor : ℕ) (operation : Operation) (o : Outcome) (offer : Descriptor) (main : Ref) → Each limits xs → operation_of (run limits xs) actor ≡ Some operation →
    Moves (run limits xs) (step.Go actor) o (settled (run limits xs) (gone (run limits xs) actor operation)) →
    run limits (xs ++ step.Go actor ∷ []) ≡ settled (run limits xs) (gone (run limits xs) actor operation) → action_of (run limits xs) operation ≡ act.Complete offer main →
    EachAfter limits xs (step.Go actor) (settled (run limits xs) (gone (run limits xs) actor operation))

module _ (limits : Bounds) (ok : AreBounds limits) (standing : OwnStands limits) (completes : CompletesKeep limits) where
  by_action : (xs : List Step) (h : Each limits xs) (actor : ℕ) (operation : Operation) (runs : operation_of (run limits xs) actor ≡ Some operation) (o : Outcome) →
      Moves (run limits xs) (step.Go actor) o (settled (run limits xs) (gone (run limits xs) actor operation)) →
      next (run limits xs) (step.Go actor) ≡ Ok (o, settled (run limits xs) (gone (run limits xs) actor operation)) →
      run limits (xs ++ step.Go actor ∷ []) ≡ settled (run limits xs) (gone (run limits xs) actor operation) → (action : Action) → action_of (run limits xs) operation ≡ action → GoesOn action →
      EachAfter limits xs (step.Go actor) (settled (run limits xs) (gone (run limits xs) actor operation))
  by_action xs h actor operation runs o m taken is act.ReadRoot acts g =
      quiet limits ok xs h actor operation runs o m is act.ReadRoot acts (λ i p f e. let bad : ⊥ = cc e in bad) refl refl refl
  by_action xs h actor operation runs o m taken is (act.Abort offer) acts g = aborts limits ok xs h actor operation runs o m is offer acts
  by_action xs h actor operation runs o m taken is (act.Offer offer) acts g = offers_kept limits ok xs h actor operation runs o m is offer acts
  by_action xs h actor operation runs o m taken is (act.Complete offer main) acts g = completes xs actor operation o offer main h runs m is acts
  by_action xs h actor operation runs o m taken is (act.ReadMain i) acts g =
      quiet limits ok xs h actor operation runs o m is (act.ReadMain i) acts (λ j p f e. let bad : ⊥ = cc e in bad) refl refl refl
  by_action xs h actor operation runs o m taken is (act.Publish i a f) acts g = publishes_by limits ok xs h actor operation runs o m is i a f acts (main_at (run limits xs).heap i == a) refl
  by_action xs h actor operation runs o m taken is (act.Restore i q p) acts g = restores_by limits ok xs h actor operation runs o m is i q p acts (main_at (run limits xs).heap i == q) refl
  by_action xs h actor operation runs o m taken is (act.ReadPrev main) acts g = reads_prev limits ok xs h actor operation runs o m is main acts
  by_action xs h actor operation runs o m taken is (act.Decide i f p told) acts g =
      decides_kept limits ok xs h actor operation runs o m taken is i f p told acts (standing xs actor operation i f p told runs acts)
  by_action xs h actor operation runs o m taken is (act.Look at) acts g =
      quiet limits ok xs h actor operation runs o m is (act.Look at) acts (λ j p f e. let bad : ⊥ = cc e in bad) refl refl refl
  by_action xs h actor operation runs o m taken is (act.Make node) acts g = makes_by limits ok xs h actor operation runs o m taken is node acts (next_ref (run limits xs).heap) refl
  by_action xs h actor operation runs o m taken is (act.MakeRoot main) acts g = makes_root_by limits ok xs h actor operation runs o m taken is main acts (next_ref (run limits xs).heap) refl
  by_action xs h actor operation runs o m taken is (act.End answer) acts g = absurd g

  pub each_step : (xs : List Step) (s : Step) (o : Outcome) (after : State) → Moves (run limits xs) s o after → next (run limits xs) s ≡ Ok (o, after) → run limits (xs ++ s ∷ []) ≡ after →
      Each limits xs → EachAfter limits xs s after
  each_step xs s o after (Begins {actor} {call} {number} d) taken is h = begins limits ok xs h actor call number d o (Begins d)
  each_step xs s o after (Goes {actor} {operation} {action} d runs acts g) taken is h = by_action xs h actor operation runs o (Goes d runs acts g) taken is action acts g
  each_step xs s o after (Ends {actor} {operation} {answer} d runs acts) taken is h = ends limits ok xs h actor operation answer runs acts o (Ends d runs acts)
  each_step xs s o after (Sweeps spent) taken is h = sweep_keeps limits ok xs h o (Sweeps spent) is
  each_step xs s o after (GivesUp {actor} {operation} {answer} d runs may) taken is h = give_up_keeps limits ok xs h actor operation answer runs o (GivesUp d runs may) is

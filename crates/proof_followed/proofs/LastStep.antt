-- A step that is taken after a list of steps is the last one of the run of all.
use Rattle.std.proofs.Common.{◌≡◌, ℕ, suc, true, cond, List, [], ◌∷◌, ◌++◌, length, slice_get, Some, Ok, refl, sym, ap, ◌∙◌, subst, arith}
use Rattle.std.proofs.lemmas.List.{length-append}
use Rattle.proof_followed.specs.Beneath.history.proofs.Places.{at_push}
use Rattle.proof_followed.specs.Beneath.slot_arena.specs.declared.refs.Ref.{Ref}
use Rattle.proof_followed.specs.Beneath.slot_arena.specs.Heaps.{logical_main}
use Rattle.proof_followed.specs.Beneath.machine_model.specs.declared.actions.Action.TheVariants as act
use Rattle.proof_followed.specs.Beneath.machine_model.specs.declared.operations.Operation.{Operation}
use Rattle.proof_followed.specs.Beneath.machine_model.specs.declared.roots.Descriptor.{Descriptor}
use Rattle.proof_followed.specs.Beneath.machine_model.specs.declared.steps.Bounds.{Bounds}
use Rattle.proof_followed.specs.Beneath.machine_model.specs.declared.steps.Outcome.{Outcome}
use Rattle.proof_followed.specs.Beneath.machine_model.specs.declared.steps.Step.{Step}
use Rattle.proof_followed.specs.Beneath.machine_model.specs.declared.steps.Step.TheVariants as step
use Rattle.proof_followed.specs.Beneath.machine_model.specs.Calls.{handle_of}
use Rattle.proof_followed.specs.Beneath.machine_model.specs.Machine.{AreBounds, is_taken_step, next, run, state_after, taken_from, taken_steps}
use Rattle.proof_followed.specs.Beneath.machine_model.specs.Moves.{Moves}
use Rattle.proof_followed.specs.Beneath.machine_model.specs.Operations.{action_of}
use Rattle.proof_followed.specs.Beneath.machine_model.specs.States.{State, first_state, operation_of, word_at}
use Rattle.proof_followed.specs.Beneath.machine_model.specs.Swapping.{is_carried_out}
use Rattle.proof_followed.specs.Beneath.machine_model.specs.Times.{last_of, records_of, states_from, states_of}
use Rattle.proof_followed.specs.Beneath.machine_model.proofs.Along.{run_push}
use Rattle.proof_followed.specs.Beneath.machine_model.proofs.Moves.{moved}
use Rattle.proof_followed.specs.Beneath.machine_model.proofs.Numbered.{step_noted}
use Rattle.proof_followed.specs.Beneath.machine_model.proofs.Times.{run_is, run_ends}
use Rattle.proof_shape.proofs.Sites.Fixed.{states_from-append, taken-append}
use Rattle.proof_order.specs.Openings.{IsSwap}
use Rattle.proof_order.proofs.Openings.RootsFollow.{roots_swapped_as_expected}

module _ (limits : Bounds) (ok : AreBounds limits) (steps : List Step) (s : Step) (o : Outcome) (after : State) (taken : next (run limits steps) s ≡ Ok (o, after)) where
  abbrev all : List Step
  all = steps ++ s ∷ []

  abbrev t : ℕ
  t = last_of limits steps

  -- the step is one more of those that are taken
  one_more : taken_steps limits all ≡ taken_steps limits steps ++ s ∷ []
  unfolding taken_from
  one_more = taken-append (first_state limits) steps (s ∷ []) ∙ ap (λ l. taken_steps limits steps ++ l) (ap (λ a. cond (is_taken_step a) (s ∷ []) []) taken)

  pub last_is : last_of limits all ≡ suc t
  last_is = let e = ap length one_more ∙ length-append (taken_steps limits steps) (s ∷ []) in omega (arith, e)

  pub before_is : states_of limits all t ≡ run limits steps
  before_is =
      ap (λ l. states_from (first_state limits) l t) one_more ∙ states_from-append (first_state limits) (taken_steps limits steps) (s ∷ []) t (omega arith) ∙ run_ends limits steps

  pub after_is : states_of limits all (suc t) ≡ after
  after_is = ap (states_of limits all) (sym last_is) ∙ run_ends limits all ∙ run_push (first_state limits) steps s ∙ ap (state_after (run limits steps)) taken

  its_step : slice_get (taken_steps limits all) t ≡ Some s
  its_step = ap (λ l. slice_get l t) one_more ∙ at_push (taken_steps limits steps) s t refl

  -- where it carries an offer out, the old root's main node is the expected one
  module _ (actor : ℕ) (mover : Operation) (offer : Descriptor) (main : Ref) (go : s ≡ step.Go actor) (is : operation_of (run limits steps) actor ≡ Some mover)
      (completes : action_of (run limits steps) mover ≡ act.Complete offer main) (carried : is_carried_out (word_at (run limits steps) (handle_of mover.call)) offer main ≡ true) where
    swap : IsSwap (states_of limits all) (records_of limits all) (last_of limits all) t (handle_of mover.call) offer
    swap = record {
      taken = omega (arith, last_is);
      step = s;
      outcome = o;
      moves = subst (λ a. Moves (states_of limits all t) s o a) (sym after_is) (subst (λ b. Moves b s o after) (sym before_is) (moved (run limits steps) s o after taken));
      notes = step_noted limits all t s its_step;
      carries = (
        actor,
        mover,
        main,
        go,
        ap (λ (q : State). operation_of q actor) before_is ∙ is,
        ap (λ q. action_of q mover) before_is ∙ completes,
        refl,
        ap (λ q. is_carried_out (word_at q (handle_of mover.call)) offer main) before_is ∙ carried,
      );
    }

    pub expected_then : logical_main (run limits steps).heap offer.root ≡ offer.expected
    expected_then =
        let (root, is_open, was, expected) = roots_swapped_as_expected (run_is limits all ok) t (handle_of mover.call) offer swap in
        ap (λ (q : State). logical_main q.heap offer.root) (sym before_is) ∙ expected

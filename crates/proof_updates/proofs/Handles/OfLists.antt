-- The laws, for each step that is taken after a list of steps.
use Rattle.std.proofs.Common.{refl, ◌≡◌, ℕ, suc, cond, List, ◌∷◌, ◌++◌, length, Ok, sym, ap, subst, ◌∙◌, arith, [], ◌<◌, slice_get, Some}
use Rattle.std.proofs.lemmas.List.{length-append}
use Rattle.proof_updates.specs.Vocabulary.{Bounds, Outcome, Step, KeysFit, AreBounds, next, state_after, run, taken_from, taken_steps, is_taken_step, State, first_state, Moves, IsRun, states_from}
use Rattle.proof_updates.specs.Vocabulary.{states_of, last_of, TakesSteps, StepsFit}
use Rattle.proof_updates.specs.Beneath.machine_model.proofs.Along.{run_push}
use Rattle.proof_updates.specs.Beneath.machine_model.proofs.Moves.{moved}
use Rattle.proof_updates.specs.Beneath.machine_model.proofs.Times.{run_is, run_ends}
use Rattle.proof_shape.specs.Sites.Nodes.{steps_of}
use Rattle.proof_shape.proofs.Sites.Fixed.{keys_fit, states_from-append, taken-append}
use Rattle.proof_shape.proofs.Sites.Stepped.{takes_steps}
use Rattle.proof_updates.specs.Laws.Handles.{OfEachStep, UntouchedStay, UpdatesChange, RepairsStay, ClearsEmpty, ClosesTake, OpenedCopy}
use Rattle.proof_updates.proofs.Handles.OfRuns.{OfLastSteps, OneUpdate}
use Rattle.proof_updates.proofs.Handles.OfRuns as of_runs
use Rattle.proof_updates.specs.Beneath.machine_model.proofs.Numbered.{step_noted}
use Rattle.proof_updates.specs.Beneath.history.proofs.Places.{at_push}

module _ (limits : Bounds) (steps : List Step) (s : Step) (o : Outcome) (after : State) (taken : next (run limits steps) s ≡ Ok (o, after)) where
  abbrev t : ℕ
  t = last_of limits steps

  -- the step is one more of those that are taken
  one_more : taken_steps limits (steps ++ s ∷ []) ≡ taken_steps limits steps ++ s ∷ []
  unfolding taken_from
  one_more =
      taken-append (first_state limits) steps (s ∷ []) ∙ ap (λ l. taken_steps limits steps ++ l) (ap (λ a. cond (is_taken_step a) (s ∷ []) []) taken)

  last_is : last_of limits (steps ++ s ∷ []) ≡ suc (last_of limits steps)
  last_is = let e = ap length one_more ∙ length-append (taken_steps limits steps) (s ∷ []) in omega (arith, e)

  before_is : states_of limits (steps ++ s ∷ []) (last_of limits steps) ≡ run limits steps
  before_is =
      ap (λ l. states_from (first_state limits) l (last_of limits steps)) one_more
      ∙ states_from-append (first_state limits) (taken_steps limits steps) (s ∷ []) (last_of limits steps) (omega arith) ∙ run_ends limits steps

  after_is : states_of limits (steps ++ s ∷ []) (suc (last_of limits steps)) ≡ after
  after_is = ap (states_of limits (steps ++ s ∷ [])) (sym last_is) ∙ run_ends limits (steps ++ s ∷ []) ∙ run_push (first_state limits) steps s ∙ ap (state_after (run limits steps)) taken

  -- the run up to behind the step
  its_run : AreBounds limits → IsRun limits (states_of limits (steps ++ s ∷ [])) (suc (last_of limits steps))
  its_run ok =
      let r = run_is limits (steps ++ s ∷ []) ok in
      let within : (u : ℕ) → u < suc (last_of limits steps) → u < last_of limits (steps ++ s ∷ []) = λ u h. omega (arith, h, last_is) in
      record {
        limits_ok = r.limits_ok;
        first = r.first;
        turn = λ u h. r.turn u (within u h);
        records = r.records;
        nothing_recorded = r.nothing_recorded;
        recorded = λ u h. r.recorded u (within u h);
      }

  -- the step stands last among those that are taken
  its_step : slice_get (taken_steps limits (steps ++ s ∷ [])) (last_of limits steps) ≡ Some s
  its_step = ap (λ l. slice_get l (last_of limits steps)) one_more ∙ at_push (taken_steps limits steps) s (last_of limits steps) refl

  pub of_step : (Law : Bounds → State → Step → State → Type 0) → AreBounds limits → KeysFit (steps ++ s ∷ []) → OfLastSteps Law → Law limits (run limits steps) s after
  unfolding its_run
  of_step Law ok fit holds =
      let states = states_of limits (steps ++ s ∷ []) in
      let m = subst (λ a. Moves (states t) s o a) (sym after_is) (subst (λ b. Moves b s o after) (sym before_is) (moved (run limits steps) s o after taken)) in
      subst (λ a. Law limits (run limits steps) s a) after_is
      (subst (λ b. Law limits b s (states (suc t))) before_is
      (holds limits states (steps_of limits (steps ++ s ∷ [])) t (its_run ok)
      (subst (TakesSteps states (steps_of limits (steps ++ s ∷ []))) last_is (takes_steps limits (steps ++ s ∷ [])))
      (subst (StepsFit (steps_of limits (steps ++ s ∷ []))) last_is (keys_fit limits (steps ++ s ∷ []) fit)) s o m (step_noted limits (steps ++ s ∷ []) t s its_step)))

of_each_step : (Law : Bounds → State → Step → State → Type 0) → OfLastSteps Law → OfEachStep Law
of_each_step Law holds limits steps s o after ok fit taken = of_step limits steps s o after taken Law ok fit holds

pub untouched_stay : OfEachStep UntouchedStay
untouched_stay = of_each_step UntouchedStay of_runs.untouched_stay

pub updates_change : OfEachStep UpdatesChange
updates_change = of_each_step UpdatesChange of_runs.updates_change

pub one_update : OfEachStep OneUpdate
one_update = of_each_step OneUpdate of_runs.one_update

pub repairs_stay : OfEachStep RepairsStay
repairs_stay = of_each_step RepairsStay of_runs.repairs_stay

pub clears_empty : OfEachStep ClearsEmpty
clears_empty = of_each_step ClearsEmpty of_runs.clears_empty

pub closes_take : OfEachStep ClosesTake
closes_take = of_each_step ClosesTake of_runs.closes_take

pub opened_copy : OfEachStep OpenedCopy
opened_copy = of_each_step OpenedCopy of_runs.opened_copy

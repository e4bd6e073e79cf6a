-- What is own and was replaced, by beginnings of a list of steps.
use Rattle.std.proofs.Common.{◌≡◌, ◌≤◌, ◌<◌, ◌++◌, ℕ, suc, List, [], ◌∷◌, length, length-append, refl, sym, ap, subst, ◌∙◌, append_assoc, arith}
use Rattle.proof_reuse.specs.Beneath.slot_arena.specs.declared.refs.Ref.{Ref}
use Rattle.proof_reuse.specs.Beneath.slot_arena.specs.Heaps.{logical_main, main_at, main_of, node_at}
use Rattle.proof_reuse.specs.Beneath.machine_model.specs.declared.steps.Bounds.{Bounds}
use Rattle.proof_reuse.specs.Beneath.machine_model.specs.declared.steps.Step.{Step}
use Rattle.proof_reuse.specs.Beneath.machine_model.specs.declared.steps.Step.TheVariants as step
use Rattle.proof_reuse.specs.Beneath.machine_model.specs.Grown.{node_under}
use Rattle.proof_reuse.specs.Beneath.machine_model.specs.Machine.{AreBounds, run, taken_from, taken_steps}
use Rattle.proof_reuse.specs.Beneath.machine_model.specs.States.{State, first_state, operation_of}
use Rattle.proof_reuse.specs.Beneath.machine_model.specs.Times.{states_of, last_of}
use Rattle.proof_reuse.specs.Beneath.machine_model.proofs.Times.{run_ends}
use Rattle.proof_reuse.specs.Beneath.proof_commits.specs.Runs.{HasIndirection}
use Rattle.proof_reuse.specs.Beneath.proof_commits.specs.Stages.{stage_of, stage_of_actor}
use Rattle.proof_reuse.specs.Beneath.proof_memory.specs.Laws.{IsInUse}
use Rattle.proof_reuse.specs.Beneath.proof_memory.specs.Wants.{is_indirection}
use Rattle.proof_reuse.specs.Beneath.proof_memory.proofs.Safety.AtTimes.{node_found}
use Rattle.proof_reuse.specs.Beneath.proof_shape.proofs.Sites.Fixed.{states_of-append, taken-append}
use Rattle.proof_owned.specs.Owned.{IsOwn, swapped}
use Rattle.proof_owned.specs.Laws.{IsReplaced}
use Rattle.proof_followed.proofs.LastStep as one_more
use Rattle.proof_reuse.specs.Laws.{IsGarbage, WasReplaced, WasSwappedIn}
use Rattle.proof_reuse.proofs.Own.{replaced_garbage}

-- the state after some of the steps is the one of that time
module _ (limits : Bounds) (steps before more : List Step) (goes_on : steps ≡ before ++ more) where
  pub time_within : last_of limits before ≤ last_of limits steps
  time_within =
      subst (λ l. last_of limits before ≤ last_of limits l) (sym goes_on)
      (omega (arith, ap length (taken-append (first_state limits) before more), length-append (taken_steps limits before) (taken_from (run limits before) more)))

  pub state_then : states_of limits steps (last_of limits before) ≡ run limits before
  state_then =
      subst (λ l. states_of limits l (last_of limits before) ≡ run limits before) (sym goes_on)
      (states_of-append limits before more (last_of limits before) (omega arith) ∙ run_ends limits before)

module _ (limits : Bounds) (ok : AreBounds limits) (steps : List Step) (i m : Ref) where
  abbrev states : ℕ → State
  states = states_of limits steps

  module _ (h : WasSwappedIn limits steps i m) where
    abbrev through : List Step
    through = h.before ++ step.Go h.actor ∷ []

    abbrev u : ℕ
    u = last_of limits h.before

    through_is : last_of limits through ≡ suc u
    through_is = one_more.last_is limits ok h.before (step.Go h.actor) h.outcome h.after h.taken

    then_is : states u ≡ run limits h.before
    then_is = state_then limits steps h.before (step.Go h.actor ∷ h.more) (h.goes_on ∙ append_assoc h.before (step.Go h.actor ∷ []) h.more)

    next_is : states (suc u) ≡ run limits through
    next_is = ap states (sym through_is) ∙ state_then limits steps through h.more h.goes_on

    within : u < last_of limits steps
    within = let low = time_within limits steps through h.more h.goes_on in omega (arith, low, through_is)

    has : HasIndirection (states (suc u)) i
    has = subst (λ (s : State). HasIndirection s i) (sym next_is) h.has

    found : node_at (states (suc u)).heap i ≡ node_under states (suc u) i
    found = node_found states (suc u) i has.0

    pub is_own : IsOwn states (last_of limits steps) i m
    is_own =
        swapped u h.actor h.over within (ap stage_of_actor (ap (λ (s : State). operation_of s h.actor) then_is ∙ h.runs) ∙ ap stage_of h.line) (ap is_indirection (sym found) ∙ has.1)
        (ap main_of (sym found) ∙ ap (λ (s : State). main_at s.heap i) next_is ∙ h.stands)

  module _ (h : WasReplaced limits steps i m) where
    pub is_replaced : IsReplaced limits steps i m
    is_replaced =
        let first = state_then limits steps h.before (h.middle ++ h.more) (h.goes_on ∙ append_assoc h.before h.middle h.more) in
        let second = state_then limits steps (h.before ++ h.middle) h.more h.goes_on in
        record {
          before = last_of limits h.before;
          after = last_of limits (h.before ++ h.middle);
          order = time_within limits (h.before ++ h.middle) h.before h.middle refl;
          within = time_within limits steps (h.before ++ h.middle) h.more h.goes_on;
          had = subst (λ (s : State). HasIndirection s i) (sym first) h.had;
          has = subst (λ (s : State). HasIndirection s i) (sym second) h.has;
          was = ap (λ (s : State). logical_main s.heap i) first ∙ h.was;
          is = λ e. h.is (sym (ap (λ (s : State). logical_main s.heap i) second) ∙ e);
        }

  pub swapped_in_garbage : WasSwappedIn limits steps i m → WasReplaced limits steps i m → IsInUse (run limits steps).heap m → IsGarbage (run limits steps) m
  swapped_in_garbage own replaced used = replaced_garbage limits steps ok i m (is_own own) (is_replaced replaced) used

-- States that runs lead to, and one step from there.
use Rattle.std.specs.Prelude.{◌≡◌, ◌≤◌, List, [], ◌∷◌, ◌++◌, Ok}
use Rattle.std.proofs.Common.{cond, sym, ap, subst, ◌∙◌}
use Rattle.std.proofs.lemmas.List.Elements.{All-push}
use Rattle.proof_alone.specs.Vocabulary.{Bounds, Outcome, Step, FitsKey, KeysFit, AreBounds, longest_life, most_actors, is_taken_step, next, run, state_after, first_record, noted, record_of, State}
use Rattle.proof_alone.specs.Vocabulary.{first_state, told_in, most_slots, IsOfRun}
use Rattle.proof_alone.specs.Beneath.machine_model.proofs.Along.{limits_along, run_push}
use Rattle.proof_alone.specs.Beneath.machine_model.proofs.Recorded.{record_push}

-- what holds of the state behind each run holds of each state that a run leads to
pub by_run : (P : State → Type 0) → ((limits : Bounds) (steps : List Step) → AreBounds limits → KeysFit steps → P (run limits steps)) → (state : State) → IsOfRun state → P state
by_run P each state h = subst P (sym h.is) (each state.limits h.steps h.limits h.keys)

-- a run leads to the state behind it
pub of_run : (limits : Bounds) (steps : List Step) → AreBounds limits → limits.slots ≤ most_slots → limits.actors ≤ most_actors → limits.steps ≤ longest_life → KeysFit steps →
    IsOfRun (run limits steps)
of_run limits steps ok few actors life fit = record {
  steps = steps;
  is = ap (λ l. run l steps) (sym (limits_along limits steps));
  limits = subst AreBounds (sym (limits_along limits steps)) ok;
  few = subst (λ (l : Bounds). l.slots ≤ most_slots) (sym (limits_along limits steps)) few;
  actors = subst (λ (l : Bounds). l.actors ≤ most_actors) (sym (limits_along limits steps)) actors;
  life = subst (λ (l : Bounds). l.steps ≤ longest_life) (sym (limits_along limits steps)) life;
  keys = fit;
}

-- the state that a taken step leads to, and what is recorded then
pub stepped : (limits : Bounds) (steps : List Step) (s : Step) (o : Outcome) (after : State) → next (run limits steps) s ≡ Ok (o, after) → run limits (steps ++ s ∷ []) ≡ after
stepped limits steps s o after e = run_push (first_state limits) steps s ∙ ap (state_after (run limits steps)) e

pub noted_step : (limits : Bounds) (steps : List Step) (s : Step) (o : Outcome) (after : State) → next (run limits steps) s ≡ Ok (o, after) →
    record_of limits (steps ++ s ∷ []) ≡ noted (record_of limits steps) (run limits steps).steps (told_in (run limits steps) s)
noted_step limits steps s o after e =
    record_push (first_state limits) (first_record limits) steps s
    ∙ ap (λ answer. cond (is_taken_step answer) (noted (record_of limits steps) (run limits steps).steps (told_in (run limits steps) s)) (record_of limits steps)) e

-- a run leads behind the step too
abbrev LeadsBehind : State → Type 0
LeadsBehind state = (s : Step) (o : Outcome) (after : State) → FitsKey s → next state s ≡ Ok (o, after) → IsOfRun after

pub of_run_behind : (state : State) → IsOfRun state → LeadsBehind state
of_run_behind state h =
    subst LeadsBehind (sym h.is)
    (λ s o after fits e. subst IsOfRun (stepped state.limits h.steps s o after e)
    (of_run state.limits (h.steps ++ s ∷ []) h.limits h.few h.actors h.life (All-push FitsKey h.steps s h.keys fits)))

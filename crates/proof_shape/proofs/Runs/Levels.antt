-- Levels along a run: one function for all its times.
use Rattle.std.proofs.Common.{◌≡◌, ℕ, zero, suc, ◌+◌, ◌≤◌, cond, List, [], ◌∷◌, Ok, refl, sym, ◌∙◌, ap, subst, arith}
use Rattle.proof_shape.specs.Vocabulary.{Ref, Bounds, Outcome, Step, State, next, next_state, state_after, is_taken_step, taken_from, taken_steps, turns, IsRun, Turn, states_from, states_of}
use Rattle.proof_shape.specs.Beneath.proof_memory.proofs.Levels.States.{HasLevels}
use Rattle.proof_shape.specs.Beneath.proof_memory.proofs.Levels.Runs.{levels_of}
use Rattle.proof_shape.specs.Beneath.proof_memory.proofs.Levels.ShapeStates.{shapes_at}
use Rattle.proof_shape.proofs.Runs.RunOf.{comes_to}

-- the step of a turn, and what it leads to
step_of : (before after : State) → Turn before after → (s : Step) × (o : Outcome) × (next before s ≡ Ok (o, after))
step_of before after (turns s o m) = (s, o, comes_to before s o after m)

-- a list of steps leads through these states, each step taken
record Leads (states : ℕ → State) (t n : ℕ) : Type 0 where
  steps : List Step
  taken : taken_from (states t) steps ≡ steps
  at : (u : ℕ) → u ≤ n → states_from (states t) steps u ≡ states (t + u)

module _ {limits : Bounds} {states : ℕ → State} {last : ℕ} (run : IsRun limits states last) where
  leads : (n t : ℕ) → t + n ≤ last → Leads states t n
  unfolding taken_from states_from
  leads zero t le = record { steps = []; taken = refl; at = λ u within. ap states (omega arith) }
  leads (suc n) t le =
      let (s, o, e) = step_of (states t) (states (suc t)) (run.turn t (omega arith)) in
      let rest = leads n (suc t) (omega arith) in
      let next_is : next_state (states t) s ≡ states (suc t) = ap (state_after (states t)) e in
      record {
        steps = s ∷ rest.steps;
        taken = ap (λ a. cond (is_taken_step a) (s ∷ taken_from (next_state (states t) s) rest.steps) (taken_from (next_state (states t) s) rest.steps)) e
            ∙ ap (λ x. s ∷ taken_from x rest.steps) next_is ∙ ap (λ xs. s ∷ xs) rest.taken;
        at = λ u. by_time u s rest next_is;
      }
    where
      by_time : (u : ℕ) (s : Step) (rest : Leads states (suc t) n) → next_state (states t) s ≡ states (suc t) → u ≤ suc n → states_from (states t) (s ∷ rest.steps) u ≡ states (t + u)
      by_time zero s rest is within = ap states (omega arith)
      by_time (suc u) s rest is within = ap (λ x. states_from x rest.steps u) is ∙ rest.at u (omega arith) ∙ ap states (omega arith)

  whole : Leads states zero last
  whole = leads last zero (omega arith)

  at_time : (t : ℕ) → t ≤ last → states_of limits whole.steps t ≡ states t
  at_time t h =
      ap (λ x. states_from x (taken_from x whole.steps) t) (sym run.first) ∙ ap (λ xs. states_from (states zero) xs t) whole.taken ∙ whole.at t h ∙ ap states (omega arith)

  -- the level of each reference
  pub level : Ref → ℕ
  level = levels_of limits (taken_steps limits whole.steps)

  pub levels_along : (t : ℕ) → t ≤ last → HasLevels level (states t)
  unfolding level
  levels_along t h = subst (HasLevels level) (at_time t h) (shapes_at limits run.limits_ok whole.steps t).0

-- What stays while one actor alone reads and makes nodes.
use Rattle.std.proofs.Common.{◌≡◌, ℕ, suc, ◌<◌, Option, subst, ◌∙◌}
use Rattle.proof_obstruction_free.specs.Vocabulary.{Line, line_action, line_after, generation_from}
use Rattle.proof_obstruction_free.specs.Alone.{Lone, Stands, Keeps, WordStays, IsQuiet}
use Rattle.proof_obstruction_free.specs.Stepping.{Stepping, IsNoEnd, LeavesWords}

-- main nodes that are decided stay, and so does a root word without an offer
pub record Calm (a : Lone) (t u : ℕ) : Type 0 where
  pub keeps : Keeps a t u
  pub word : WordStays a t u

module _ (a : Lone) where
  -- a step of a line that leaves the generation alone
  pub step_on : (steps : Stepping a) (t : ℕ) (g : Option ℕ) (l : Line) (s : Stands a t g l) → t < a.last → IsNoEnd l → generation_from (a.states t) s.operation l ≡ s.operation.generation →
      Stands a (suc t) g (line_after (a.states t) s.operation l)
  step_on steps t g l s more no_end same = subst (λ h. Stands a (suc t) h (line_after (a.states t) s.operation l)) (same ∙ s.generation) (steps.next t g l s more no_end)

  pub calm_now : (t : ℕ) → Calm a t t
  calm_now t = record { keeps = λ i m h. h; word = λ r h. h }

  pub calm_on : (t u v : ℕ) → Calm a t u → Calm a u v → Calm a t v
  calm_on t u v first more = record { keeps = λ i m h. more.keeps i m (first.keeps i m h); word = λ r h. more.word r (first.word r h) }

  pub calm_step : (steps : Stepping a) (t : ℕ) (g : Option ℕ) (l : Line) (s : Stands a t g l) → t < a.last → IsNoEnd l → IsQuiet (line_action (a.states t) s.operation l) →
      LeavesWords (line_action (a.states t) s.operation l) → Calm a t (suc t)
  calm_step steps t g l s more no_end quiet leaves = record { keeps = steps.keeps t g l s more no_end quiet; word = λ r h. steps.words t g l s more no_end leaves ∙ h }

-- Quiet steps of an actor that is alone, with all that they leave; and the depth of what is built.
use Rattle.std.proofs.Common.{◌≡◌, ℕ, suc, ◌+◌, ◌≤◌, List, Option, Some, None, refl, subst, ◌∙◌, arith}
use Rattle.proof_obstruction_free.specs.Vocabulary.{Ref, next_ref, list_depth, BuildLine, Line, Operation, State, build_action, build_after_made, build_if_made, line_action, line_after}
use Rattle.proof_obstruction_free.specs.Vocabulary.{generation_from, depth_of, AnIndirection, LineLevel, level_until}
use Rattle.proof_obstruction_free.specs.Beneath.history.specs.declared.replies.Reply.TheVariants as reply
use Rattle.proof_obstruction_free.specs.Beneath.machine_model.specs.declared.building.BuildLine.TheVariants as build
use Rattle.proof_obstruction_free.specs.Beneath.machine_model.specs.declared.lines.Line.TheVariants as line
use Rattle.proof_obstruction_free.specs.Beneath.proof_memory.proofs.Safety.AtTimes.{kind_at}
use Rattle.proof_obstruction_free.specs.Beneath.proof_contents.proofs.Shapes.Nodes.{list_depth-le}
use Rattle.proof_obstruction_free.specs.Beneath.proof_shape.proofs.Sites.At.{lines_have_sites, link_high}
use Rattle.proof_obstruction_free.specs.Beneath.proof_shape.proofs.Sites.Grown.{grown_sites}
use Rattle.proof_obstruction_free.specs.Alone.{Lone, Stands, Keeps, WordStays, Within, IsQuiet, IsWeight}
use Rattle.proof_obstruction_free.specs.Stepping.{Stepping, IsNoEnd, LeavesWords}
use Rattle.proof_obstruction_free.proofs.Step.Within.{same_stays, step_on, ended, weaken}
use Rattle.proof_obstruction_free.specs.Beneath.proof_memory.proofs.Claims.Named.{past_place}

-- each line of BUILD makes a node
build_quiet : (state : State) (operation : Operation) (l : BuildLine) → IsQuiet (build_action state operation l)
build_quiet state operation (build.Single path main site former) = tt
build_quiet state operation (build.Pair path main position single depth) = tt
build_quiet state operation (build.Link path main position below depth) = tt
build_quiet state operation (build.Rung path main position below depth) = tt
build_quiet state operation (build.Main path main c former) = tt

build_leaves : (state : State) (operation : Operation) (l : BuildLine) → LeavesWords (build_action state operation l)
build_leaves state operation (build.Single path main site former) = tt
build_leaves state operation (build.Pair path main position single depth) = tt
build_leaves state operation (build.Link path main position below depth) = tt
build_leaves state operation (build.Rung path main position below depth) = tt
build_leaves state operation (build.Main path main c former) = tt

module _ (a : Lone) (weight : ℕ → ℕ) (heavy : IsWeight a weight) (steps : Stepping a) where
  abbrev W : (ℕ → Type 0) → ℕ → ℕ → Type 0
  W = Within a weight

  -- a quiet step that leaves the root word
  pub quiet_on :
      (Q : ℕ → Type 0) (n t : ℕ) (g : Option ℕ) (l : Line) (s : Stands a t g l) → IsNoEnd l → IsQuiet (line_action (a.states t) s.operation l) →
      LeavesWords (line_action (a.states t) s.operation l) → generation_from (a.states t) s.operation l ≡ s.operation.generation →
      (Stands a (suc t) g (line_after (a.states t) s.operation l) → Keeps a t (suc t) → WordStays a t (suc t) → W Q n (suc t)) → W Q (n + 1) t
  quiet_on Q n t g l s more quiet leaves same then =
      step_on a weight steps heavy Q n t g l s more quiet (λ soon next keeps.
      then (subst (λ h. Stands a (suc t) h (line_after (a.states t) s.operation l)) (same ∙ s.generation) next) keeps (same_stays a t (suc t) (steps.words t g l s soon more leaves)))

  -- a step of BUILD makes a node, or the operation ends
  pub make_on :
      (Q : ℕ → Type 0) (n t : ℕ) (g : Option ℕ) (l : BuildLine) (s : Stands a t g (line.Build l)) → 1 ≤ n →
      ((made : Ref) → Stands a (suc t) g (build_after_made (a.states t) s.operation l made) → Keeps a t (suc t) → WordStays a t (suc t) → W Q n (suc t)) → W Q (n + 1) t
  make_on Q n t g l s some then =
      quiet_on Q n t g (line.Build l) s tt (build_quiet (a.states t) s.operation l) (build_leaves (a.states t) s.operation l) refl
      (λ next keeps word. by_made keeps word (next_ref (a.states t).heap) next)
    where
      by_made : Keeps a t (suc t) → WordStays a t (suc t) → (o : Option Ref) → Stands a (suc t) g (build_if_made (a.states t) s.operation l o) → W Q n (suc t)
      by_made keeps word None next = weaken a weight Q 1 n (suc t) some (ended a weight steps Q (suc t) g reply.NoSlots next)
      by_made keeps word (Some made) next = then made next keeps word

  -- a branch of one entry is built above the last level
  pub rung_low :
      (path : List Ref) (main : Ref) (position : ℕ) (below : Ref) (depth t : ℕ) (g : Option ℕ) → Stands a t g (line.Build (build.Rung path main position below depth)) →
      (depth_of path + 1 ≤ depth) × (depth ≤ 12)
  rung_low path main position below depth t g s =
      let level = subst (LineLevel (level_until a.states a.steps a.last)) s.line (lines_have_sites a.steps a.run a.takes a.fit t s.until a.actor s.operation s.runs).0 in
      let wanted = steps.wants t g (line.Build (build.Rung path main position below depth)) s in
      let (slot, found, is) = kind_at a.states t below AnIndirection (past_place wanted).0 in
      let shape = (grown_sites a.steps a.run a.takes a.fit t s.until below slot found).shape in
      let low = link_high (list_depth a.limits.hash) (level_until a.states a.steps a.last below) slot.node is shape in
      (level.1, omega (arith, low, level.2, list_depth-le a.limits.hash))

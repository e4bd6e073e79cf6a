-- Every indirection that was made so far, and every generation that was opened, is below the counter; the generation that is drawn next isn't opened by the step that draws it.
use Rattle.std.proofs.Common.{◌≡◌, ℕ, zero, suc, ◌<◌, ◌≤◌, Bool, Option, Some, None, refl, arith}
use Rattle.proof_generations.specs.Vocabulary.{Ref, Slot, Operation, Bounds, State, operation_of, root_of, turns, IsRun, Turn, standing, grown, or_before, IsInUse}
use Rattle.proof_generations.specs.Beneath.proof_memory.proofs.Safety.AtEachTime.{safe_at}
use Rattle.proof_generations.specs.Beneath.proof_memory.proofs.Safety.AtTimes.{line_finds}
use Rattle.proof_commits.proofs.Course.Finals.{from_time}
use Rattle.proof_generations.proofs.Counter.Drawn.{counter_rises}
use Rattle.proof_generations.proofs.Counter.Below.{below_at, looked_up_below}
use Rattle.proof_generations.proofs.Roots.OfLists.{operation_below}
use Rattle.proof_generations.proofs.Roots.Own.{its_fresh}
use Rattle.proof_generations.proofs.Roots.Kept.{fresh_in, fresh_safe}
use Rattle.proof_generations.specs.Running.{Runs}
use Rattle.proof_generations.specs.Falling.{WasOpened}
use Rattle.proof_generations.proofs.Falling.Nodes.{used_generation}
use Rattle.proof_generations.proofs.Falling.Opened.{Opening, before, opens, opening}
use Rattle.proof_generations.proofs.Falling.Runs.{gen_of}

-- what was made so far stood under its reference at some time
stood_by : (states : ℕ → State) (t : ℕ) (r : Ref) (slot : Slot) (now : Option Slot) → standing (states (suc t)).heap r ≡ now → or_before now (grown states t r) ≡ Some slot →
    ((slot : Slot) → grown states t r ≡ Some slot → (u : ℕ) × (u ≤ t) × IsInUse (states u).heap r) → (u : ℕ) × (u ≤ suc t) × IsInUse (states u).heap r
stood_by states t r slot None at e earlier = let (u, le, used) = earlier slot e in (u, omega arith, used)
stood_by states t r slot (Some now) at e earlier = (suc t, omega arith, (now, at))

was_in_use : (states : ℕ → State) (t : ℕ) (r : Ref) (slot : Slot) → grown states t r ≡ Some slot → (u : ℕ) × (u ≤ t) × IsInUse (states u).heap r
unfolding grown
was_in_use states zero r slot e = (zero, omega arith, (slot, e))
was_in_use states (suc t) r slot e = stood_by states t r slot (standing (states (suc t)).heap r) refl e (was_in_use states t r)

module _ {limits : Bounds} {states : ℕ → State} {last : ℕ} (run : IsRun limits states last) where
  counted_by : (t : ℕ) → Turn (states t) (states (suc t)) → (states t).generations ≤ (states (suc t)).generations
  counted_by t (turns s o m) = counter_rises (states t) s o (states (suc t)) m

  pub counted : (t u : ℕ) → t ≤ u → u ≤ last → (states t).generations ≤ (states u).generations
  counted t u le within =
      from_time (λ v. (states t).generations ≤ (states v).generations) t last (omega arith) (λ v b w h. omega (arith, counted_by v (run.turn v w), h)) u le within

  -- what was made
  pub made_below : (t : ℕ) → t ≤ last → (r : Ref) (slot : Slot) → grown states t r ≡ Some slot → gen_of states last r < (states t).generations
  made_below t h r slot e =
      let (u, le, used) = was_in_use states t r slot e in
      omega (arith, used_generation run u (omega arith) r used, looked_up_below (states u) (below_at run u (omega arith)) r, counted u t le h)

  -- what was opened
  pub opened_below : (t : ℕ) → t ≤ last → (g : ℕ) → WasOpened states t g → g < (states t).generations
  opened_below t h g (u, le, (handle, root, e, its)) =
      omega (arith, looked_up_below (states u) (below_at run u (omega arith)) (root_of root.word), its, counted u t le h)

  -- the generation of an operation
  pub start_below : (t : ℕ) → t ≤ last → (actor : ℕ) (operation : Operation) (g : ℕ) → operation_of (states t) actor ≡ Some operation → operation.generation ≡ Some g → g < (states t).generations
  start_below t h actor operation g is e = operation_below (states t) (below_at run t h) actor operation g is e

  -- a fresh root of an operation is in use
  pub fresh_used : (t : ℕ) → t ≤ last → (k : ℕ) (operation : Operation) (x : Bool) (r : Ref) → Runs (states t) k operation → fresh_in x operation.line ≡ Some r → IsInUse (states t).heap r
  fresh_used t h k operation x r runs e =
      fresh_safe (IsInUse (states t).heap) (states t) operation operation.line (line_finds (states t) (safe_at run t h) (suc k) operation runs) x r e

  -- a generation that is drawn isn't opened in that step
  pub drawn_unopened : (t : ℕ) → t < last → WasOpened states (suc t) (states t).generations → ⊥
  drawn_unopened t h o = by (opening run t h (states t).generations o)
    where
      by : Opening run t (states t).generations → ⊥
      by (before was) = omega (arith, opened_below t (omega arith) (states t).generations was)
      by (opens handle offer stands x r f its closed) =
          let used = fresh_used t (omega arith) stands.k stands.owner x r stands.runs (its_fresh stands.owner.line offer x r stands.completes f) in
          omega (arith, used_generation run t (omega arith) r used, looked_up_below (states t) (below_at run t (omega arith)) r, its)

-- The nodes of a handle and the free slots.
use Rattle.std.proofs.Common.{◌≡◌, ◌≢◌, ℕ, zero, suc, ◌+◌, ◌≤◌, ◌==◌, Bool, true, false, cond, None, length, ◌⊎◌, inl, inr, Option, Some, refl, ap, ◌∙◌, arith}
use Rattle.std.proofs.lemmas.Bool.{false≢true}
use Rattle.proof_sizes.specs.Vocabulary.{Slot, Ref, IsLive, has_birth, Heap, in_use, stored, birth_of, times, Root, Bounds, Step, of_birth, is_busy, State, root_at, IsRun}
use Rattle.proof_sizes.specs.Beneath.proof_obstruction_free.specs.Beneath.epochs.proofs.InUse.{in_use_live, in_use_once, live_in_use}
use Rattle.proof_sizes.specs.Beneath.machine_model.proofs.Slots.{add_up}
use Rattle.proof_sizes.specs.Beneath.proof_memory.specs.Laws.{IsInUse}
use Rattle.proof_sizes.specs.Beneath.proof_memory.specs.Sweeping.{UsesReached}
use Rattle.proof_sizes.specs.Beneath.proof_memory.proofs.Holding.Lives.{in_use_lives}
use Rattle.proof_sizes.specs.Beneath.proof_memory.proofs.Safety.AtEachTime.{safe_at}
use Rattle.proof_sizes.specs.Beneath.proof_memory.proofs.Safety.States.{IsSafe}
use Rattle.proof_sizes.specs.Beneath.proof_shape.specs.Sites.At.{StepsFit, TakesSteps}
use Rattle.proof_sizes.specs.Nodes.{nodes_of}
use Rattle.proof_sizes.proofs.AtRest.{reached_stands}
use Rattle.proof_sizes.proofs.Shown.{nodes_once, nodes_used}
use Rattle.proof_sizes.proofs.Times.{length_by_times}

module _ {limits : Bounds} {states : ℕ → State} (steps : ℕ → Step) {last : ℕ} (run : IsRun limits states last) (takes : TakesSteps states steps last) (keys : StepsFit steps last)
    (t : ℕ) (within : t ≤ last) (handle : ℕ) (root : Root) (at : root_at (states t) handle ≡ Some root) where
  safe : IsSafe (states t)
  safe = safe_at run t within

  no_more_often : (x : Ref) → times x (nodes_of (states t) handle) ≤ times x (in_use (states t).heap)
  no_more_often x = by (nodes_used steps run takes keys t within handle root at x)
    where
      by : (times x (nodes_of (states t) handle) ≡ 0) ⊎ IsInUse (states t).heap x → times x (nodes_of (states t) handle) ≤ times x (in_use (states t).heap)
      by (inl none) = omega (arith, none)
      by (inr used) =
          let few = nodes_once steps run takes keys t within handle root at x in
          let some = live_in_use (states t).heap x (in_use_lives (states t).heap x used) in
          omega (arith, few, some)

  pub few_nodes : length (nodes_of (states t) handle) + length (states t).heap.free ≤ (states t).limits.slots
  few_nodes =
      let less = length_by_times (nodes_of (states t) handle) (in_use (states t).heap) no_more_often in
      omega (arith, less, add_up (states t).limits.slots (states t).heap safe.sound.heap)

-- ---- one handle alone

-- what lives is in use
lives_in_use : (heap : Heap) (r : Ref) → IsLive heap r → IsInUse heap r
lives_in_use heap r live = by (stored heap r) refl live
  where
    by_birth : (slot : Slot) → stored heap r ≡ Some slot → (b : Bool) → (slot.birth == birth_of r) ≡ b → b ≡ true → IsInUse heap r
    by_birth slot is true e same = (slot, ap (of_birth (birth_of r)) is ∙ ap (λ c. cond c (Some slot) None) e)
    by_birth slot is false e same = absurd (false≢true same)

    by : (o : Option Slot) → stored heap r ≡ o → has_birth (birth_of r) o ≡ true → IsInUse heap r
    by None is e = absurd (false≢true e)
    by (Some slot) is e = by_birth slot is (slot.birth == birth_of r) refl e

module _ {limits : Bounds} {states : ℕ → State} (steps : ℕ → Step) {last : ℕ} (run : IsRun limits states last) (takes : TakesSteps states steps last) (keys : StepsFit steps last)
    (rest : is_busy (states last) ≡ false) (uses : UsesReached (states last)) (handle : ℕ) (root : Root) (at : root_at (states last) handle ≡ Some root)
    (only : (other : ℕ) → other ≢ handle → root_at (states last) other ≡ None) where
  safe_last : IsSafe (states last)
  safe_last = safe_at run last (omega arith)

  no_less_often : (x : Ref) → times x (in_use (states last).heap) ≤ times x (nodes_of (states last) handle)
  no_less_often x = by (times x (in_use (states last).heap)) refl
    where
      by : (n : ℕ) → times x (in_use (states last).heap) ≡ n → times x (in_use (states last).heap) ≤ times x (nodes_of (states last) handle)
      by zero is = omega (arith, is)
      by (suc n) is =
          let live = in_use_live (states last).heap x (omega (arith, is)) in
          let some = reached_stands steps run takes keys rest handle root at only x ((uses x).0 (lives_in_use (states last).heap x live)) in
          omega (arith, some, in_use_once (states last).heap x)

  pub all_nodes : length (nodes_of (states last) handle) + length (states last).heap.free ≡ (states last).limits.slots
  all_nodes =
      let less = few_nodes steps run takes keys last (omega arith) handle root at in
      let more = length_by_times (in_use (states last).heap) (nodes_of (states last) handle) no_less_often in
      omega (arith, less, more, add_up (states last).limits.slots (states last).heap safe_last.sound.heap)

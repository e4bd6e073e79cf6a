-- A tomb's entry is a single.
use Rattle.std.proofs.Common.{◌≡◌, ℕ, zero, suc, ◌≤◌, true, Option, Some, None, refl, ◌∙◌, subst, arith}
use Rattle.proof_owned.specs.Beneath.slot_arena.specs.declared.refs.Ref.{Ref}
use Rattle.proof_owned.specs.Beneath.slot_arena.specs.declared.nodes.Node.TheVariants.{Tomb}
use Rattle.proof_owned.specs.Beneath.slot_arena.specs.declared.nodes.Slot.{Slot}
use Rattle.proof_owned.specs.Beneath.slot_arena.specs.Heaps.{node_at, node_of}
use Rattle.proof_owned.specs.Beneath.machine_model.specs.declared.steps.Bounds.{Bounds}
use Rattle.proof_owned.specs.Beneath.machine_model.specs.States.{State}
use Rattle.proof_owned.specs.Beneath.machine_model.specs.Grown.{standing, or_before, grown, node_under}
use Rattle.proof_owned.specs.Beneath.machine_model.specs.Times.{IsRun}
use Rattle.proof_owned.specs.Beneath.proof_memory.specs.Laws.{IsInUse}
use Rattle.proof_owned.specs.Beneath.proof_memory.specs.Wants.{ASingle, meets, AllHold, node_wants, prev_wants}
use Rattle.proof_owned.specs.Beneath.proof_memory.proofs.Claims.Uses.{safe_of, meets_of, first_hold}
use Rattle.proof_owned.specs.Beneath.proof_memory.proofs.Safety.AtEachTime.{safe_at}
use Rattle.proof_owned.specs.Beneath.proof_generations.proofs.Falling.Nodes.{used_same}
use Rattle.proof_owned.proofs.Linked.{kept_single}

module _ {limits : Bounds} {states : ℕ → State} {last : ℕ} (run : IsRun limits states last) where
  standing_tomb : (t : ℕ) → t ≤ last → (m s : Ref) (slot : Slot) → standing (states t).heap m ≡ Some slot → slot.node ≡ Tomb s → meets ASingle (node_under states last s) ≡ true
  standing_tomb t within m s slot at is =
      let heap = (states t).heap in
      let claims = first_hold (IsInUse heap) heap (node_wants slot.node) (prev_wants slot.prev) ((safe_at run t within).nodes m slot at).0 in
      let it = (subst (λ n. AllHold (IsInUse heap) heap (node_wants n)) is claims).0 in
      kept_single (node_at heap s) (node_under states last s) (used_same run t within s (safe_of it)) (meets_of it)

  tomb_next : (t : ℕ) → suc t ≤ last → (m s : Ref) (slot : Slot) (now : Option Slot) → standing (states (suc t)).heap m ≡ now → or_before now (grown states t m) ≡ Some slot →
      slot.node ≡ Tomb s → (grown states t m ≡ Some slot → meets ASingle (node_under states last s) ≡ true) → meets ASingle (node_under states last s) ≡ true
  tomb_next t h m s slot None at e is before = before e
  tomb_next t h m s slot (Some now) at e is before = standing_tomb (suc t) h m s slot (at ∙ e) is

  tomb_by : (t : ℕ) → t ≤ last → (m s : Ref) (slot : Slot) → grown states t m ≡ Some slot → slot.node ≡ Tomb s → meets ASingle (node_under states last s) ≡ true
  unfolding grown
  tomb_by zero h m s slot e is = standing_tomb zero h m s slot e is
  tomb_by (suc t) h m s slot e is = tomb_next t h m s slot (standing (states (suc t)).heap m) refl e is (λ b. tomb_by t (omega arith) m s slot b is)

  tomb_of : (m s : Ref) (o : Option Slot) → grown states last m ≡ o → node_of o ≡ Tomb s → meets ASingle (node_under states last s) ≡ true
  tomb_of m s None e is = let wrong : ⊥ = cc is in absurd wrong
  tomb_of m s (Some slot) e is = tomb_by last (omega arith) m s slot e is

  pub tomb_single : (m s : Ref) → node_under states last m ≡ Tomb s → meets ASingle (node_under states last s) ≡ true
  tomb_single m s is = tomb_of m s (grown states last m) refl is

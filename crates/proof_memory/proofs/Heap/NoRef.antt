-- Nothing ever stands under the reference that stands for none.
use Rattle.std.proofs.Common.{◌≡◌, ℕ, zero, suc, ◌+◌, ◌≤◌, Some, None, refl, sym, ◌∙◌, ap, arith, Option}
use Rattle.std.proofs.lemmas.Option.{none-some}
use Rattle.proof_memory.specs.Vocabulary.{birth_of, Ref, Node, no_ref, next_ref, Bounds, State, first_state, standing, grown, IsRun, Slot}
use Rattle.machine_model.proofs.Times.{along_run}
use Rattle.proof_memory.proofs.Heap.Under.{taken_all}
use Rattle.proof_memory.proofs.Safety.States.{IsSafe}
use Rattle.proof_memory.proofs.Safety.AtEachTime.{safe_at}
use Rattle.proof_memory.proofs.Heap.Moves.{WordMove, keeps, makes, publishes, restores, commits, fails, word_move}
use Rattle.proof_memory.proofs.Safety.First.{first_stands}

born_later : (r : Ref) (n : ℕ) → birth_of r ≡ n + 1 → no_ref ≡ r → ⊥
born_later r n is same = not_zero (ap birth_of same ∙ is)
  where
    not_zero : 0 ≡ n + 1 → ⊥
    not_zero e = omega (arith, e)

module _ {limits : Bounds} {states : ℕ → State} {last : ℕ} (run : IsRun limits states last) where
  first_none : grown states zero no_ref ≡ None
  unfolding grown first_state
  first_none = by (standing (states zero).heap no_ref) refl
    where
      some_ref : (slot : Slot) → standing (states zero).heap no_ref ≡ Some slot → ⊥
      some_ref slot e =
          first_stands (λ r slot. r ≡ no_ref → ⊥) limits.slots run.limits_ok.0 (λ birth is. absurd (omega arith)) (λ birth is. absurd (omega arith)) no_ref slot
          (ap (λ (s : State). standing s.heap no_ref) (sym run.first) ∙ e) refl

      by : (o : Option Slot) → standing (states zero).heap no_ref ≡ o → standing (states zero).heap no_ref ≡ None
      by None e = e
      by (Some slot) e = absurd (some_ref slot e)

  birth_is : (t : ℕ) → t ≤ last → (node : Node) (made : Ref) → next_ref (states t).heap ≡ Some made → birth_of made ≡ (states t).heap.births + 1
  birth_is t h node made e = let I : IsSafe (states t) = safe_at run t h in (taken_all (states t).limits.slots (states t).heap (I.sound.heap) node made e).3

  by_move : (t : ℕ) → t ≤ last → grown states t no_ref ≡ None → WordMove (states t) (grown states t) (grown states (suc t)) → grown states (suc t) no_ref ≡ None
  by_move t h none (keeps k) = k no_ref ∙ none
  by_move t h none (makes actor operation node made is a e new here others) =
      others no_ref (born_later made (states t).heap.births (birth_is t h node made e)) ∙ none
  by_move t h none (publishes actor operation i replaced fresh at_i at_fresh takes differ f_i m f_fresh g_i g_fresh others) =
      others no_ref (λ same. none-some at_i (sym none ∙ ap (grown states t) same ∙ f_i)) (λ same. none-some at_fresh (sym none ∙ ap (grown states t) same ∙ f_fresh)) ∙ none
  by_move t h none (restores actor operation i main previous at_i takes f_i m g_i others) = others no_ref (λ same. none-some at_i (sym none ∙ ap (grown states t) same ∙ f_i)) ∙ none
  by_move t h none (commits actor operation i main previous told at_main takes v f_main g_main others) = others no_ref (λ same. none-some at_main (sym none ∙ ap (grown states t) same ∙ f_main)) ∙ none
  by_move t h none (fails actor operation i main previous told at_main takes v f_main g_main others) = others no_ref (λ same. none-some at_main (sym none ∙ ap (grown states t) same ∙ f_main)) ∙ none

  pub nothing_stands : (t : ℕ) → t ≤ last → grown states t no_ref ≡ None
  nothing_stands = along_run run (λ t. grown states t no_ref ≡ None) first_none (λ t lt turn none. by_move t (omega arith) none (word_move run t lt))

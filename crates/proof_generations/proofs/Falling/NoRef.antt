-- Nothing ever stands under the reference that stands for none; so what is no indirection has nothing below it.
use Rattle.std.proofs.Common.{◌≡◌, ℕ, zero, suc, ◌+◌, ◌-◌, ◌≤◌, Bool, true, false, cond, refl, ap, ◌∙◌, arith}
use Rattle.proof_generations.specs.Vocabulary.{Ref, node_of, prev_of, logical, no_ref, empty_branch, Bounds, State, IsRun, node_under, main_word, prev_word, main_before, is_made, main_within}
use Rattle.proof_generations.specs.Vocabulary.{counting_main}
use Rattle.proof_generations.specs.Beneath.proof_memory.specs.Wants.{is_indirection}
use Rattle.proof_generations.specs.Beneath.proof_memory.proofs.Claims.Nodes.{no_main}
use Rattle.proof_generations.specs.Beneath.proof_memory.proofs.Heap.NoRef.{nothing_stands}

module _ {limits : Bounds} {states : ℕ → State} {last : ℕ} (run : IsRun limits states last) where
  -- its node is an empty branch
  pub no_node : (t : ℕ) → t ≤ last → node_under states t no_ref ≡ empty_branch
  no_node t h = ap node_of (nothing_stands run t h)

  -- what is no indirection has no main node
  pub no_main_before : (t : ℕ) → t ≤ last → (i : Ref) → is_indirection (node_under states t i) ≡ false → main_before states t i ≡ no_ref
  no_main_before t h i e =
      let word : main_word states t i ≡ no_ref = no_main (node_under states t i) e in
      ap (λ w. logical w (prev_word states t w)) word ∙ ap (logical no_ref) (ap prev_of (nothing_stands run t h))

  -- the main node that counts is that of some time from then on
  pub record CountsAt (t : ℕ) (i : Ref) : Type 0 where
    pub at : ℕ
    pub from : t ≤ at
    pub within : at ≤ last
    pub is : counting_main states last t i ≡ main_before states at i

  counts_within : (t left : ℕ) (i : Ref) → t + left ≤ last → (u : ℕ) × (t ≤ u) × (u ≤ last) × (main_within states t left i ≡ main_before states u i)
  unfolding main_within
  counts_within t zero i h = (t, omega arith, omega arith, refl)
  counts_within t (suc left) i h = by (is_made states t i) (counts_within (suc t) left i (omega arith))
    where
      by : (b : Bool) → (u : ℕ) × (suc t ≤ u) × (u ≤ last) × (main_within states (suc t) left i ≡ main_before states u i) →
          (u : ℕ) × (t ≤ u) × (u ≤ last) × (cond b (main_before states t i) (main_within states (suc t) left i) ≡ main_before states u i)
      by true later = (t, omega arith, omega arith, refl)
      by false (u, le, within, is) = (u, omega arith, within, is)

  pub counts_at : (t : ℕ) → t ≤ last → (i : Ref) → CountsAt t i
  counts_at t h i =
      let (u, le, within, is) = counts_within t (last - t) i (omega arith) in
      record { at = u; from = le; within = within; is = is }

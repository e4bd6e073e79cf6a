-- The words before the first step.
use Rattle.std.proofs.Common.{◌≡◌, ℕ, zero, suc, ◌-◌, ◌≤◌, Bool, true, false, cond, ◌==◌, List, ◌∷◌, get_or, replicate, Option, Some, None, refl, sym, ◌∙◌, ap, arith}
use Rattle.std.specs.Prelude.{is_some}
use Rattle.std.proofs.lemmas.Bool.{true≢false}
use Rattle.proof_commits.specs.Vocabulary.{ref_to, slot_of, birth_of, Ref, Indirection, Slot, stored, node_of, prev_of, main_of, taken, empty_branch, Bounds, State, first_state, first_heap}
use Rattle.proof_commits.specs.Vocabulary.{operation_of, AreBounds, grown, standing, of_birth}
use Rattle.proof_commits.specs.Beneath.slot_arena.specs.declared.nodes.Prev.TheVariants as over
use Rattle.proof_commits.specs.Beneath.machine_model.proofs.Found.{none_found}
use Rattle.proof_memory.specs.Wants.{is_indirection}

-- the slots of the first heap
abbrev first_slots : ℕ → List (Option Slot)
first_slots n =
    Some (record { birth = 1; node = empty_branch; prev = over.None }) ∷ Some (record { birth = 2; node = Indirection 0 (ref_to 1 0); prev = over.None }) ∷ replicate n None

slots_at_first : (n : ℕ) → (first_heap (suc (suc n))).slots ≡ first_slots n
unfolding taken
slots_at_first n = refl

-- what stands under a reference at first
abbrev standing_in : List (Option Slot) → Ref → Option Slot
standing_in slots r = of_birth (birth_of r) (get_or slots (slot_of r) None)

standing_at_first : (n : ℕ) (r : Ref) → standing (first_heap (suc (suc n))) r ≡ standing_in (first_slots n) r
unfolding stored
standing_at_first n r = ap (λ slots. standing_in slots r) (slots_at_first n)

-- ---- each prev word is none

birth_prev : (b : ℕ) (o : Option Slot) → prev_of o ≡ over.None → prev_of (of_birth b o) ≡ over.None
birth_prev b None e = refl
birth_prev b (Some slot) e = by_test (slot.birth == b)
  where
    by_test : (c : Bool) → prev_of (cond c (Some slot) None) ≡ over.None
    by_test true = e
    by_test false = refl

none_of : {X : Type 0} (n j : ℕ) (x : Option X) → get_or (replicate n None) j None ≡ x → x ≡ None
none_of n j None e = refl
none_of n j (Some y) e = absurd (none_found n j y e)

first_prev : (n j : ℕ) → prev_of (get_or (first_slots n) j None) ≡ over.None
first_prev n zero = refl
first_prev n (suc zero) = refl
first_prev n (suc (suc j)) = ap prev_of (none_of n j _ refl)

-- ---- a main word names what was made

birth_link : (b : ℕ) (o : Option Slot) → is_indirection (node_of (of_birth b o)) ≡ true → (is_indirection (node_of o) ≡ true) × (main_of (node_of (of_birth b o)) ≡ main_of (node_of o))
birth_link b None e = absurd (true≢false (sym e))
birth_link b (Some slot) e = by_test (slot.birth == b) e
  where
    by_test : (c : Bool) → is_indirection (node_of (cond c (Some slot) None)) ≡ true →
        (is_indirection (node_of (Some slot)) ≡ true) × (main_of (node_of (cond c (Some slot) None)) ≡ main_of (node_of (Some slot)))
    by_test true e = (e, refl)
    by_test false e = absurd (true≢false (sym e))

first_main : (n j : ℕ) → is_indirection (node_of (get_or (first_slots n) j None)) ≡ true → main_of (node_of (get_or (first_slots n) j None)) ≡ ref_to 1 0
first_main n zero e = absurd (true≢false (sym e))
first_main n (suc zero) e = refl
first_main n (suc (suc j)) e = absurd (true≢false (sym e ∙ ap (λ o. is_indirection (node_of o)) (none_of n j _ refl)))

-- ---- of a run

two_or_more : (slots : ℕ) → 2 ≤ slots → slots ≡ suc (suc (slots - 2))
two_or_more slots h = omega arith

module _ (limits : Bounds) (ok : AreBounds limits) (states : ℕ → State) (first : states zero ≡ first_state limits) where
  grown_at_first : (r : Ref) → grown states zero r ≡ standing_in (first_slots (limits.slots - 2)) r
  unfolding grown first_state
  grown_at_first r =
      ap (λ (s : State). standing s.heap r) first ∙ ap (λ n. standing (first_heap n) r) (two_or_more limits.slots ok.0) ∙ standing_at_first (limits.slots - 2) r

  pub prev_at_first : (m : Ref) → prev_of (grown states zero m) ≡ over.None
  prev_at_first m = ap prev_of (grown_at_first m) ∙ birth_prev (birth_of m) _ (first_prev (limits.slots - 2) (slot_of m))

  pub made_at_first : (i : Ref) → is_indirection (node_of (grown states zero i)) ≡ true → is_some (grown states zero (main_of (node_of (grown states zero i)))) ≡ true
  made_at_first i l =
      let link = birth_link (birth_of i) _ (ap (λ o. is_indirection (node_of o)) (sym (grown_at_first i)) ∙ l) in
      let main : main_of (node_of (grown states zero i)) ≡ ref_to 1 0 =
      ap (λ o. main_of (node_of o)) (grown_at_first i) ∙ link.1 ∙ first_main (limits.slots - 2) (slot_of i) link.0 in
      ap (λ r. is_some (grown states zero r)) main ∙ ap is_some (grown_at_first (ref_to 1 0))

  pub idle_at_first : (k : ℕ) → operation_of (states zero) k ≡ None
  unfolding first_state
  idle_at_first zero = refl
  idle_at_first (suc k) = ap (λ (s : State). get_or s.actors k None) first ∙ none_of limits.actors k _ refl

-- At first there is one indirection.
use Rattle.std.proofs.Common.{◌≡◌, ℕ, zero, suc, ◌-◌, ◌≤◌, ◌==◌, Bool, true, false, cond, List, [], ◌∷◌, is_some, replicate, get_or, Option, Some, None, refl, sym, ap, ◌∙◌, eqb-true, arith}
use Rattle.std.proofs.lemmas.Bool.{true≢false}
use Rattle.proof_owned.specs.Beneath.slot_arena.specs.Refs.{ref_to, slot_of, birth_of}
use Rattle.proof_owned.specs.Beneath.slot_arena.specs.declared.refs.Ref.{Ref}
use Rattle.proof_owned.specs.Beneath.slot_arena.specs.declared.nodes.Node.TheVariants.{Indirection}
use Rattle.proof_owned.specs.Beneath.slot_arena.specs.declared.nodes.Prev.TheVariants as over
use Rattle.proof_owned.specs.Beneath.slot_arena.specs.declared.nodes.Slot.{Slot}
use Rattle.proof_owned.specs.Beneath.slot_arena.specs.Heaps.{entries_of, node_of, taken, stored, empty_branch}
use Rattle.proof_owned.specs.Beneath.slot_arena.proofs.Live.{same_ref}
use Rattle.proof_owned.specs.Beneath.machine_model.specs.declared.steps.Bounds.{Bounds}
use Rattle.proof_owned.specs.Beneath.machine_model.specs.States.{State, first_heap, first_state}
use Rattle.proof_owned.specs.Beneath.machine_model.specs.Grown.{standing, of_birth, grown, node_under}
use Rattle.proof_owned.specs.Beneath.machine_model.specs.Times.{IsRun}
use Rattle.proof_owned.specs.Beneath.machine_model.proofs.Found.{none_found}
use Rattle.proof_owned.specs.Beneath.proof_memory.specs.Wants.{is_indirection}
use Rattle.proof_owned.specs.Beneath.proof_memory.proofs.Claims.Uses.{entries_same}
use Rattle.proof_owned.specs.Beneath.proof_contents.specs.Runs.{is_made}
use Rattle.proof_owned.specs.Beneath.proof_generations.proofs.Falling.Nodes.{made_same}

abbrev first_slots : ℕ → List (Option Slot)
first_slots n =
    Some (record { birth = 1; node = empty_branch; prev = over.None }) ∷ Some (record { birth = 2; node = Indirection 0 (ref_to 1 0); prev = over.None }) ∷ replicate n None

slots_at_first : (n : ℕ) → (first_heap (suc (suc n))).slots ≡ first_slots n
unfolding taken
slots_at_first n = refl

abbrev standing_in : List (Option Slot) → Ref → Option Slot
standing_in slots r = of_birth (birth_of r) (get_or slots (slot_of r) None)

standing_at_first : (n : ℕ) (r : Ref) → standing (first_heap (suc (suc n))) r ≡ standing_in (first_slots n) r
unfolding stored
standing_at_first n r = ap (λ slots. standing_in slots r) (slots_at_first n)

none_of : {X : Type 0} (n j : ℕ) (x : Option X) → get_or (replicate n None) j None ≡ x → x ≡ None
none_of n j None e = refl
none_of n j (Some y) e = absurd (none_found n j y e)

-- it stands in the second slot, under the second birth
first_link : (n b j : ℕ) → is_indirection (node_of (of_birth b (get_or (first_slots n) j None))) ≡ true → (j ≡ 1) × (b ≡ 2)
first_link n b zero e = absurd (by (1 == b) e)
  where
    by : (c : Bool) → is_indirection (node_of (cond c (Some (record { birth = 1; node = empty_branch; prev = over.None })) None)) ≡ true → ⊥
    by true e = true≢false (sym e)
    by false e = true≢false (sym e)
first_link n b (suc zero) e = (refl, sym (by (2 == b) refl e))
  where
    by : (c : Bool) → (2 == b) ≡ c → is_indirection (node_of (cond c (Some (record { birth = 2; node = Indirection 0 (ref_to 1 0); prev = over.None })) None)) ≡ true → 2 ≡ b
    by true is e = eqb-true 2 b is
    by false is e = absurd (true≢false (sym e))
first_link n b (suc (suc j)) e = absurd (true≢false (sym e ∙ ap (λ o. is_indirection (node_of (of_birth b o))) (none_of n j _ refl)))

-- and no entry anywhere
no_entries : (n b j : ℕ) → entries_of (node_of (of_birth b (get_or (first_slots n) j None))) ≡ []
no_entries n b zero = by (1 == b)
  where
    by : (c : Bool) → entries_of (node_of (cond c (Some (record { birth = 1; node = empty_branch; prev = over.None })) None)) ≡ []
    by true = refl
    by false = refl
no_entries n b (suc zero) = by (2 == b)
  where
    by : (c : Bool) → entries_of (node_of (cond c (Some (record { birth = 2; node = Indirection 0 (ref_to 1 0); prev = over.None })) None)) ≡ []
    by true = refl
    by false = refl
no_entries n b (suc (suc j)) = ap (λ o. entries_of (node_of (of_birth b o))) (none_of n j _ refl)

two_or_more : (slots : ℕ) → 2 ≤ slots → slots ≡ suc (suc (slots - 2))
two_or_more slots h = omega arith

module _ {limits : Bounds} {states : ℕ → State} {last : ℕ} (run : IsRun limits states last) where
  grown_at_first : (r : Ref) → grown states zero r ≡ standing_in (first_slots (limits.slots - 2)) r
  unfolding grown first_state
  grown_at_first r =
      ap (λ (s : State). standing s.heap r) run.first ∙ ap (λ n. standing (first_heap n) r) (two_or_more limits.slots run.limits_ok.0) ∙ standing_at_first (limits.slots - 2) r

  pub one_at_first : (i j : Ref) → is_indirection (node_under states zero i) ≡ true → is_indirection (node_under states zero j) ≡ true → i ≡ j
  one_at_first i j a b =
      let x = first_link (limits.slots - 2) (birth_of i) (slot_of i) (ap (λ o. is_indirection (node_of o)) (sym (grown_at_first i)) ∙ a) in
      let y = first_link (limits.slots - 2) (birth_of j) (slot_of j) (ap (λ o. is_indirection (node_of o)) (sym (grown_at_first j)) ∙ b) in
      same_ref i j (x.0 ∙ sym y.0) (x.1 ∙ sym y.1)

  made_empty : (m : Ref) (o : Option Slot) → grown states zero m ≡ o → is_some o ≡ true → entries_of (node_under states last m) ≡ []
  made_empty m None e made = absurd (true≢false (sym made))
  made_empty m (Some slot) e made =
      entries_same slot.node (node_under states last m) (made_same run zero (omega arith) m slot e) ∙ ap (λ o. entries_of (node_of o)) (sym e ∙ grown_at_first m)
      ∙ no_entries (limits.slots - 2) (birth_of m) (slot_of m)

  pub none_at_first : (m : Ref) → is_made states zero m ≡ true → entries_of (node_under states last m) ≡ []
  none_at_first m made = made_empty m (grown states zero m) refl made

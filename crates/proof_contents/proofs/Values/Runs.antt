-- The trie of a run: its main nodes are those of the states, whatever is made; each single's key is one of the keys.
use Rattle.std.proofs.Common.{◌≡◌, ℕ, zero, suc, ◌-◌, ◌<◌, ◌==◌, Bool, true, false, cond, List, [], ◌∷◌, ◌++◌, slice_index_or, flat_map, Contains, Option, Some, None, is_some}
use Rattle.std.proofs.Common.{refl, sym, ap, subst, ◌∙◌, arith}
use Rattle.std.proofs.lemmas.List.Elements.{Contains-append_left, Contains-append_right}
use Rattle.proof_contents.specs.Vocabulary.{slot_of, birth_of, Ref, Single, Slot, Heap, stored, node_of, empty_branch, State, standing, of_birth, or_before, grown, node_under, main_before}
use Rattle.proof_contents.specs.Runs.{is_made, main_within, counting_main, keys_of_node, keys_of_slot, keys_until}

-- ---- keys

-- a single in a slot has its key among the keys of the slots
key_in_slots : (key value : ℕ) (slots : List (Option Slot)) (n : ℕ) (slot : Slot) → slice_index_or slots n None ≡ Some slot → slot.node ≡ Single key value →
    Contains (flat_map keys_of_slot slots) key
key_in_slots key value [] n slot at is = absurd (let bad : None ≡ Some slot = at in cc)
key_in_slots key value (o ∷ slots) zero slot at is =
    Contains-append_left (keys_of_slot o) (flat_map keys_of_slot slots) key
    (subst (λ ks. Contains ks key) (sym (ap keys_of_slot at ∙ ap keys_of_node is)) (0, omega arith, refl))
key_in_slots key value (o ∷ slots) (suc n) slot at is =
    Contains-append_right (keys_of_slot o) (flat_map keys_of_slot slots) key (key_in_slots key value slots n slot at is)

standing_key : (heap : Heap) (r : Ref) (key value : ℕ) → node_of (standing heap r) ≡ Single key value → Contains (flat_map keys_of_slot heap.slots) key
unfolding stored
standing_key heap r key value is = by_slot (stored heap r) refl is
  where
    by_birth : (slot : Slot) → stored heap r ≡ Some slot → (b : Bool) → node_of (cond b (Some slot) None) ≡ Single key value → Contains (flat_map keys_of_slot heap.slots) key
    by_birth slot at true is = key_in_slots key value heap.slots (slot_of r) slot at is
    by_birth slot at false is = absurd (let bad : empty_branch ≡ Single key value = is in cc)

    by_slot : (o : Option Slot) → stored heap r ≡ o → node_of (of_birth (birth_of r) o) ≡ Single key value → Contains (flat_map keys_of_slot heap.slots) key
    by_slot None at is = absurd (let bad : empty_branch ≡ Single key value = is in cc)
    by_slot (Some slot) at is = by_birth slot at (slot.birth == birth_of r) is

module _ (states : ℕ → State) where
  -- ---- what is made stays so

  or-made : (a b : Option Slot) → is_some b ≡ true → is_some (or_before a b) ≡ true
  or-made None b e = e
  or-made (Some slot) b e = refl

  pub made_next : (t : ℕ) (r : Ref) → is_made states t r ≡ true → is_made states (suc t) r ≡ true
  unfolding grown
  made_next t r e = or-made (standing (states (suc t)).heap r) (grown states t r) e

  -- ---- main nodes

  module _ (last : ℕ) where
    -- those of what is made are those of the states
    pub counting_main-made : (t : ℕ) (i : Ref) → is_made states t i ≡ true → counting_main states last t i ≡ main_before states t i
    unfolding main_within
    counting_main-made t i e = by_left (last - t)
      where
        by_left : (left : ℕ) → main_within states t left i ≡ main_before states t i
        by_left zero = refl
        by_left (suc left) = ap (λ b. cond b (main_before states t i) (main_within states (suc t) left i)) e

    -- those of what isn't made yet are those of the next state
    pub counting_main-unmade : (t : ℕ) (i : Ref) → t < last → is_made states t i ≡ false → counting_main states last (suc t) i ≡ counting_main states last t i
    unfolding main_within
    counting_main-unmade t i lt e = ap (λ left. main_within states (suc t) left i) (omega arith) ∙ sym (ap (λ left. main_within states t left i) before ∙ once)
      where
        before : last - t ≡ suc (last - suc t)
        before = omega arith

        once : main_within states t (suc (last - suc t)) i ≡ main_within states (suc t) (last - suc t) i
        once = ap (λ b. cond b (main_before states t i) (main_within states (suc t) (last - suc t) i)) e

    -- a step that leaves an indirection that is made leaves it, made or not
    pub counting_main-stays : (t : ℕ) (i : Ref) → t < last → (is_made states t i ≡ true → main_before states (suc t) i ≡ main_before states t i) →
        counting_main states last (suc t) i ≡ counting_main states last t i
    counting_main-stays t i lt stays = by_test (is_made states t i) refl
      where
        by_test : (b : Bool) → is_made states t i ≡ b → counting_main states last (suc t) i ≡ counting_main states last t i
        by_test true e = counting_main-made (suc t) i (made_next t i e) ∙ stays e ∙ sym (counting_main-made t i e)
        by_test false e = counting_main-unmade t i lt e

    -- in the end they are those of the last state
    pub counting_main-last : (i : Ref) → counting_main states last last i ≡ main_before states last i
    unfolding main_within
    counting_main-last i =
        let none_left : last - last ≡ zero = omega arith in
        ap (λ left. main_within states last left i) none_left

  -- a single under a reference has its key among them
  pub key_until : (t : ℕ) (r : Ref) (key value : ℕ) → node_under states t r ≡ Single key value → Contains (keys_until states t) key
  unfolding grown keys_until
  key_until zero r key value is = standing_key (states zero).heap r key value is
  key_until (suc t) r key value is = by_slot (key_until t r key value) (standing (states (suc t)).heap r) refl is
    where
      by_slot : (node_of (grown states t r) ≡ Single key value → Contains (keys_until states t) key) → (o : Option Slot) → standing (states (suc t)).heap r ≡ o →
          node_of (or_before o (grown states t r)) ≡ Single key value → Contains (keys_until states t ++ flat_map keys_of_slot (states (suc t)).heap.slots) key
      by_slot rest None at is = Contains-append_left (keys_until states t) (flat_map keys_of_slot (states (suc t)).heap.slots) key (rest is)
      by_slot rest (Some slot) at is =
          Contains-append_right (keys_until states t) (flat_map keys_of_slot (states (suc t)).heap.slots) key (standing_key (states (suc t)).heap r key value (ap node_of at ∙ is))

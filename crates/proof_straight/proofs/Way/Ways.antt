-- The way down stays where only a main word below it changes.
use Rattle.std.proofs.Common.{◌≡◌, ℕ, suc, ◌<◌, ◌==◌, not, true, false, [], ◌∷◌, ◌++◌, Option, Some, None, refl, sym, ap, ◌∙◌, subst, arith}
use Rattle.std.specs.Prelude.{slice_index_or, nat_eq}
use Rattle.std.specs.Int.Bits.{and_zero_l}
use Rattle.std.specs.Option.{option_eq}
use Rattle.std.proofs.lemmas.Bool.{false≢true}
use Rattle.arrayvec.specs.ArrayVec.{ArrayVec}
use Rattle.proof_straight.specs.Vocabulary.{position_of, Access, Indirection, Branch, Slot, Ref, Heap, stored, node_of, node_at, main_at, main_of, prev_at, entries_of, bitmap_of, generation_at}
use Rattle.proof_straight.specs.Vocabulary.{no_ref, slot_of, flag_of, has_flag, passes}
use Rattle.proof_straight.specs.Places.{HasEntry, Leads, entry_for, to_root, below}
use Rattle.proof_straight.proofs.Change.Contracting.{two_slots}
use Rattle.proof_straight.proofs.Way.Descent.{path_along}
use Rattle.proof_straight.proofs.Change.Slots.{node_again, prev_stays, standing_indirection}

-- a branch that has an entry stands
flagged_stands : (heap : Heap) (r : Ref) (bitmap flag : ℕ) (entries : ArrayVec Ref) → node_at heap r ≡ Branch bitmap entries → has_flag bitmap flag ≡ true → (slot : Slot) × (stored heap r ≡ Some slot)
unfolding node_at
flagged_stands heap r bitmap flag entries is flagged = by (stored heap r) refl is
  where
    no_flag : (n : ℕ) → 0 ≡ n → has_flag n flag ≡ false
    no_flag n e = subst (λ m. has_flag m flag ≡ false) e (ap (λ m. not (m == 0)) (and_zero_l flag))

    by : (o : Option Slot) → stored heap r ≡ o → node_of o ≡ Branch bitmap entries → (slot : Slot) × (stored heap r ≡ Some slot)
    by None e same = absurd (false≢true (sym (no_flag bitmap (ap bitmap_of same)) ∙ flagged))
    by (Some slot) e same = (slot, e)

-- what the hash leads to is an indirection
pub leads_indirection : (heap : Heap) (access : Access) (hash : ℕ) (root : Ref) (depth : ℕ) (r : Ref) → Leads heap access hash root depth r →
    (generation : ℕ) × (word : Ref) × (node_at heap r ≡ Indirection generation word)
leads_indirection heap access hash root depth r (to_root {generation} {main} is) = (generation, main, is)
leads_indirection heap access hash root depth r (below {generation} {word} so_far entry is passed) = (generation, word, is)

module _ (heap after : Heap) (avoid : Ref) (old_generation : ℕ) (old_word : Ref) (avoid_is : node_at heap avoid ≡ Indirection old_generation old_word)
    (stays : (r : Ref) (slot : Slot) → stored heap r ≡ Some slot → (slot_of r ≡ slot_of avoid → ⊥) → stored after r ≡ Some slot)
    (indirections : (r : Ref) (generation : ℕ) (word : Ref) → node_at heap r ≡ Indirection generation word → (w : Ref) × (node_at after r ≡ Indirection generation w))
    (access : Access) (hash : ℕ) (root : Ref) (same_root : generation_at after root ≡ generation_at heap root) where
  -- one level
  entry_stays : (depth bitmap generation : ℕ) (above word : Ref) (entries : ArrayVec Ref) → (slot_of above ≡ slot_of avoid → ⊥) → (slot : Slot) → stored heap above ≡ Some slot →
      HasEntry heap hash depth above bitmap entries → HasEntry after hash depth above bitmap entries × (entry_for after hash depth above bitmap ≡ entry_for heap hash depth above bitmap)
  entry_stays depth bitmap generation above word entries apart slot at entry =
      let same_main = ap main_of (node_again heap after above slot at (stays above slot at apart)) in
      let main = main_at heap above in
      let (main_slot, main_stands) = flagged_stands heap main bitmap (flag_of hash depth) entries entry.branch entry.flagged in
      let kept = stays main main_slot main_stands (two_slots heap main avoid bitmap old_generation old_word entries main_slot main_stands entry.branch avoid_is) in
      let same_node = node_again heap after main main_slot main_stands kept in (
        record {
          decided = ap (prev_at after) same_main ∙ prev_stays heap after main main_slot main_stands kept ∙ entry.decided;
          branch = ap (node_at after) same_main ∙ same_node ∙ entry.branch;
          flagged = entry.flagged;
        },
        ap (λ m. slice_index_or (entries_of (node_at after m)) (position_of (flag_of hash depth) bitmap) no_ref) same_main
            ∙ ap (λ node. slice_index_or (entries_of node) (position_of (flag_of hash depth) bitmap) no_ref) same_node,
      )

  pub leads_stays : (depth : ℕ) (r : Ref) (leads : Leads heap access hash root depth r) →
      ((d : ℕ) (q : Ref) → Leads heap access hash root d q → d < depth → slot_of q ≡ slot_of avoid → ⊥) → (way : Leads after access hash root depth r) × (path_along way ≡ path_along leads)
  unfolding path_along
  leads_stays depth r (to_root {generation} {main} is) apart = let (w, now) = indirections root generation main is in (to_root now, refl)
  leads_stays depth r (below {depth = d} {bitmap} {generation} {above} {word} {entries} so_far entry is passed) apart =
      let (way, same_path) = leads_stays d above so_far (λ e q l less. apart e q l (omega (arith, less))) in
      let (g, w, above_is) = leads_indirection heap access hash root d above so_far in
      let (slot, at) = standing_indirection heap above g w above_is in
      let (entry_now, same_entry) = entry_stays d bitmap generation above word entries (apart d above so_far (omega arith)) slot at entry in
      let (new_word, is_now) = indirections (entry_for heap hash d above bitmap) generation word is in
      subst (λ q. (l : Leads after access hash root (suc d) q) × (path_along l ≡ path_along so_far ++ q ∷ [])) same_entry (
        below way entry_now (ap (node_at after) same_entry ∙ is_now) (ap (λ n. passes access (option_eq nat_eq (Some n) (Some generation))) same_root ∙ passed),
        ap (λ p. p ++ entry_for after hash d above bitmap ∷ []) same_path,
      )

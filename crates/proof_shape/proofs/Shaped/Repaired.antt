-- A branch whose entries were repaired one by one has its shape, contracted or not.
use Rattle.std.proofs.Common.{◌≡◌, ℕ, ◌+◌, ◌*◌, ◌^◌, ◌<◌, Bool, true, false, List, [], ◌∷◌, ◌++◌, length, slice_index_or, refl, sym, subst, inl, inr, arith}
use Rattle.std.proofs.lemmas.Bool.{cases_lt}
use Rattle.std.proofs.lemmas.List.{get_or_append_left, get_or_push, length-append}
use Rattle.arrayvec.specs.ArrayVec.{ArrayVec}
use Rattle.proof_shape.specs.Vocabulary.{HashKind, Ref, Branch, Single, Tomb, no_ref, entries_of, contracted, Trie, IsShaped}
use Rattle.proof_shape.specs.Beneath.proof_contents.specs.Shapes.{Fits}
use Rattle.proof_shape.specs.Beneath.proof_contents.proofs.Shapes.Builders.{refilled_shaped, contracted_shaped}
use Rattle.proof_shape.specs.Sites.Lines.{Sites, trie_at, DoneSite, entry_in}

one_item : (d : Ref) (items : List Ref) → length items ≡ 1 → items ≡ slice_index_or items 0 d ∷ []
one_item d [] e = absurd (omega (arith, e))
one_item d (x ∷ []) e = refl
one_item d (x ∷ y ∷ items) e = absurd (omega (arith, e))

-- it is a single
abbrev pub IsSingle : Trie → Ref → Type 0
IsSingle trie r = (k : ℕ) × (v : ℕ) × (trie.node r ≡ Single k v)

module _ (trie : Trie) (fits : (i : Ref) → trie.path i < 2 ^ (5 * trie.depth i)) (main : Ref) (bitmap : ℕ) (entries : ArrayVec Ref) (shape : IsShaped trie main (Branch bitmap entries)) where
  alone_made : (single : Ref) → 1 ≡ length entries.items → Fits trie main (slice_index_or entries.items 0 no_ref) single → IsSingle trie single → IsShaped trie main (Tomb single)
  alone_made single count fit (k, v, is) =
      contracted_shaped trie fits main bitmap k v entries (slice_index_or entries.items 0 no_ref) single shape (one_item no_ref entries.items (sym count)) fit is

  pub repaired_shaped : (may : Bool) (others : List Ref) → length others ≡ length entries.items →
      ((n : ℕ) → n < length others → Fits trie main (slice_index_or entries.items n no_ref) (slice_index_or others n no_ref)) →
      ((single : Ref) → may ≡ true → others ≡ single ∷ [] → IsSingle trie single) → IsShaped trie main (contracted may bitmap others)
  repaired_shaped true (single ∷ []) count fit alone = alone_made single count (fit 0 (omega arith)) (alone single refl refl)
  repaired_shaped true [] count fit alone = refilled_shaped trie fits main bitmap entries [] shape count (λ n lt. fit n (omega (arith, lt, count)))
  repaired_shaped true (x ∷ y ∷ others) count fit alone = refilled_shaped trie fits main bitmap entries (x ∷ y ∷ others) shape count (λ n lt. fit n (omega (arith, lt, count)))
  repaired_shaped false others count fit alone = refilled_shaped trie fits main bitmap entries others shape count (λ n lt. fit n (omega (arith, lt, count)))

-- one entry more is done
pub more_done : (kind : HashKind) (s : Sites) (hash : ℕ) (path : List Ref) (main : Ref) (done : List Ref) (e : Ref) →
    length done < length (entries_of (s.node main)) → DoneSite kind s hash path main done →
    Fits (trie_at kind s) main (entry_in kind s main (length done)) e → DoneSite kind s hash path main (done ++ e ∷ [])
more_done kind s hash path main done e lt d fit = (d.0, omega (arith, size, lt), each)
  where
    size : length (done ++ e ∷ []) ≡ length done + 1
    size = length-append done (e ∷ [])

    at_end : (n : ℕ) → n ≡ length done → Fits (trie_at kind s) main (entry_in kind s main n) (slice_index_or (done ++ e ∷ []) n no_ref)
    at_end n same =
        subst (λ x. Fits (trie_at kind s) main (entry_in kind s main n) x) (sym (get_or_push done e no_ref n (sym same)))
        (subst (λ m. Fits (trie_at kind s) main (entry_in kind s main m) e) (sym same) fit)

    each : (n : ℕ) → n < length (done ++ e ∷ []) → Fits (trie_at kind s) main (entry_in kind s main n) (slice_index_or (done ++ e ∷ []) n no_ref)
    each n within = elim (cases_lt n (length done)) [
      | inl inside ↦
          subst (λ x. Fits (trie_at kind s) main (entry_in kind s main n) x) (sym (get_or_append_left done (e ∷ []) no_ref n inside)) (d.2 n inside)
      | inr past ↦ at_end n (omega (arith, size, within))
    ]

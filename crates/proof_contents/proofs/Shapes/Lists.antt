-- The builders keep the shape of lists; and a main node keeps its shape for an indirection that stands for another.
use Rattle.std.proofs.Common.{◌≡◌, ◌≢◌, ℕ, zero, suc, ◌+◌, ◌*◌, ◌%◌, ◌^◌, ◌<◌, ◌==◌, Bool, true, false, List, [], ◌∷◌, ◌++◌, length, take, get_or, set, remove, slice_index_or}
use Rattle.std.proofs.Common.{refl, sym, ap, ap₂, subst, ◌∙◌, arith, eqb-true, mod-eq_of_lt, take_all, length-append, length-set}
use Rattle.std.proofs.lemmas.List.Edits.{length-remove}
use Rattle.arrayvec.specs.ArrayVec.{ArrayVec}
use Rattle.proof_contents.specs.Vocabulary.{hash_of, Ref, Node, Single, Tomb, List as Listed, no_ref, entries_from, index_in, list_inserted, list_updated, list_removed}
use Rattle.proof_contents.specs.Nodes.Looking.{Found, Absent, Has, Below, look_at, look_among, or_else}
use Rattle.proof_contents.specs.Nodes.Lists.{IsNew, AreSingles}
use Rattle.proof_contents.proofs.Nodes.Branches.{differ}
use Rattle.proof_contents.proofs.Nodes.Changes.{look-same, look-other}
use Rattle.proof_contents.proofs.Nodes.Lists.{or_else-absent, look_among-append, listed_at, set_others, remove_others}
use Rattle.proof_contents.specs.Tries.{Trie, IsShaped, branch, list, tomb}
use Rattle.proof_contents.specs.Shapes.{StandsFor}
use Rattle.proof_contents.proofs.Shapes.Nodes.{IsList, list_shape}

-- nothing is found in two where nothing is in either
none_first : (f g : Found) → or_else f g ≡ Absent → f ≡ Absent
none_first Absent g e = refl
none_first (Has v) g e = e
none_first (Below j) g e = e

none_later : (f g : Found) → or_else f g ≡ Absent → g ≡ Absent
none_later Absent g e = e
none_later (Has v) g e = absurd (let bad : Has v ≡ Absent = e in cc)
none_later (Below j) g e = absurd (let bad : Below j ≡ Absent = e in cc)

module _ (node : Ref → Node) where
  -- a key that isn't found isn't the first one's
  none_apart : (key : ℕ) (s : Ref) (singles : List Ref) → (new : IsNew node s singles) → look_among node key (s ∷ singles) ≡ Absent → new.key ≢ key
  none_apart key s singles new none same =
      let bad : Has new.value ≡ Absent =
      sym (look-same node key new.value s (new.is ∙ ap (λ k. Single k new.value) same)) ∙ none_first (look_at key s (node s)) (look_among node key singles) none in cc

  pub singles-append : (key value : ℕ) (new : Ref) (singles : List Ref) → AreSingles node singles → look_among node key singles ≡ Absent → node new ≡ Single key value →
      AreSingles node (singles ++ new ∷ [])
  singles-append key value new [] are none is = (record { key = key; value = value; is = is; none = refl }, tt)
  singles-append key value new (s ∷ singles) are none is = (
    record {
      key = are.0.key;
      value = are.0.value;
      is = are.0.is;
      none = look_among-append node are.0.key singles (new ∷ []) ∙ ap₂ or_else are.0.none
          (ap (λ f. or_else f Absent) (look-other node are.0.key key value new is (none_apart key s singles are.0 none)));
    },
    singles-append key value new singles are.1 (none_later (look_at key s (node s)) (look_among node key singles) none) is,
  )

  -- a key that is found later isn't the first one's
  found_apart : (key v : ℕ) (s : Ref) (singles : List Ref) → (new : IsNew node s singles) → look_among node key singles ≡ Has v → new.key ≢ key
  found_apart key v s singles new has same = let bad : Absent ≡ Has v = sym new.none ∙ ap (λ k. look_among node k singles) same ∙ has in cc

  pub singles-set : (p key former value : ℕ) (d new : Ref) (singles : List Ref) → AreSingles node singles → p < length singles → node (get_or singles p d) ≡ Single key former →
      node new ≡ Single key value → AreSingles node (set singles p new)
  singles-set p key former value d new [] are lt was is = tt
  singles-set zero key former value d new (s ∷ singles) are lt was is =
      let both : Single are.0.key are.0.value ≡ Single key former = sym are.0.is ∙ was in
      let key_is : are.0.key ≡ key = cc in
      (record { key = key; value = value; is = is; none = ap (λ k. look_among node k singles) (sym key_is) ∙ are.0.none }, are.1)
  singles-set (suc p) key former value d new (s ∷ singles) are lt was is =
      let apart = found_apart key former s singles are.0 (listed_at node singles p key former d are.1 (omega arith) was) in (
        record {
          key = are.0.key;
          value = are.0.value;
          is = are.0.is;
          none = set_others node singles p key former value are.0.key d new (omega arith) was is apart ∙ are.0.none;
        },
        singles-set p key former value d new singles are.1 (omega arith) was is,
      )

  pub singles-remove : (p key former : ℕ) (d : Ref) (singles : List Ref) → AreSingles node singles → p < length singles → node (get_or singles p d) ≡ Single key former →
      AreSingles node (remove singles p)
  singles-remove p key former d [] are lt was = absurd (omega arith)
  singles-remove zero key former d (s ∷ singles) are lt was = are.1
  singles-remove (suc p) key former d (s ∷ singles) are lt was =
      let apart = found_apart key former s singles are.0 (listed_at node singles p key former d are.1 (omega arith) was) in (
        record {
          key = are.0.key;
          value = are.0.value;
          is = are.0.is;
          none = remove_others node singles p key former are.0.key d (omega arith) was apart ∙ are.0.none;
        },
        singles-remove p key former d singles are.1 (omega arith) was,
      )

module _ (trie : Trie) (i : Ref) where
  module _ (singles : ArrayVec Ref) (shape : IsShaped trie i (Listed singles)) (key : ℕ) where
    s : IsList trie i singles
    s = list_shape trie i (Listed singles) singles shape refl

    -- a single more of a new key with the list's hash, where there is room
    pub list_inserted_shaped : (value : ℕ) (new : Ref) → length singles.items < 32 → look_among trie.node key singles.items ≡ Absent → trie.node new ≡ Single key value →
        hash_of trie.kind key ≡ trie.path i → IsShaped trie i (list_inserted singles.items new)
    list_inserted_shaped value new room none is led =
        list (entries_from (singles.items ++ new ∷ [])) refl
        (subst (AreSingles trie.node) (sym whole) (singles-append trie.node key value new singles.items s.are none is))
        (omega (arith, ap length whole, size)) s.deep (λ k v e. by_key k v (k == key) refl (sym (ap (look_among trie.node k) whole ∙ look_among-append trie.node k singles.items (new ∷ [])) ∙ e))
      where
        size : length (singles.items ++ new ∷ []) ≡ length singles.items + 1
        size = length-append singles.items (new ∷ [])

        whole : take 32 (singles.items ++ new ∷ []) ≡ singles.items ++ new ∷ []
        whole = take_all 32 (singles.items ++ new ∷ []) (omega (arith, size))

        by_key : (k v : ℕ) → (b : Bool) → (k == key) ≡ b → or_else (look_among trie.node k singles.items) (or_else (look_at k new (trie.node new)) Absent) ≡ Has v → hash_of trie.kind k ≡ trie.path i
        by_key k v true same e = ap (hash_of trie.kind) (eqb-true k key same) ∙ led
        by_key k v false apart e =
            s.one_hash k v (sym (ap (or_else (look_among trie.node k singles.items)) (ap (λ f. or_else f Absent) (look-other trie.node k key value new is (differ k key apart)))
            ∙ or_else-absent (look_among trie.node k singles.items)) ∙ e)

    module _ (p former : ℕ) (lt : p < length singles.items) (was : trie.node (slice_index_or singles.items p no_ref) ≡ Single key former) where
      -- its key has the list's hash
      its_hash : hash_of trie.kind key ≡ trie.path i
      its_hash = s.one_hash key former (listed_at trie.node singles.items p key former no_ref s.are lt was)

      -- another single of the same key
      pub list_updated_shaped : (value : ℕ) (new : Ref) → trie.node new ≡ Single key value → IsShaped trie i (list_updated singles.items p new)
      list_updated_shaped value new is =
          list (entries_from (set singles.items p new)) refl
          (subst (AreSingles trie.node) (sym whole) (singles-set trie.node p key former value no_ref new singles.items s.are lt was is))
          (omega (arith, ap length whole, size, s.most)) s.deep (λ k v e. by_key k v (k == key) refl (sym (ap (look_among trie.node k) whole) ∙ e))
        where
          size : length (set singles.items p new) ≡ length singles.items
          size = length-set singles.items p new

          whole : take 32 (set singles.items p new) ≡ set singles.items p new
          whole = take_all 32 (set singles.items p new) (omega (arith, size, s.most))

          by_key : (k v : ℕ) → (b : Bool) → (k == key) ≡ b → look_among trie.node k (set singles.items p new) ≡ Has v → hash_of trie.kind k ≡ trie.path i
          by_key k v true same e = ap (hash_of trie.kind) (eqb-true k key same) ∙ its_hash
          by_key k v false apart e = s.one_hash k v (sym (set_others trie.node singles.items p key former value k no_ref new lt was is (differ k key apart)) ∙ e)

      -- one less
      pub list_removed_shaped : IsShaped trie i (list_removed singles.items p)
      list_removed_shaped =
          list (entries_from (remove singles.items p)) refl
          (subst (AreSingles trie.node) (sym whole) (singles-remove trie.node p key former no_ref singles.items s.are lt was))
          (omega (arith, ap length whole, size, s.most)) s.deep (λ k v e. by_key k v (k == key) refl (sym (ap (look_among trie.node k) whole) ∙ e))
        where
          size : length (remove singles.items p) + 1 ≡ length singles.items
          size = length-remove singles.items p lt

          whole : take 32 (remove singles.items p) ≡ remove singles.items p
          whole = take_all 32 (remove singles.items p) (omega (arith, size, s.most))

          by_key : (k v : ℕ) → (b : Bool) → (k == key) ≡ b → look_among trie.node k (remove singles.items p) ≡ Has v → hash_of trie.kind k ≡ trie.path i
          by_key k v true same e = ap (hash_of trie.kind) (eqb-true k key same) ∙ its_hash
          by_key k v false apart e = s.one_hash k v (sym (remove_others trie.node singles.items p key former k no_ref lt was (differ k key apart)) ∙ e)

      -- one of them alone is fit for a tomb
      pub list_entombed_shaped : trie.path i < 2 ^ (5 * trie.depth i) → IsShaped trie i (Tomb (slice_index_or singles.items p no_ref))
      list_entombed_shaped fits =
          tomb (slice_index_or singles.items p no_ref) key former refl was (ap (λ h. h % 2 ^ (5 * trie.depth i)) its_hash ∙ mod-eq_of_lt fits)

  -- a main node keeps its shape for an indirection that stands for another
  pub shape_moves : (j : Ref) (n : Node) → StandsFor trie i j → IsShaped trie i n → IsShaped trie j n
  shape_moves j n for (branch bitmap entries places is has shallow in_place led children) =
      branch bitmap entries places is has (omega (arith, for.deep, shallow)) (λ x k v e at single. ap (λ d. index_in (hash_of trie.kind k) d) for.deep ∙ in_place x k v e at single)
      (λ x k v e at single. ap (λ d. hash_of trie.kind k % 2 ^ (5 * d)) for.deep ∙ led x k v e at single ∙ sym for.led)
      (λ x g child word at ind.
      let c = children x g child word at ind in
      record {
        deeper = c.deeper ∙ ap suc (sym for.deep);
        led = c.led ∙ ap₂ (λ p d. p + x * 2 ^ (5 * d)) (sym for.led) (sym for.deep);
        older = omega (arith, c.older, for.newer);
      })
  shape_moves j n for (list singles is are most deep one_hash) = list singles is are most (for.deep ∙ deep) (λ k v e. one_hash k v e ∙ sym for.led)
  shape_moves j n for (tomb single k v is own led) = tomb single k v is own (ap (λ d. hash_of trie.kind k % 2 ^ (5 * d)) for.deep ∙ led ∙ sym for.led)

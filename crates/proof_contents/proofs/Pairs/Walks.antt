-- What a walk finds: the pairs below each entry, whatever number of levels is allowed, make up the content.
use Rattle.std.proofs.Common.{◌≡◌, ℕ, zero, suc, ◌+◌, ◌<◌, ◌≤◌, List, [], ◌∷◌, length, flat_map, Contains, Some, refl, sym, ap, subst, ◌∙◌, arith}
use Rattle.proof_contents.specs.Vocabulary.{hash_of, ReadOnly, Entries, Count, Ref, Node, Indirection, Branch, Single, Tomb, List as Listed, entries_of, by_key}
use Rattle.proof_contents.specs.Beneath.history.specs.declared.replies.Reply.TheVariants as reply
use Rattle.proof_contents.specs.Nodes.Lists.{AreSingles}
use Rattle.proof_contents.proofs.Nodes.Tombs.{place_of}
use Rattle.proof_contents.specs.Tries.{Trie, IsShaped, branch, list, tomb, node_in, content, most_levels}
use Rattle.proof_contents.specs.Steps.{IsTrie}
use Rattle.proof_contents.specs.Effects.{act_in}
use Rattle.proof_contents.specs.Pairs.{pairs_from}
use Rattle.proof_contents.proofs.Pairs.Lists.{Pairs}
use Rattle.proof_contents.proofs.Shapes.Nodes.{child-depth}
use Rattle.proof_contents.proofs.Pairs.Shown.{reach, reach-single, reach-below, reach-other, reached_entries, reached_count}
use Rattle.proof_contents.proofs.Pairs.Heap.{flat_map-same}

module _ (trie : Trie) (ok : IsTrie trie) where
  -- an entry of an indirection's last main node is a child, or no indirection
  entry_deep : (i r : Ref) (g : ℕ) (word : Ref) → Contains (entries_of (node_in trie trie.last i)) r → trie.node r ≡ Indirection g word →
      (trie.depth r ≡ suc (trie.depth i)) × (trie.depth r ≤ 13)
  entry_deep i r g word c is = by_shape (ok.shaped trie.last i (omega arith))
    where
      of_single : (k v : ℕ) → trie.node r ≡ Single k v → (trie.depth r ≡ suc (trie.depth i)) × (trie.depth r ≤ 13)
      of_single k v e = absurd (let bad : Indirection g word ≡ Single k v = sym is ∙ e in cc)

      listed : (singles : List Ref) → AreSingles trie.node singles → Contains singles r → (trie.depth r ≡ suc (trie.depth i)) × (trie.depth r ≤ 13)
      listed [] are c = absurd (omega (arith, c.1))
      listed (s ∷ singles) are (zero, lt, e) = of_single are.0.key are.0.value (ap trie.node (sym e) ∙ are.0.is)
      listed (s ∷ singles) are (suc n, lt, e) = listed singles are.1 (n, omega arith, e)

      by_shape : IsShaped trie i (node_in trie trie.last i) → (trie.depth r ≡ suc (trie.depth i)) × (trie.depth r ≤ 13)
      by_shape (branch b es places n_is has shallow in_place led children) =
          let c' = subst (λ (l : List Ref). Contains l r) (ap entries_of n_is ∙ has.stand) c in
          let found = place_of places c'.0 r c'.1 in
          let child = children found.0 g r word (found.1 ∙ ap Some c'.2) is in
          (child.deeper, child-depth trie i found.0 r child shallow)
      by_shape (list singles n_is are most deep one_hash) = listed singles.items are (subst (λ (l : List Ref). Contains l r) (ap entries_of n_is) c)
      by_shape (tomb single k v n_is own led) = by_place (subst (λ (l : List Ref). Contains l r) (ap entries_of n_is) c)
        where
          by_place : Contains (single ∷ []) r → (trie.depth r ≡ suc (trie.depth i)) × (trie.depth r ≤ 13)
          by_place (zero, lt, e) = of_single k v (ap trie.node (sym e) ∙ own)
          by_place (suc n, lt, e) = absurd (omega arith)

  -- more levels than there are change nothing
  pub enough : (levels more : ℕ) (r : Ref) → 0 < levels → 0 < more →
      ((g : ℕ) (word : Ref) → trie.node r ≡ Indirection g word → (most_levels ≤ levels + trie.depth r) × (most_levels ≤ more + trie.depth r) × (trie.depth r ≤ 13)) →
      reach trie ok levels r ≡ reach trie ok more r
  enough zero more r pos pos' deep = absurd (omega arith)
  enough (suc levels) zero r pos pos' deep = absurd (omega arith)
  enough (suc levels) (suc more) r pos pos' deep = by_node (λ q. enough levels more q) (trie.node r) refl
    where
      by_node : ((q : Ref) → 0 < levels → 0 < more →
          ((g : ℕ) (word : Ref) → trie.node q ≡ Indirection g word → (most_levels ≤ levels + trie.depth q) × (most_levels ≤ more + trie.depth q) × (trie.depth q ≤ 13)) →
          reach trie ok levels q ≡ reach trie ok more q) → (n : Node) → trie.node r ≡ n → reach trie ok (suc levels) r ≡ reach trie ok (suc more) r
      by_node rest (Indirection g word) is =
          let d = deep g word is in
          reach-below trie ok levels g r word is
          ∙ flat_map-same (reach trie ok levels) (reach trie ok more) (entries_of (node_in trie trie.last r))
          (λ q c. rest q (omega (arith, d.0, d.2)) (omega (arith, d.1, d.2))
          (λ h w ind. let e = entry_deep r q h w c ind in (omega (arith, d.0, e.0), omega (arith, d.1, e.0), e.1)))
          ∙ sym (reach-below trie ok more g r word is)
      by_node rest (Single k v) is = reach-single trie ok levels k v r is ∙ sym (reach-single trie ok more k v r is)
      by_node rest (Branch b es) is = reach-other trie ok levels r (Branch b es) is (λ k v e. cc) (λ g w e. cc) ∙ sym (reach-other trie ok more r (Branch b es) is (λ k v e. cc) (λ g w e. cc))
      by_node rest (Tomb s) is = reach-other trie ok levels r (Tomb s) is (λ k v e. cc) (λ g w e. cc) ∙ sym (reach-other trie ok more r (Tomb s) is (λ k v e. cc) (λ g w e. cc))
      by_node rest (Listed ss) is = reach-other trie ok levels r (Listed ss) is (λ k v e. cc) (λ g w e. cc) ∙ sym (reach-other trie ok more r (Listed ss) is (λ k v e. cc) (λ g w e. cc))

  -- ---- a walk

  -- the pairs below an entry
  abbrev pub below : Ref → Pairs
  below r = pairs_from trie.node (λ i. trie.main trie.last i) most_levels r

  pub walk_single : (k v : ℕ) (r : Ref) → trie.node r ≡ Single k v → below r ≡ (k, v) ∷ []
  walk_single k v r is = reach-single trie ok 14 k v r is

  -- below an indirection: the pairs below the entries of its last main node, in order
  pub walk_below : (g : ℕ) (i word : Ref) → trie.node i ≡ Indirection g word → trie.depth i ≤ 13 → below i ≡ flat_map below (entries_of (node_in trie trie.last i))
  walk_below g i word is deep =
      enough most_levels 16 i (omega arith) (omega arith) (λ h w e. (omega arith, omega arith, deep))
      ∙ reach-below trie ok most_levels g i word is

  -- who has all pairs below the root answers rightly
  module _ (g h : ℕ) (word : Ref) (is : trie.node (trie.root g) ≡ Indirection h word) (taken : Pairs) (all : taken ≡ below (trie.root g)) where
    pub entries_reply_right : (handle : ℕ) → act_in (hash_of trie.kind) ReadOnly (Entries handle) (content trie g trie.last) ≡ Some (reply.Pairs (by_key taken), content trie g trie.last)
    entries_reply_right handle = ap (λ ps. Some (reply.Pairs ps, content trie g trie.last)) (sym (ap by_key all ∙ reached_entries trie ok g h word is))

    pub count_reply_right : (handle : ℕ) → act_in (hash_of trie.kind) ReadOnly (Count handle) (content trie g trie.last) ≡ Some (reply.Count (length taken), content trie g trie.last)
    count_reply_right handle = ap (λ n. Some (reply.Count n, content trie g trie.last)) (sym (ap length all ∙ reached_count trie ok g h word is))

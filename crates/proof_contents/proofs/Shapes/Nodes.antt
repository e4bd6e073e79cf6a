-- What the shape of a main node gives.
use Rattle.std.proofs.Common.{◌<◌, ◌≡◌, ◌≢◌, ℕ, ◌*◌, ◌^◌, ◌%◌, ◌≤◌, ◌==◌, Bool, true, false, cond, List, [], ◌∷◌, length, Option, Some, None, refl, sym, ap, subst, subst₂, ◌∙◌, arith}
use Rattle.arrayvec.specs.ArrayVec.{ArrayVec}
use Rattle.proof_contents.specs.Vocabulary.{hash_of, HashKind, Low, Fold, Wide, Block, Ref, Node, Indirection, Branch, Single, Tomb, List as Listed, index_in, list_depth}
use Rattle.proof_contents.specs.Nodes.Branches.{HasPlaces, at_place}
use Rattle.proof_contents.specs.Nodes.Looking.{Found, Absent, Has, Below, look_at, look_among, or_else}
use Rattle.proof_contents.specs.Nodes.Lists.{AreSingles}
use Rattle.proof_contents.specs.Nodes.Changing.{AreInPlace, look}
use Rattle.proof_contents.proofs.Nodes.Changes.{look_place, look_branch}
use Rattle.proof_contents.specs.Tries.{Trie, IsShaped, branch, list, tomb, IsChild}

-- an entry leads below where it is an indirection, to itself
pub below_is : (node : Ref → Node) (q : ℕ) (entry j : Ref) → look_at q entry (node entry) ≡ Below j → (entry ≡ j) × ((g : ℕ) × (word : Ref) × (node entry ≡ Indirection g word))
below_is node q entry j e = by_node (node entry) refl e
  where
    by_test : (k v : ℕ) (b : Bool) → cond b (Has v) Absent ≡ Below j → ⊥
    by_test k v true e = let bad : Has v ≡ Below j = e in cc
    by_test k v false e = let bad : Absent ≡ Below j = e in cc

    by_node : (n : Node) → node entry ≡ n → look_at q entry n ≡ Below j → (entry ≡ j) × ((g : ℕ) × (word : Ref) × (node entry ≡ Indirection g word))
    by_node (Indirection g word) is e = ((let same : Below entry ≡ Below j = e in cc), (g, word, is))
    by_node (Single k v) is e = absurd (by_test k v (k == q) e)
    by_node (Branch bitmap entries) is e = absurd (let bad : Absent ≡ Below j = e in cc)
    by_node (Tomb single) is e = absurd (let bad : Absent ≡ Below j = e in cc)
    by_node (Listed singles) is e = absurd (let bad : Absent ≡ Below j = e in cc)

-- a single doesn't
pub single_ends : (node : Ref → Node) (q k v : ℕ) (entry j : Ref) → node entry ≡ Single k v → look_at q entry (node entry) ≢ Below j
single_ends node q k v entry j is e =
    let found = below_is node q entry j e in
    let bad : Single k v ≡ Indirection found.1.0 found.1.1 = sym is ∙ found.1.2 in cc

-- an indirection leads below, whatever the key
pub leads : (node : Ref → Node) (q g : ℕ) (entry word : Ref) → node entry ≡ Indirection g word → look_at q entry (node entry) ≡ Below entry
leads node q g entry word is = ap (look_at q entry) is

-- singles of a list lead nowhere
pub singles_end : (node : Ref → Node) (q : ℕ) (j : Ref) (singles : List Ref) → AreSingles node singles → look_among node q singles ≢ Below j
singles_end node q j [] are e = let bad : Absent ≡ Below j = e in cc
singles_end node q j (s ∷ singles) are e = by_first (singles_end node q j singles are.1) (look_at q s (node s)) refl e
  where
    by_first : look_among node q singles ≢ Below j → (f : Found) → look_at q s (node s) ≡ f → or_else f (look_among node q singles) ≡ Below j → ⊥
    by_first rest Absent is e = rest e
    by_first rest (Has v) is e = let bad : Has v ≡ Below j = e in cc
    by_first rest (Below i) is e = single_ends node q are.0.key are.0.value s i are.0.is is

-- lists stand below 7 or 13 levels
pub list_depth-le : (kind : HashKind) → list_depth kind ≤ 13
list_depth-le Low = omega arith
list_depth-le Fold = omega arith
list_depth-le Wide = omega arith
list_depth-le Block = omega arith

module _ (trie : Trie) (i : Ref) where
  -- a branch's child stands no deeper
  pub child-depth : (x : ℕ) (child : Ref) → IsChild trie i x child → trie.depth i < list_depth trie.kind → trie.depth child ≤ 13
  child-depth x child c shallow = omega (arith, c.deeper, list_depth-le trie.kind)

  pub record IsBranch (bitmap : ℕ) (entries : ArrayVec Ref) : Type 0 where
    pub places : List (Option Ref)
    pub has : HasPlaces bitmap entries.items places
    pub shallow : trie.depth i < list_depth trie.kind
    pub in_place : AreInPlace trie.node (hash_of trie.kind) (trie.depth i) places
    pub led : (x key value : ℕ) (single : Ref) → at_place places x ≡ Some single → trie.node single ≡ Single key value →
        hash_of trie.kind key % 2 ^ (5 * trie.depth i) ≡ trie.path i
    pub children : (x g : ℕ) (child word : Ref) → at_place places x ≡ Some child → trie.node child ≡ Indirection g word → IsChild trie i x child

  pub record IsList (singles : ArrayVec Ref) : Type 0 where
    pub are : AreSingles trie.node singles.items
    pub most : length singles.items ≤ 32
    pub deep : trie.depth i ≡ list_depth trie.kind
    pub one_hash : (key value : ℕ) → look_among trie.node key singles.items ≡ Has value → hash_of trie.kind key ≡ trie.path i

  pub record IsTomb (single : Ref) : Type 0 where
    pub key : ℕ
    pub value : ℕ
    pub is : trie.node single ≡ Single key value
    pub led : hash_of trie.kind key % 2 ^ (5 * trie.depth i) ≡ trie.path i

  -- by what the node is
  pub branch_shape : (n : Node) (bitmap : ℕ) (entries : ArrayVec Ref) → IsShaped trie i n → n ≡ Branch bitmap entries → IsBranch bitmap entries
  branch_shape n bitmap entries (branch b es places is has shallow in_place led children) e =
      let same : Branch b es ≡ Branch bitmap entries = sym is ∙ e in
      let b_is : b ≡ bitmap = cc in
      let es_is : es ≡ entries = cc in
      record {
        places = places;
        has = subst₂ (λ (b : ℕ) (es : ArrayVec Ref). HasPlaces b es.items places) b_is es_is has;
        shallow = shallow;
        in_place = in_place;
        led = led;
        children = children;
      }
  branch_shape n bitmap entries (list singles is are most deep one_hash) e = absurd (let bad : Listed singles ≡ Branch bitmap entries = sym is ∙ e in cc)
  branch_shape n bitmap entries (tomb single key value is own led) e = absurd (let bad : Tomb single ≡ Branch bitmap entries = sym is ∙ e in cc)

  pub list_shape : (n : Node) (singles : ArrayVec Ref) → IsShaped trie i n → n ≡ Listed singles → IsList singles
  list_shape n singles (branch b es places is has shallow in_place led children) e = absurd (let bad : Branch b es ≡ Listed singles = sym is ∙ e in cc)
  list_shape n singles (list others is are most deep one_hash) e =
      let same : Listed others ≡ Listed singles = sym is ∙ e in
      let s_is : others ≡ singles = cc in
      subst (λ (s : ArrayVec Ref). IsList s) s_is (record { are = are; most = most; deep = deep; one_hash = one_hash })
  list_shape n singles (tomb single key value is own led) e = absurd (let bad : Tomb single ≡ Listed singles = sym is ∙ e in cc)

  pub tomb_shape : (n : Node) (single : Ref) → IsShaped trie i n → n ≡ Tomb single → IsTomb single
  tomb_shape n single (branch b es places is has shallow in_place led children) e = absurd (let bad : Branch b es ≡ Tomb single = sym is ∙ e in cc)
  tomb_shape n single (list singles is are most deep one_hash) e = absurd (let bad : Listed singles ≡ Tomb single = sym is ∙ e in cc)
  tomb_shape n single (tomb other key value is own led) e =
      let same : Tomb other ≡ Tomb single = sym is ∙ e in
      let s_is : other ≡ single = cc in
      subst (λ s. IsTomb s) s_is (record { key = key; value = value; is = own; led = led })

  -- what leads below is a child at the place of the key's index, and does so for each key of that index
  pub record LeadsBelow (q : ℕ) (n : Node) (j : Ref) : Type 0 where
    pub generation_ : ℕ
    pub word : Ref
    pub is : trie.node j ≡ Indirection generation_ word
    pub child : IsChild trie i (index_in (hash_of trie.kind q) (trie.depth i)) j
    pub deep : trie.depth j ≤ 13
    pub alike : (p : ℕ) → index_in (hash_of trie.kind p) (trie.depth i) ≡ index_in (hash_of trie.kind q) (trie.depth i) → look trie.node (hash_of trie.kind) (trie.depth i) p n ≡ Below j

  pub leads_below : (q : ℕ) (n : Node) (j : Ref) → IsShaped trie i n → look trie.node (hash_of trie.kind) (trie.depth i) q n ≡ Below j → LeadsBelow q n j
  leads_below q n j (branch b es places is has shallow in_place led children) e = by_place (at_place places x) refl
      (sym (look_branch trie.node q b x es places has) ∙ sym (ap (look trie.node (hash_of trie.kind) (trie.depth i) q) is) ∙ e)
    where
      x : ℕ
      x = index_in (hash_of trie.kind q) (trie.depth i)

      by_place : (o : Option Ref) → at_place places x ≡ o → look_place trie.node q o ≡ Below j → LeadsBelow q n j
      by_place None at e = absurd (let bad : Absent ≡ Below j = e in cc)
      by_place (Some entry) at e =
          let found = below_is trie.node q entry j e in
          let node_is : trie.node j ≡ Indirection found.1.0 found.1.1 = ap trie.node (sym found.0) ∙ found.1.2 in
          let at_j : at_place places x ≡ Some j = at ∙ ap Some found.0 in
          record {
            generation_ = found.1.0;
            word = found.1.1;
            is = node_is;
            child = children x found.1.0 j found.1.1 at_j node_is;
            deep = child-depth x j (children x found.1.0 j found.1.1 at_j node_is) shallow;
            alike = λ p same. ap (look trie.node (hash_of trie.kind) (trie.depth i) p) is ∙ look_branch trie.node p b (index_in (hash_of trie.kind p) (trie.depth i)) es places has
                ∙ ap (λ y. look_place trie.node p (at_place places y)) same ∙ ap (look_place trie.node p) at_j ∙ leads trie.node p found.1.0 j found.1.1 node_is;
          }
  leads_below q n j (list singles is are most deep one_hash) e =
      absurd (singles_end trie.node q j singles.items are (sym (ap (look trie.node (hash_of trie.kind) (trie.depth i) q) is) ∙ e))
  leads_below q n j (tomb single key value is own led) e =
      absurd (single_ends trie.node q key value single j own (sym (ap (look trie.node (hash_of trie.kind) (trie.depth i) q) is) ∙ e))

-- The content of a generation has the value of each key.
use Rattle.std.proofs.Common.{◌≡◌, ℕ, zero, suc, ◌==◌, Bool, true, false, cond, List, [], ◌∷◌, slice_index_or, Contains, Option, Some, None, ◌⊎◌, inl, inr, refl, sym, ap, ap₂, ◌∙◌, eqb-true}
use Rattle.std.specs.FinMap.{get}
use Rattle.proof_contents.specs.Vocabulary.{hash_of, position_of, Ref, Node, Indirection, Branch, Single, Tomb, List as Listed, no_ref, has_flag, flag_of}
use Rattle.proof_contents.specs.Nodes.Looking.{Found, Absent, Has, Below, look_at, look_among, look_in, or_else, value_by, find_at}
use Rattle.proof_contents.specs.Nodes.Changing.{look}
use Rattle.proof_contents.specs.Tries.{Trie, assigned, value_at, content, map_of, put_value, most_levels}
use Rattle.proof_contents.specs.Steps.{IsTrie}
use Rattle.proof_contents.proofs.Values.Maps.{get-map_of}
use Rattle.proof_contents.proofs.Values.Found.{found_below, found_nothing, AgreesIfBelow, agrees}

-- a value is that of a single
abbrev HasSingle : (Ref → Node) → ℕ → Type 0
HasSingle node q = (r : Ref) × (value : ℕ) × (node r ≡ Single q value)

entry_value : (node : Ref → Node) (q value : ℕ) (entry : Ref) → look_at q entry (node entry) ≡ Has value → HasSingle node q
entry_value node q value entry e = by_node (node entry) refl e
  where
    by_key : (k v : ℕ) → node entry ≡ Single k v → (b : Bool) → (k == q) ≡ b → cond b (Has v) Absent ≡ Has value → HasSingle node q
    by_key k v is true same e = (entry, v, is ∙ ap (λ n. Single n v) (eqb-true k q same))
    by_key k v is false apart e = absurd (let bad : Absent ≡ Has value = e in cc)

    by_node : (n : Node) → node entry ≡ n → look_at q entry n ≡ Has value → HasSingle node q
    by_node (Indirection g word) is e = absurd (let bad : Below entry ≡ Has value = e in cc)
    by_node (Single k v) is e = by_key k v is (k == q) refl e
    by_node (Branch bitmap entries) is e = absurd (let bad : Absent ≡ Has value = e in cc)
    by_node (Tomb single) is e = absurd (let bad : Absent ≡ Has value = e in cc)
    by_node (Listed singles) is e = absurd (let bad : Absent ≡ Has value = e in cc)

listed_value : (node : Ref → Node) (q value : ℕ) (singles : List Ref) → look_among node q singles ≡ Has value → HasSingle node q
listed_value node q value [] e = absurd (let bad : Absent ≡ Has value = e in cc)
listed_value node q value (s ∷ singles) e = by_first (listed_value node q value singles) (look_at q s (node s)) refl e
  where
    by_first : (look_among node q singles ≡ Has value → HasSingle node q) → (f : Found) → look_at q s (node s) ≡ f → or_else f (look_among node q singles) ≡ Has value → HasSingle node q
    by_first rest Absent is e = rest e
    by_first rest (Has v) is e = entry_value node q v s is
    by_first rest (Below i) is e = absurd (let bad : Below i ≡ Has value = e in cc)

looked_value : (node : Ref → Node) (flag q value : ℕ) (n : Node) → look_in node flag q n ≡ Has value → HasSingle node q
looked_value node flag q value (Branch bitmap entries) e = by_flag (has_flag bitmap flag) e
  where
    entry : Ref
    entry = slice_index_or entries.items (position_of flag bitmap) no_ref

    by_flag : (b : Bool) → cond b (look_at q entry (node entry)) Absent ≡ Has value → HasSingle node q
    by_flag true e = entry_value node q value entry e
    by_flag false e = absurd (let bad : Absent ≡ Has value = e in cc)
looked_value node flag q value (Tomb single) e = entry_value node q value single e
looked_value node flag q value (Listed singles) e = listed_value node q value singles.items e
looked_value node flag q value (Indirection g word) e = absurd (let bad : Absent ≡ Has value = e in cc)
looked_value node flag q value (Single k v) e = absurd (let bad : Absent ≡ Has value = e in cc)

pub map_of-same : (keys : List ℕ) (f h : ℕ → Option ℕ) → ((q : ℕ) → f q ≡ h q) → map_of keys f ≡ map_of keys h
map_of-same [] f h same = refl
map_of-same (key ∷ keys) f h same = ap₂ (put_value key) (same key) (map_of-same keys f h same)

module _ (trie : Trie) where
  found_value : (A : Ref → Ref) (q value levels depth : ℕ) (i : Ref) → find_at trie.node A (hash_of trie.kind) q levels depth i ≡ Some value → HasSingle trie.node q
  found_value A q value zero depth i e = absurd (let bad : None ≡ Some value = sym (found_nothing trie A q depth i) ∙ e in cc)
  found_value A q value (suc levels) depth i e =
      by_look (λ j. found_value A q value levels (suc depth) j) (look trie.node (hash_of trie.kind) depth q (trie.node (A i))) refl (sym (found_below trie A q levels depth i) ∙ e)
    where
      by_look : ((j : Ref) → find_at trie.node A (hash_of trie.kind) q levels (suc depth) j ≡ Some value → HasSingle trie.node q) → (f : Found) →
          look trie.node (hash_of trie.kind) depth q (trie.node (A i)) ≡ f → value_by (find_at trie.node A (hash_of trie.kind) q levels (suc depth)) f ≡ Some value → HasSingle trie.node q
      by_look rest Absent is e = absurd (let bad : None ≡ Some value = e in cc)
      by_look rest (Has v) is e = looked_value trie.node (flag_of (hash_of trie.kind q) depth) q v (trie.node (A i)) is
      by_look rest (Below j) is e = rest j e

  -- the content has the value of each key
  pub get-content : IsTrie trie → (g t q : ℕ) → get (content trie g t) q ≡ value_at trie g t q
  unfolding content
  get-content ok g t q = get-map_of trie.keys (value_at trie g t) q (known (value_at trie g t q) refl)
    where
      known : (o : Option ℕ) → value_at trie g t q ≡ o → (value_at trie g t q ≡ None) ⊎ Contains trie.keys q
      known None e = inl e
      known (Some v) e = let single = found_value (assigned trie g t) q v most_levels 0 (trie.root g) e in inr (ok.has_key single.0 q single.1 single.2)

  -- contents with the same values are the same
  pub same_content : (g h t u : ℕ) → ((q : ℕ) → value_at trie g t q ≡ value_at trie h u q) → content trie g t ≡ content trie h u
  unfolding content
  same_content g h t u same = map_of-same trie.keys (value_at trie g t) (value_at trie h u) same

  -- where two assignments agree at each indirection the values of a generation are the same
  pub same_values : IsTrie trie → (g t u q : ℕ) → AgreesIfBelow trie (assigned trie g t) (assigned trie g u) q → value_at trie g t q ≡ value_at trie g u q
  same_values ok g t u q each = agrees trie (assigned trie g t) (assigned trie g u) q each most_levels 0 (trie.root g) (ok.root_depth g) refl

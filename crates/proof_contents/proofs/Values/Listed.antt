-- The keys of a list's singles, and how many other keys a key's hash has where its path ends.
use Rattle.std.proofs.Common.{◌≡◌, ◌≢◌, ℕ, suc, ◌*◌, ◌-◌, ◌%◌, ◌^◌, ◌<◌, ◌≤◌, ◌==◌, ◌||◌, Bool, true, false, cond, List, [], ◌∷◌, map, length, slice_index_or, Option, Some, None}
use Rattle.std.proofs.Common.{is_some, nat_cmp, refl, sym, ap, ap₂, subst, ◌∙◌, arith, eqb-true, mod-eq_of_lt}
use Rattle.std.specs.Cmp.{unsigned_tied}
use Rattle.std.specs.Ordering.{eq_by_cmp}
use Rattle.std.specs.List.{IsDistinct, AllByRecursion}
use Rattle.std.specs.FinMap.{get}
use Rattle.std.proofs.Math.Bool.{or-true}
use Rattle.arrayvec.specs.ArrayVec.{ArrayVec}
use Rattle.proof_contents.specs.Vocabulary.{hash_of, HashKind, Low, Fold, Wide, Block, others, Ref, Node, Branch, Single, List as Listed, no_ref, position_of, list_depth, has_flag, flag_of, key_in}
use Rattle.proof_contents.specs.Beneath.ctrie_base.proofs.Fits.{low_hash-lt, fold_hash-lt, block_hash-lt}
use Rattle.proof_contents.specs.Nodes.Looking.{Found, Absent, Has, Below, look_at, look_among, look_in, or_else, value_by, find_at}
use Rattle.proof_contents.specs.Nodes.Lists.{AreSingles}
use Rattle.proof_contents.specs.Nodes.Changing.{look}
use Rattle.proof_contents.proofs.Nodes.Branches.{differ}
use Rattle.proof_contents.proofs.Nodes.Changes.{look-same, look-other}
use Rattle.proof_contents.specs.Tries.{Trie, node_in, value_at, content, assigned, On}
use Rattle.proof_contents.specs.Steps.{IsTrie, IsOwnUpdate, branch_inserts, branch_updates, branch_removes, branch_entombs, goes_beside, list_inserts, list_updates, list_removes, list_entombs}
use Rattle.proof_contents.proofs.Shapes.Nodes.{IsList, list_shape, singles_end}
use Rattle.proof_contents.proofs.Values.Paths.{on-path, on-within, on-alike}
use Rattle.proof_contents.proofs.Values.Contents.{get-content}
use Rattle.proof_contents.proofs.Changes.Updates.{value-on}
use Rattle.proof_contents.proofs.Values.Crowds.{is_among, AreDistinct, others_le, others_are}

-- ---- the keys of singles

abbrev pub keys_in : (Ref → Node) → List Ref → List ℕ
keys_in node singles = map (λ s. key_in (node s)) singles

pub length-keys_in : (node : Ref → Node) (singles : List Ref) → length (keys_in node singles) ≡ length singles
length-keys_in node [] = refl
length-keys_in node (s ∷ singles) = ap suc (length-keys_in node singles)

-- a key among them is found
among_found : (node : Ref → Node) (q : ℕ) (singles : List Ref) → AreSingles node singles → is_among (keys_in node singles) q ≡ true → (v : ℕ) × (look_among node q singles ≡ Has v)
among_found node q [] are e = absurd (let bad : false ≡ true = e in cc)
among_found node q (s ∷ singles) are e = by_first (among_found node q singles are.1) (q == are.0.key) refl
  where
    first_is : key_in (node s) ≡ are.0.key
    first_is = ap key_in are.0.is

    by_first : (is_among (keys_in node singles) q ≡ true → (v : ℕ) × (look_among node q singles ≡ Has v)) → (b : Bool) → (q == are.0.key) ≡ b →
        (v : ℕ) × (or_else (look_at q s (node s)) (look_among node q singles) ≡ Has v)
    by_first rest true same =
        (are.0.value, ap (λ f. or_else f (look_among node q singles)) (look-same node q are.0.value s (are.0.is ∙ ap (λ k. Single k are.0.value) (sym (eqb-true q are.0.key same)))))
    by_first rest false apart =
        let later : is_among (keys_in node singles) q ≡ true =
        sym (ap (λ b. b || is_among (keys_in node singles) q) (unsigned_tied q (key_in (node s)) ∙ ap (λ k. q == k) first_is ∙ apart)) ∙ e in
        let found = rest later in
        (found.0, ap₂ or_else (look-other node q are.0.key are.0.value s are.0.is (differ q are.0.key apart)) found.1)

-- a key that is found is among them
found_among : (node : Ref → Node) (q v : ℕ) (singles : List Ref) → AreSingles node singles → look_among node q singles ≡ Has v → is_among (keys_in node singles) q ≡ true
found_among node q v [] are e = absurd (let bad : Absent ≡ Has v = e in cc)
found_among node q v (s ∷ singles) are e = by_first (found_among node q v singles are.1) (q == are.0.key) refl
  where
    first_is : eq_by_cmp nat_cmp q (key_in (node s)) ≡ (q == are.0.key)
    first_is = unsigned_tied q (key_in (node s)) ∙ ap (λ k. q == k) (ap key_in are.0.is)

    by_first : (look_among node q singles ≡ Has v → is_among (keys_in node singles) q ≡ true) → (b : Bool) → (q == are.0.key) ≡ b →
        (eq_by_cmp nat_cmp q (key_in (node s)) || is_among (keys_in node singles) q) ≡ true
    by_first rest true same = ap (λ b. b || is_among (keys_in node singles) q) (first_is ∙ same)
    by_first rest false apart =
        let later : look_among node q singles ≡ Has v =
        sym (ap (λ f. or_else f (look_among node q singles)) (look-other node q are.0.key are.0.value s are.0.is (differ q are.0.key apart))) ∙ e in
        ap (λ b. eq_by_cmp nat_cmp q (key_in (node s)) || b) (rest later) ∙ or-true (eq_by_cmp nat_cmp q (key_in (node s)))

-- a key that isn't found differs from each of them
absent_apart : (node : Ref → Node) (k : ℕ) (singles : List Ref) → AreSingles node singles → look_among node k singles ≡ Absent →
    AllByRecursion (λ y. eq_by_cmp nat_cmp k y ≡ false) (keys_in node singles)
absent_apart node k [] are none = tt
absent_apart node k (s ∷ singles) are none = by_first (absent_apart node k singles are.1) (k == are.0.key) refl
  where
    first_is : eq_by_cmp nat_cmp k (key_in (node s)) ≡ (k == are.0.key)
    first_is = unsigned_tied k (key_in (node s)) ∙ ap (λ y. k == y) (ap key_in are.0.is)

    by_first : (look_among node k singles ≡ Absent → AllByRecursion (λ y. eq_by_cmp nat_cmp k y ≡ false) (keys_in node singles)) → (b : Bool) → (k == are.0.key) ≡ b →
        AllByRecursion (λ y. eq_by_cmp nat_cmp k y ≡ false) (keys_in node (s ∷ singles))
    by_first rest true same =
        absurd (let bad : Has are.0.value ≡ Absent =
        sym (ap (λ f. or_else f (look_among node k singles)) (look-same node k are.0.value s (are.0.is ∙ ap (λ y. Single y are.0.value) (sym (eqb-true k are.0.key same))))) ∙ none in cc)
    by_first rest false apart =
        (first_is ∙ apart, rest (sym (ap (λ f. or_else f (look_among node k singles)) (look-other node k are.0.key are.0.value s are.0.is (differ k are.0.key apart))) ∙ none))

singles_distinct : (node : Ref → Node) (singles : List Ref) → AreSingles node singles → AreDistinct (keys_in node singles)
unfolding IsDistinct
singles_distinct node [] are = tt
singles_distinct node (s ∷ singles) are = (
  subst (λ k. AllByRecursion (λ y. eq_by_cmp nat_cmp k y ≡ false) (keys_in node singles)) (sym (ap key_in are.0.is)) (absent_apart node are.0.key singles are.1 are.0.none),
  singles_distinct node singles are.1,
)

-- ---- hashes in lists

-- a hash has no more than the bits of all levels
pub hash-lt : (kind : HashKind) (key : ℕ) → key < 2 ^ 64 → hash_of kind key < 2 ^ (5 * list_depth kind)
hash-lt Low key fits = omega (arith, low_hash-lt key fits)
hash-lt Fold key fits = omega (arith, fold_hash-lt key fits)
hash-lt Wide key fits = omega arith
hash-lt Block key fits = omega (arith, block_hash-lt key fits)

module _ (trie : Trie) (ok : IsTrie trie) (t g key : ℕ) (i : Ref) (lt : t ≤ trie.last) (on : On trie t g key (trie.depth i) i) where
  -- a value of a key of this hash is what the main node at the path's end says
  alike_value : (q : ℕ) → hash_of trie.kind q ≡ hash_of trie.kind key →
      value_at trie g t q
      ≡ value_by (find_at trie.node (assigned trie g t) (hash_of trie.kind) q (14 - trie.depth i) (suc (trie.depth i))) (look trie.node (hash_of trie.kind) (trie.depth i) q (node_in trie t i))
  alike_value q same =
      value-on trie ok t g q (14 - trie.depth i) i lt (on-alike trie ok t g key q (trie.depth i) i lt same on)
      (let within = on-within trie ok t g key (trie.depth i) i lt on in omega arith)

  -- there are no more other keys of this hash than these, where the main node finds no others
  others_at : (ks : List ℕ) →
      ((q : ℕ) → hash_of trie.kind q ≡ hash_of trie.kind key → q ≢ key → look trie.node (hash_of trie.kind) (trie.depth i) q (node_in trie t i) ≢ Absent → is_among ks q ≡ true) →
      others (hash_of trie.kind) (content trie g t) key ≤ length ks
  others_at ks each =
      others_le (hash_of trie.kind) (content trie g t) key ks (λ q same apart has. each q same apart (λ absent.
      let none : get (content trie g t) q ≡ None =
      get-content trie ok g t q ∙ alike_value q same ∙ ap (value_by (find_at trie.node (assigned trie g t) (hash_of trie.kind) q (14 - trie.depth i) (suc (trie.depth i)))) absent in
      let bad : false ≡ true = sym (ap is_some none) ∙ has in cc))

  -- ---- at a list

  module _ (singles : ArrayVec Ref) (is : node_in trie t i ≡ Listed singles) (fits : key < 2 ^ 64) (none : look_among trie.node key singles.items ≡ Absent) where
    s : IsList trie i singles
    s = list_shape trie i (node_in trie t i) singles (ok.shaped t i lt) is

    -- all its keys have the hash of the key
    same_hash : (q v : ℕ) → look_among trie.node q singles.items ≡ Has v → hash_of trie.kind q ≡ hash_of trie.kind key
    same_hash q v e =
        s.one_hash q v e ∙ on-path trie ok t g key (trie.depth i) i lt on ∙ ap (λ d. hash_of trie.kind key % 2 ^ (5 * d)) s.deep ∙ mod-eq_of_lt (hash-lt trie.kind key fits)

    -- as many other keys have the key's hash as the list has singles
    pub others-list : others (hash_of trie.kind) (content trie g t) key ≡ length singles.items
    others-list =
        others_are (hash_of trie.kind) (content trie g t) key (keys_in trie.node singles.items) (singles_distinct trie.node singles.items s.are) each none_else
        ∙ length-keys_in trie.node singles.items
      where
        listed_value : (q : ℕ) → hash_of trie.kind q ≡ hash_of trie.kind key → get (content trie g t) q
            ≡ value_by (find_at trie.node (assigned trie g t) (hash_of trie.kind) q (14 - trie.depth i) (suc (trie.depth i))) (look_among trie.node q singles.items)
        listed_value q same =
            get-content trie ok g t q ∙ alike_value q same
            ∙ ap (λ n. value_by (find_at trie.node (assigned trie g t) (hash_of trie.kind) q (14 - trie.depth i) (suc (trie.depth i))) (look trie.node (hash_of trie.kind) (trie.depth i) q n)) is

        by_found : (q : ℕ) → (f : Found) → look_among trie.node q singles.items ≡ f →
            is_some (value_by (find_at trie.node (assigned trie g t) (hash_of trie.kind) q (14 - trie.depth i) (suc (trie.depth i))) f) ≡ true →
            is_among (keys_in trie.node singles.items) q ≡ true
        by_found q Absent e has = absurd (let bad : false ≡ true = has in cc)
        by_found q (Has v) e has = found_among trie.node q v singles.items s.are e
        by_found q (Below j) e has = absurd (singles_end trie.node q j singles.items s.are e)

        each : (q : ℕ) → hash_of trie.kind q ≡ hash_of trie.kind key → q ≢ key → is_some (get (content trie g t) q) ≡ true → is_among (keys_in trie.node singles.items) q ≡ true
        each q same apart has = by_found q (look_among trie.node q singles.items) refl (sym (ap is_some (listed_value q same)) ∙ has)

        none_else : (q : ℕ) → is_among (keys_in trie.node singles.items) q ≡ true →
            hash_of trie.kind q ≡ hash_of trie.kind key × q ≢ key × is_some (get (content trie g t) q) ≡ true
        none_else q e =
            let found = among_found trie.node q singles.items s.are e in
            let same = same_hash q found.0 found.1 in (
              same,
              (λ k. let bad : Absent ≡ Has found.0 = sym none ∙ ap (λ n. look_among trie.node n singles.items) (sym k) ∙ found.1 in cc),
              ap is_some (listed_value q same ∙ ap (value_by (find_at trie.node (assigned trie g t) (hash_of trie.kind) q (14 - trie.depth i) (suc (trie.depth i)))) found.1),
            )

  -- ---- where a key is inserted

  -- what a branch says of a key of this hash
  abbrev entry_of : ℕ → ArrayVec Ref → Ref
  entry_of bitmap entries = slice_index_or entries.items (position_of (flag_of (hash_of trie.kind key) (trie.depth i)) bitmap) no_ref

  abbrev entry_look : ℕ → ArrayVec Ref → ℕ → Found
  entry_look bitmap entries q = look_at q (entry_of bitmap entries) (trie.node (entry_of bitmap entries))

  at_flag : (bitmap : ℕ) (entries : ArrayVec Ref) → node_in trie t i ≡ Branch bitmap entries → (q : ℕ) → hash_of trie.kind q ≡ hash_of trie.kind key →
      look trie.node (hash_of trie.kind) (trie.depth i) q (node_in trie t i)
      ≡ cond (has_flag bitmap (flag_of (hash_of trie.kind key) (trie.depth i))) (entry_look bitmap entries q) Absent
  at_flag bitmap entries o q same =
      ap (look trie.node (hash_of trie.kind) (trie.depth i) q) o ∙ ap (λ h. look_in trie.node (flag_of h (trie.depth i)) q (Branch bitmap entries)) same

  -- fewer than 32 others have the key's hash
  pub has_room : (new : Node) (former now : Option ℕ) → key < 2 ^ 64 → former ≡ None → IsOwnUpdate trie g t i key (node_in trie t i) new former now →
      others (hash_of trie.kind) (content trie g t) key < 32
  has_room new former now fits no_value (branch_inserts bitmap value entries single o no_flag is n) =
      let bound : others (hash_of trie.kind) (content trie g t) key ≤ 0 =
      others_at [] (λ q same apart found. absurd (found (at_flag bitmap entries o q same ∙ ap (λ b. cond b (entry_look bitmap entries q) Absent) no_flag))) in
      omega (arith, bound)
  has_room new former now fits no_value (list_inserts value singles single o room none is n) = omega (arith, others-list singles o fits none)
  has_room new former now fits no_value (goes_beside bitmap other value own levels h entries single link word o flag entry apart is link_is sum chain n) =
      let bound : others (hash_of trie.kind) (content trie g t) key ≤ 1 =
      others_at (other ∷ [])
      (λ q same away found. by_key q (q == other) refl (λ absent. found (at_flag bitmap entries o q same ∙ ap (λ b. cond b (entry_look bitmap entries q) Absent) flag ∙ absent))) in
      omega (arith, bound)
    where
      by_key : (q : ℕ) (b : Bool) → (q == other) ≡ b → entry_look bitmap entries q ≢ Absent → is_among (other ∷ []) q ≡ true
      by_key q true same found = ap (λ b. b || false) (unsigned_tied q other ∙ same)
      by_key q false away found = absurd (found (look-other trie.node q other own (entry_of bitmap entries) entry (differ q other away)))
  has_room new former now fits no_value (branch_updates bitmap was value entries single o a b c d) = absurd (let bad : Some was ≡ None = no_value in cc)
  has_room new former now fits no_value (branch_removes bitmap was entries o a b c) = absurd (let bad : Some was ≡ None = no_value in cc)
  has_room new former now fits no_value (branch_entombs bitmap was other value entries o a b c d f) = absurd (let bad : Some was ≡ None = no_value in cc)
  has_room new former now fits no_value (list_updates p was value singles single o a b c d) = absurd (let bad : Some was ≡ None = no_value in cc)
  has_room new former now fits no_value (list_removes p was singles o a b c) = absurd (let bad : Some was ≡ None = no_value in cc)
  has_room new former now fits no_value (list_entombs p was singles o a b c d) = absurd (let bad : Some was ≡ None = no_value in cc)

-- The pairs that are reached from a root in the end are the entries of its generation's content.
use Rattle.std.proofs.Common.{◌≡◌, ◌≢◌, ℕ, zero, suc, ◌+◌, ◌*◌, ◌%◌, ◌^◌, ◌≤◌, ◌==◌, Bool, true, false, List, [], ◌∷◌, ◌++◌, length, flat_map, Option, Some, None, refl, sym, ap}
use Rattle.std.proofs.Common.{subst, ◌∙◌, arith, eqb-true, mod-eq_of_lt}
use Rattle.std.specs.FinMap.{get, entries, len}
use Rattle.proof_contents.specs.Vocabulary.{hash_of, Ref, Node, Indirection, Branch, Single, Tomb, List as Listed, entries_of, index_in, by_key}
use Rattle.proof_contents.specs.Nodes.Branches.{standing, at_place}
use Rattle.proof_contents.specs.Nodes.Looking.{Absent, Has, look_at, look_among, or_else, value_by, find_at}
use Rattle.proof_contents.specs.Nodes.Lists.{IsNew, AreSingles}
use Rattle.proof_contents.specs.Nodes.Changing.{look}
use Rattle.proof_contents.proofs.Nodes.Branches.{differ}
use Rattle.proof_contents.proofs.Nodes.Changes.{look_place, look_branch, look-same, look-other}
use Rattle.proof_contents.specs.Tries.{Trie, IsShaped, branch, list, tomb, node_in, assigned, content, value_at, most_levels}
use Rattle.proof_contents.specs.Steps.{IsTrie}
use Rattle.proof_contents.specs.Pairs.{pairs_of, pairs_from}
use Rattle.proof_contents.proofs.Pairs.Lists.{Pairs, found_in, EachKey, AreApart, each-append, each-weaker, found-first, found-later, entries_are, count_is}
use Rattle.proof_contents.proofs.Pairs.Spreads.{HaveIndex, found_at, spread-found, spread-apart, spread-each}
use Rattle.proof_contents.proofs.Values.Found.{assigned-last, found_below, agrees}
use Rattle.proof_contents.proofs.Values.Parting.{parted}
use Rattle.proof_contents.proofs.Shapes.Nodes.{child-depth}
use Rattle.proof_contents.proofs.Values.Contents.{get-content}
use Rattle.proof_contents.proofs.Changes.Repairs.{shaped_assigned, same_assigned}

module _ (trie : Trie) (ok : IsTrie trie) where
  abbrev pub last_main : Ref → Ref
  last_main i = trie.main trie.last i

  abbrev pub reach : ℕ → Ref → Pairs
  reach levels r = pairs_from trie.node last_main levels r

  -- ---- one step of reaching

  pub reach-single : (levels k v : ℕ) (r : Ref) → trie.node r ≡ Single k v → reach (suc levels) r ≡ (k, v) ∷ []
  unfolding pairs_from
  reach-single levels k v r is = ap (pairs_of (pairs_from trie.node last_main levels) trie.node last_main r) is

  pub reach-below : (levels g : ℕ) (r word : Ref) → trie.node r ≡ Indirection g word → reach (suc levels) r ≡ flat_map (reach levels) (entries_of (node_in trie trie.last r))
  unfolding pairs_from
  reach-below levels g r word is = ap (pairs_of (pairs_from trie.node last_main levels) trie.node last_main r) is

  pub reach-other : (levels : ℕ) (r : Ref) (n : Node) → trie.node r ≡ n → ((k v : ℕ) → n ≢ Single k v) → ((g : ℕ) (word : Ref) → n ≢ Indirection g word) → reach (suc levels) r ≡ []
  unfolding pairs_from
  reach-other levels r (Indirection g word) is a b = absurd (b g word refl)
  reach-other levels r (Single k v) is a b = absurd (a k v refl)
  reach-other levels r (Branch bitmap es) is a b = ap (pairs_of (pairs_from trie.node last_main levels) trie.node last_main r) is
  reach-other levels r (Tomb single) is a b = ap (pairs_of (pairs_from trie.node last_main levels) trie.node last_main r) is
  reach-other levels r (Listed singles) is a b = ap (pairs_of (pairs_from trie.node last_main levels) trie.node last_main r) is

  -- ---- what is reached below an indirection

  -- all keys have its path, none stands twice, and each is found with its value
  pub record Shows (levels : ℕ) (i : Ref) (ps : Pairs) : Type 0 where
    pub found : (q : ℕ) → found_in q ps ≡ find_at trie.node last_main (hash_of trie.kind) q levels (trie.depth i) i
    pub apart : AreApart ps
    pub led : EachKey (λ k. hash_of trie.kind k % 2 ^ (5 * trie.depth i) ≡ trie.path i) ps

  abbrev below_of : ℕ → ℕ → ℕ → Ref → Option ℕ
  below_of q levels depth = find_at trie.node last_main (hash_of trie.kind) q levels depth

  -- what is reached from an entry at a place
  record EntryShows (levels : ℕ) (i : Ref) (x : ℕ) (entry : Ref) : Type 0 where
    found : (q : ℕ) → found_in q (reach levels entry) ≡ value_by (below_of q levels (suc (trie.depth i))) (look_at q entry (trie.node entry))
    apart : AreApart (reach levels entry)
    led : EachKey (λ k. (index_in (hash_of trie.kind k) (trie.depth i) ≡ x) × (hash_of trie.kind k % 2 ^ (5 * trie.depth i) ≡ trie.path i)) (reach levels entry)

  single_shows : (levels k v q : ℕ) (r : Ref) (f : Ref → Option ℕ) → trie.node r ≡ Single k v → found_in q ((k, v) ∷ []) ≡ value_by f (look_at q r (trie.node r))
  single_shows levels k v q r f is = by_key_ (q == k) refl
    where
      by_key_ : (b : Bool) → (q == k) ≡ b → found_in q ((k, v) ∷ []) ≡ value_by f (look_at q r (trie.node r))
      by_key_ true e =
          let same = eqb-true q k e in
          ap (λ n. found_in q ((n, v) ∷ [])) (sym same) ∙ found-first q v [] ∙ sym (ap (value_by f) (look-same trie.node q v r (is ∙ ap (λ n. Single n v) (sym same))))
      by_key_ false e = found-later q k v [] (differ q k e) ∙ sym (ap (value_by f) (look-other trie.node q k v r is (differ q k e)))

  -- a list's singles
  listed_found : (levels q : ℕ) (f : Ref → Option ℕ) (singles : List Ref) → AreSingles trie.node singles →
      found_in q (flat_map (reach (suc levels)) singles) ≡ value_by f (look_among trie.node q singles)
  listed_found levels q f [] are = refl
  listed_found levels q f (s ∷ singles) are =
      ap (λ ps. found_in q (ps ++ rest)) (reach-single levels are.0.key are.0.value s are.0.is) ∙ by_test (listed_found levels q f singles are.1) (q == are.0.key) refl
    where
      rest : Pairs
      rest = flat_map (reach (suc levels)) singles

      by_test : found_in q rest ≡ value_by f (look_among trie.node q singles) → (b : Bool) → (q == are.0.key) ≡ b →
          found_in q ((are.0.key, are.0.value) ∷ rest) ≡ value_by f (or_else (look_at q s (trie.node s)) (look_among trie.node q singles))
      by_test later true e =
          let same = eqb-true q are.0.key e in
          ap (λ n. found_in q ((n, are.0.value) ∷ rest)) (sym same) ∙ found-first q are.0.value rest
          ∙ sym (ap (λ n. value_by f (or_else n (look_among trie.node q singles))) (look-same trie.node q are.0.value s (are.0.is ∙ ap (λ n. Single n are.0.value) (sym same))))
      by_test later false e =
          found-later q are.0.key are.0.value rest (differ q are.0.key e) ∙ later
          ∙ sym (ap (λ n. value_by f (or_else n (look_among trie.node q singles))) (look-other trie.node q are.0.key are.0.value s are.0.is (differ q are.0.key e)))

  -- a key of the later singles isn't the first one's
  later_apart : (s : Ref) (singles : List Ref) (k v : ℕ) → (new : IsNew trie.node s singles) → look_among trie.node k singles ≡ Has v → k ≢ new.key
  later_apart s singles k v new e same = let bad : Has v ≡ Absent = sym e ∙ ap (λ n. look_among trie.node n singles) same ∙ new.none in cc

  listed_each : (levels : ℕ) (P : ℕ → Type 0) (singles : List Ref) → AreSingles trie.node singles → ((k v : ℕ) → look_among trie.node k singles ≡ Has v → P k) →
      EachKey P (flat_map (reach (suc levels)) singles)
  listed_each levels P [] are h = tt
  listed_each levels P (s ∷ singles) are h =
      each-append P (reach (suc levels) s) (flat_map (reach (suc levels)) singles)
      (subst (λ ps. EachKey P ps) (sym (reach-single levels are.0.key are.0.value s are.0.is))
      (h are.0.key are.0.value (ap (λ n. or_else n (look_among trie.node are.0.key singles)) (look-same trie.node are.0.key are.0.value s are.0.is)), tt))
      (listed_each levels P singles are.1 (λ k v e. h k v
      (ap (λ n. or_else n (look_among trie.node k singles)) (look-other trie.node k are.0.key are.0.value s are.0.is (later_apart s singles k v are.0 e)) ∙ e)))

  listed_apart : (levels : ℕ) (singles : List Ref) → AreSingles trie.node singles → AreApart (flat_map (reach (suc levels)) singles)
  listed_apart levels [] are = tt
  listed_apart levels (s ∷ singles) are =
      subst (λ ps. AreApart (ps ++ flat_map (reach (suc levels)) singles)) (sym (reach-single levels are.0.key are.0.value s are.0.is))
      (listed_each levels (λ k. k ≢ are.0.key) singles are.1 (λ k v e. later_apart s singles k v are.0 e), listed_apart levels singles are.1)

  -- every indirection shows what is found below it
  pub shows : (levels : ℕ) (i : Ref) (g : ℕ) (word : Ref) → levels + trie.depth i ≡ most_levels → trie.depth i ≤ 13 → trie.node i ≡ Indirection g word → Shows levels i (reach levels i)
  shows zero i g word sum deep is = absurd (omega arith)
  shows (suc zero) i g word sum deep is = absurd (omega arith)
  shows (suc (suc levels)) i g word sum deep is = by_shape (λ child h w. shows (suc levels) child h w) (ok.shaped trie.last i (omega arith))
    where
      n : Node
      n = node_in trie trie.last i

      d : ℕ
      d = trie.depth i

      index : ℕ → ℕ
      index q = index_in (hash_of trie.kind q) d

      -- in terms of the main node's entries
      of_entries : (es : List Ref) → entries_of n ≡ es →
          ((q : ℕ) → found_in q (flat_map (reach (suc levels)) es) ≡ value_by (below_of q (suc levels) (suc d)) (look trie.node (hash_of trie.kind) d q n)) →
          AreApart (flat_map (reach (suc levels)) es) → EachKey (λ k. hash_of trie.kind k % 2 ^ (5 * d) ≡ trie.path i) (flat_map (reach (suc levels)) es) →
          Shows (suc (suc levels)) i (reach (suc (suc levels)) i)
      of_entries es at found apart led =
          let ps : reach (suc (suc levels)) i ≡ flat_map (reach (suc levels)) es = reach-below (suc levels) g i word is ∙ ap (flat_map (reach (suc levels))) at in
          record {
            found = λ q. ap (found_in q) ps ∙ found q ∙ sym (found_below trie last_main q (suc levels) d i);
            apart = subst (λ l. AreApart l) (sym ps) apart;
            led = subst (λ l. EachKey (λ k. hash_of trie.kind k % 2 ^ (5 * d) ≡ trie.path i) l) (sym ps) led;
          }

      by_shape : ((child : Ref) (h : ℕ) (w : Ref) → suc levels + trie.depth child ≡ most_levels → trie.depth child ≤ 13 → trie.node child ≡ Indirection h w →
          Shows (suc levels) child (reach (suc levels) child)) → IsShaped trie i n → Shows (suc (suc levels)) i (reach (suc (suc levels)) i)
      by_shape rest (branch b es places n_is has shallow in_place leads_to children) =
          of_entries (standing places) (ap entries_of n_is ∙ has.stand) found (spread-apart (reach (suc levels)) index 0 places have (λ x e at. (entry x e at).apart))
          (spread-each (reach (suc levels)) index (λ k. hash_of trie.kind k % 2 ^ (5 * d) ≡ trie.path i) places
          (λ x e at. each-weaker (λ k. (index_in (hash_of trie.kind k) d ≡ x) × (hash_of trie.kind k % 2 ^ (5 * d) ≡ trie.path i)) (λ k. hash_of trie.kind k % 2 ^ (5 * d) ≡ trie.path i)
          (λ k both. both.1) (reach (suc levels) e) (entry x e at).led))
        where
          entry : (x : ℕ) (e : Ref) → at_place places x ≡ Some e → EntryShows (suc levels) i x e
          entry x e at = by_node (trie.node e) refl
            where
              other : (m : Node) → trie.node e ≡ m → ((k v : ℕ) → m ≢ Single k v) → ((h : ℕ) (w : Ref) → m ≢ Indirection h w) → ((q : ℕ) → look_at q e m ≡ Absent) → EntryShows (suc levels) i x e
              other m is_m a c absent =
                  let ps = reach-other levels e m is_m a c in
                  record {
                    found = λ q. ap (found_in q) ps ∙ sym (ap (value_by (below_of q (suc levels) (suc d))) (ap (look_at q e) is_m ∙ absent q));
                    apart = subst (λ l. AreApart l) (sym ps) tt;
                    led = subst (λ l. EachKey (λ k. (index_in (hash_of trie.kind k) d ≡ x) × (hash_of trie.kind k % 2 ^ (5 * d) ≡ trie.path i)) l) (sym ps) tt;
                  }

              by_node : (m : Node) → trie.node e ≡ m → EntryShows (suc levels) i x e
              by_node (Single k v) is_m =
                  let ps = reach-single levels k v e is_m in
                  record {
                    found = λ q. ap (found_in q) ps ∙ single_shows levels k v q e (below_of q (suc levels) (suc d)) is_m;
                    apart = subst (λ l. AreApart l) (sym ps) (tt, tt);
                    led = subst (λ l. EachKey (λ k. (index_in (hash_of trie.kind k) d ≡ x) × (hash_of trie.kind k % 2 ^ (5 * d) ≡ trie.path i)) l) (sym ps)
                        ((in_place x k v e at is_m, leads_to x k v e at is_m), tt);
                  }
              by_node (Indirection h w) is_m =
                  let c = children x h e w at is_m in
                  let s = rest e h w (omega (arith, c.deeper)) (child-depth trie i x e c shallow) is_m in
                  record {
                    found = λ q. s.found q ∙ ap (λ n. below_of q (suc levels) n e) c.deeper ∙ sym (ap (value_by (below_of q (suc levels) (suc d))) (ap (look_at q e) is_m));
                    apart = s.apart;
                    led = each-weaker (λ k. hash_of trie.kind k % 2 ^ (5 * trie.depth e) ≡ trie.path e)
                        (λ k. (index_in (hash_of trie.kind k) d ≡ x) × (hash_of trie.kind k % 2 ^ (5 * d) ≡ trie.path i))
                        (λ k led. parted trie ok.path_fits i e x k c led) (reach (suc levels) e) s.led;
                  }
              by_node (Branch bitmap es) is_m = other (Branch bitmap es) is_m (λ k v bad. cc) (λ h w bad. cc) (λ q. refl)
              by_node (Tomb single) is_m = other (Tomb single) is_m (λ k v bad. cc) (λ h w bad. cc) (λ q. refl)
              by_node (Listed singles) is_m = other (Listed singles) is_m (λ k v bad. cc) (λ h w bad. cc) (λ q. refl)

          have : HaveIndex (reach (suc levels)) index 0 places
          have x e at =
              each-weaker (λ k. (index_in (hash_of trie.kind k) d ≡ x) × (hash_of trie.kind k % 2 ^ (5 * d) ≡ trie.path i)) (λ k. index k ≡ 0 + x) (λ k both. omega (arith, both.0))
              (reach (suc levels) e) (entry x e at).led

          found : (q : ℕ) → found_in q (flat_map (reach (suc levels)) (standing places)) ≡ value_by (below_of q (suc levels) (suc d)) (look trie.node (hash_of trie.kind) d q n)
          found q =
              spread-found (reach (suc levels)) index 0 q (index q) places have (omega arith) ∙ by_place (at_place places (index q)) refl
              ∙ sym (ap (value_by (below_of q (suc levels) (suc d))) (ap (look trie.node (hash_of trie.kind) d q) n_is ∙ look_branch trie.node q b (index q) es places has))
            where
              by_place : (o : Option Ref) → at_place places (index q) ≡ o → found_at (reach (suc levels)) index q o ≡ value_by (below_of q (suc levels) (suc d)) (look_place trie.node q o)
              by_place None at = refl
              by_place (Some e) at = (entry (index q) e at).found q
      by_shape rest (list singles n_is are most at_depth one_hash) =
          of_entries singles.items (ap entries_of n_is)
          (λ q. listed_found levels q (below_of q (suc levels) (suc d)) singles.items are ∙ sym (ap (λ m. value_by (below_of q (suc levels) (suc d)) (look trie.node (hash_of trie.kind) d q m)) n_is))
          (listed_apart levels singles.items are)
          (listed_each levels (λ k. hash_of trie.kind k % 2 ^ (5 * d) ≡ trie.path i) singles.items are (λ k v e.
          let same = one_hash k v e in
          ap (λ h. h % 2 ^ (5 * d)) same ∙ mod-eq_of_lt (ok.path_fits i)))
      by_shape rest (tomb single k v n_is own led) =
          of_entries (single ∷ []) (ap entries_of n_is)
          (λ q. ap (λ ps. found_in q (ps ++ [])) (reach-single levels k v single own) ∙ single_shows levels k v q single (below_of q (suc levels) (suc d)) own
          ∙ sym (ap (λ m. value_by (below_of q (suc levels) (suc d)) (look trie.node (hash_of trie.kind) d q m)) n_is))
          (subst (λ ps. AreApart (ps ++ [])) (sym (reach-single levels k v single own)) (tt, tt))
          (subst (λ ps. EachKey (λ k. hash_of trie.kind k % 2 ^ (5 * d) ≡ trie.path i) (ps ++ [])) (sym (reach-single levels k v single own)) (led, tt))

  -- ---- a root

  last_value : (g q : ℕ) → find_at trie.node last_main (hash_of trie.kind) q most_levels 0 (trie.root g) ≡ value_at trie g trie.last q
  last_value g q =
      agrees trie last_main (assigned trie g trie.last) q
      (λ levels i sum below. same_assigned trie ok last_main (assigned trie g trie.last) q levels i (shaped_assigned trie ok g trie.last i (omega arith)) (sym (assigned-last trie g i)) below)
      most_levels 0 (trie.root g) (ok.root_depth g) refl

  module _ (g h : ℕ) (word : Ref) (is : trie.node (trie.root g) ≡ Indirection h word) where
    root_shows : Shows most_levels (trie.root g) (reach most_levels (trie.root g))
    root_shows = shows most_levels (trie.root g) h word (omega (arith, ok.root_depth g)) (omega (arith, ok.root_depth g)) is

    root_found : (q : ℕ) → found_in q (reach most_levels (trie.root g)) ≡ get (content trie g trie.last) q
    root_found q =
        root_shows.found q ∙ ap (λ d. find_at trie.node last_main (hash_of trie.kind) q most_levels d (trie.root g)) (ok.root_depth g)
        ∙ last_value g q ∙ sym (get-content trie ok g trie.last q)

    -- sorted, they are the entries of the content
    pub reached_entries : by_key (pairs_from trie.node (λ i. trie.main trie.last i) most_levels (trie.root g)) ≡ entries (content trie g trie.last)
    reached_entries = entries_are (content trie g trie.last) (reach most_levels (trie.root g)) root_shows.apart root_found

    -- and as many
    pub reached_count : length (pairs_from trie.node (λ i. trie.main trie.last i) most_levels (trie.root g)) ≡ len (content trie g trie.last)
    reached_count = count_is (content trie g trie.last) (reach most_levels (trie.root g)) root_shows.apart root_found

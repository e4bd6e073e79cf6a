-- An own update of a key changes the value of that key in its generation, and nothing else.
use Rattle.std.proofs.Common.{◌≡◌, ◌≢◌, ℕ, suc, ◌+◌, ◌-◌, ◌<◌, ◌≤◌, ◌==◌, Bool, true, false, Option, Some, None, ◌⊎◌, inl, inr, refl, sym, ap, ap₂, subst, ◌∙◌, arith, eqb-true}
use Rattle.proof_contents.specs.Vocabulary.{hash_of, Ref, Node, index_in}
use Rattle.proof_contents.specs.Nodes.Looking.{look_at, or_else, value_by, find_at, value_in}
use Rattle.proof_contents.specs.Nodes.Changing.{look}
use Rattle.proof_contents.proofs.Nodes.Branches.{differ}
use Rattle.proof_contents.proofs.Nodes.Changes.{look-same, look-other}
use Rattle.proof_contents.proofs.Nodes.Lists.{or_else-absent}
use Rattle.proof_contents.proofs.Nodes.Chains.{chain_says}
use Rattle.proof_contents.specs.Tries.{Trie, generation, node_in, assigned, value_at, On, at_root, at_below, IsTombed, most_levels}
use Rattle.proof_contents.specs.Steps.{IsOwnUpdate, LeavesOthers, IsTrie}
use Rattle.proof_contents.proofs.Values.Found.{value_by-same, assigned-own, assigned-still, found_below, Agrees, AgreesIfBelow}
use Rattle.proof_contents.proofs.Shapes.Nodes.{single_ends}
use Rattle.proof_contents.proofs.Changes.Updating.{HasUpdated, changes, beside, IsBeside, has_updated, found_of}
use Rattle.proof_contents.proofs.Values.Paths.{on-generation, on-depth, on-within, path_lasts, update_of_tomb}
use Rattle.proof_contents.proofs.Values.Contents.{same_values}
use Rattle.proof_contents.proofs.Changes.Repairs.{shaped_assigned, same_node, same_assigned}

-- a value that is found is the value, whatever is below
pub value_of-found : (f : Ref → Option ℕ) (o : Option ℕ) → value_by f (found_of o) ≡ o
value_of-found f None = refl
value_of-found f (Some v) = refl

module _ (trie : Trie) (ok : IsTrie trie) where
  -- a path above the indirection that is changed stays
  on_suc : (t g q depth : ℕ) (i k : Ref) → t ≤ trie.last → LeavesOthers trie t k → depth ≤ trie.depth k → On trie t g q depth i → On trie (suc t) g q depth i
  on_suc t g q depth i k lt others le (at_root e) = at_root e
  on_suc t g q depth i k lt others le (at_below depth' above below on led e) =
      let away : above ≢ k = λ same. omega (arith, on-depth trie ok t g q depth' above lt on, ap trie.depth same) in
      at_below depth' above below (on_suc t g q depth' above k lt others (omega arith) on)
      (ap (λ m. look trie.node (hash_of trie.kind) depth' q (trie.node m)) (others above away) ∙ led) e

  -- the value of a key is what is found on its path
  pub found-on : (t g q levels depth : ℕ) (i : Ref) → On trie t g q depth i → levels + depth ≡ most_levels →
      value_at trie g t q ≡ find_at trie.node (assigned trie g t) (hash_of trie.kind) q levels depth i
  found-on t g q levels depth i (at_root e) sum = ap (λ l. find_at trie.node (assigned trie g t) (hash_of trie.kind) q l 0 (trie.root g)) (omega arith)
  found-on t g q levels depth i (at_below depth' above below on led e) sum =
      found-on t g q (suc levels) depth' above on (omega arith)
      ∙ found_below trie (assigned trie g t) q levels depth' above
      ∙ ap (λ m. value_in trie.node (assigned trie g t) (hash_of trie.kind) q levels depth' (trie.node m)) (assigned-own trie g t above (on-generation trie ok t g q depth' above on))
      ∙ ap (value_by (find_at trie.node (assigned trie g t) (hash_of trie.kind) q levels (suc depth'))) led

  -- at an indirection on the path: what its main node says
  pub value-on : (t g q levels : ℕ) (i : Ref) → t ≤ trie.last → On trie t g q (trie.depth i) i → suc levels + trie.depth i ≡ most_levels →
      value_at trie g t q ≡ value_in trie.node (assigned trie g t) (hash_of trie.kind) q levels (trie.depth i) (node_in trie t i)
  value-on t g q levels i lt on sum =
      found-on t g q (suc levels) (trie.depth i) i on sum ∙ found_below trie (assigned trie g t) q levels (trie.depth i) i
      ∙ ap (λ m. value_in trie.node (assigned trie g t) (hash_of trie.kind) q levels (trie.depth i) (trie.node m))
      (assigned-own trie g t i (on-generation trie ok t g q (trie.depth i) i on))

  module _ (t : ℕ) (i : Ref) (key : ℕ) (former now : Option ℕ) (lt : t < trie.last) (others : LeavesOthers trie t i) where
    abbrev g : ℕ
    g = generation trie i

    abbrev A : Ref → Ref
    A = assigned trie g (suc t)

    abbrev B : Ref → Ref
    B = assigned trie g t

    abbrev old : Node
    old = node_in trie t i

    abbrev new : Node
    new = node_in trie (suc t) i

    -- what the chain to the two singles gives
    chain_gives : (value : ℕ) → (c : IsBeside trie g t i key old new value) → (q : ℕ) →
        find_at trie.node A (hash_of trie.kind) q c.levels (suc (trie.depth i)) c.link
        ≡ value_by (λ r. None) (or_else (look_at q c.entry (trie.node c.entry)) (look_at q c.single (trie.node c.single)))
    chain_gives value c q =
        chain_says trie.node trie.kind c.other key c.entry c.single c.own value c.entry_is c.single_is A c.levels (suc (trie.depth i)) c.link q c.apart c.chain

    other_gives : (q levels : ℕ) → suc levels + trie.depth i ≡ most_levels → q ≢ key → HasUpdated trie g t i key old new former now →
        ((j : Ref) → trie.depth j ≡ suc (trie.depth i) → Agrees trie A B q levels (suc (trie.depth i)) j) →
        value_in trie.node A (hash_of trie.kind) q levels (trie.depth i) new ≡ value_in trie.node B (hash_of trie.kind) q levels (trie.depth i) old
    other_gives q levels sum apart (changes c) below = same_node trie ok A B q levels i new old (ok.shaped t i (omega arith)) (c.others q apart) below
    other_gives q levels sum apart (beside value f n c) below = by_index (index q == index key) refl
      where
        index : ℕ → ℕ
        index p = index_in (hash_of trie.kind p) (trie.depth i)

        by_index : (b : Bool) → (index q == index key) ≡ b →
            value_in trie.node A (hash_of trie.kind) q levels (trie.depth i) new ≡ value_in trie.node B (hash_of trie.kind) q levels (trie.depth i) old
        by_index true same =
            let at = eqb-true (index q) (index key) same in
            ap (value_by (find_at trie.node A (hash_of trie.kind) q levels (suc (trie.depth i)))) (c.is q at)
            ∙ ap (λ l. find_at trie.node A (hash_of trie.kind) q l (suc (trie.depth i)) c.link) (omega (arith, c.sum))
            ∙ chain_gives value c q
            ∙ ap (value_by (λ r. None)) (ap (or_else (look_at q c.entry (trie.node c.entry))) (look-other trie.node q key value c.single c.single_is apart)
            ∙ or_else-absent (look_at q c.entry (trie.node c.entry)))
            ∙ value_by-same (λ r. None) (find_at trie.node B (hash_of trie.kind) q levels (suc (trie.depth i))) (look_at q c.entry (trie.node c.entry))
            (λ j e. absurd (single_ends trie.node q c.other c.own c.entry j c.entry_is e))
            ∙ sym (ap (value_by (find_at trie.node B (hash_of trie.kind) q levels (suc (trie.depth i)))) (c.was q at))
        by_index false away =
            same_node trie ok A B q levels i new old (ok.shaped t i (omega arith)) (c.elsewhere q (differ (index q) (index key) away)) below

    -- other keys keep their values
    pub others_stay : HasUpdated trie g t i key old new former now → (q : ℕ) → q ≢ key → AgreesIfBelow trie A B q
    others_stay u q apart levels j sum below = by_test (j == i) refl
      where
        by_test : (b : Bool) → (j == i) ≡ b →
            value_in trie.node A (hash_of trie.kind) q levels (trie.depth j) (trie.node (A j)) ≡ value_in trie.node B (hash_of trie.kind) q levels (trie.depth j) (trie.node (B j))
        by_test true same =
            let at = eqb-true j i same in
            subst (λ k. value_in trie.node A (hash_of trie.kind) q levels (trie.depth k) (trie.node (A k)) ≡ value_in trie.node B (hash_of trie.kind) q levels
            (trie.depth k) (trie.node (B k))) (sym at)
            (ap (λ m. value_in trie.node A (hash_of trie.kind) q levels (trie.depth i) (trie.node m)) (assigned-own trie g (suc t) i refl)
            ∙ other_gives q levels (omega (arith, ap trie.depth at)) apart u
            (λ k deeper. subst (λ d. Agrees trie A B q levels (suc d) k) (ap trie.depth at) (below k (deeper ∙ ap (λ n. suc (trie.depth n)) (sym at))))
            ∙ sym (ap (λ m. value_in trie.node B (hash_of trie.kind) q levels (trie.depth i) (trie.node m)) (assigned-own trie g t i refl)))
        by_test false other =
            same_assigned trie ok A B q levels j (shaped_assigned trie ok g t j (omega arith)) (assigned-still trie g (suc t) t j (others j (differ j i other))) below

    -- the key had its former value
    key_had : (levels : ℕ) → suc levels + trie.depth i ≡ most_levels → On trie t g key (trie.depth i) i → HasUpdated trie g t i key old new former now → value_at trie g t key ≡ former
    key_had levels sum on (changes c) =
        value-on t g key levels i (omega arith) on sum ∙ ap (value_by (find_at trie.node B (hash_of trie.kind) key levels (suc (trie.depth i)))) c.before
        ∙ value_of-found (find_at trie.node B (hash_of trie.kind) key levels (suc (trie.depth i))) former
    key_had levels sum on (beside value f n c) =
        value-on t g key levels i (omega arith) on sum ∙ ap (value_by (find_at trie.node B (hash_of trie.kind) key levels (suc (trie.depth i)))) c.before ∙ sym f

    -- and has the new one
    key_has : (levels : ℕ) → suc levels + trie.depth i ≡ most_levels → On trie (suc t) g key (trie.depth i) i → HasUpdated trie g t i key old new former now →
        value_at trie g (suc t) key ≡ now
    key_has levels sum on (changes c) =
        value-on (suc t) g key levels i lt on sum ∙ ap (value_by (find_at trie.node A (hash_of trie.kind) key levels (suc (trie.depth i)))) c.after
        ∙ value_of-found (find_at trie.node A (hash_of trie.kind) key levels (suc (trie.depth i))) now
    key_has levels sum on (beside value f n c) =
        value-on (suc t) g key levels i lt on sum ∙ ap (value_by (find_at trie.node A (hash_of trie.kind) key levels (suc (trie.depth i)))) (c.is key refl)
        ∙ ap (λ l. find_at trie.node A (hash_of trie.kind) key l (suc (trie.depth i)) c.link) (omega (arith, c.sum))
        ∙ chain_gives value c key
        ∙ ap (value_by (λ r. None)) (ap₂ or_else (look-other trie.node key c.other c.own c.entry c.entry_is (λ same. c.apart (sym same))) (look-same trie.node key value c.single c.single_is))
        ∙ sym n

    -- The values of a generation before and after.
    pub record ChangesValue : Type 0 where
      pub had : value_at trie g t key ≡ former
      pub has : value_at trie g (suc t) key ≡ now
      pub stay : (q : ℕ) → q ≢ key → value_at trie g (suc t) q ≡ value_at trie g t q

    pub update_changes : (u : ℕ) → u ≤ t → On trie u g key (trie.depth i) i → IsOwnUpdate trie g t i key old new former now → ChangesValue
    update_changes u le on is = by_path (path_lasts trie ok u t g key (trie.depth i) i le (omega arith) on)
      where
        by_path : On trie t g key (trie.depth i) i ⊎ IsTombed trie t i → ChangesValue
        by_path (inr (single, tomb)) = absurd (update_of_tomb trie ok g t key i single old new former now is tomb)
        by_path (inl on') =
            let within = on-within trie ok t g key (trie.depth i) i (omega arith) on' in
            let sum : suc (14 - trie.depth i) + trie.depth i ≡ most_levels = omega arith in
            let updated = has_updated trie g t i key old new former now (ok.shaped t i (omega arith)) is in
            record {
              had = key_had (14 - trie.depth i) sum on' updated;
              has = key_has (14 - trie.depth i) sum (on_suc t g key (trie.depth i) i i (omega arith) others (omega arith) on') updated;
              stay = λ q apart. same_values trie ok g (suc t) t q (others_stay updated q apart);
            }

-- The values of keys below a root, before the last step of a trie and after it.
use Rattle.std.proofs.Common.{◌≡◌, ℕ, suc, ◌<◌, ◌==◌, Bool, true, false, cond, Option, refl, sym, ap, ◌∙◌, arith}
use Rattle.proof_updates.specs.Vocabulary.{hash_of, Ref, find_at, Trie, generation, node_in, assigned, IsRepair, LeavesOthers}
use Rattle.proof_updates.specs.Beneath.proof_contents.proofs.Nodes.Branches.{differ}
use Rattle.proof_updates.specs.Beneath.proof_contents.specs.Tries.{most_levels}
use Rattle.proof_updates.specs.Beneath.proof_contents.specs.Steps.{IsTrie}
use Rattle.proof_updates.specs.Beneath.proof_contents.proofs.Values.Found.{agrees}
use Rattle.proof_updates.specs.Beneath.proof_contents.proofs.Changes.Repairs.{repair_stays}
use Rattle.proof_updates.proofs.Handles.Finding.{found_alike}

-- the value of a key below a root before step t
abbrev pub value_below : Trie → ℕ → Ref → ℕ → Option ℕ
value_below trie t root key = find_at trie.node (trie.main t) (hash_of trie.kind) key most_levels 0 root

module _ (trie : Trie) (ok : IsTrie trie) (t : ℕ) (end : trie.last ≡ suc t) where
  -- a step that leaves all main nodes leaves all values
  pub nothing_below : ((i : Ref) → trie.main (suc t) i ≡ trie.main t i) → (root : Ref) (key : ℕ) → value_below trie (suc t) root key ≡ value_below trie t root key
  nothing_below same root key = found_alike trie.node (hash_of trie.kind) key (trie.main (suc t)) (trie.main t) same most_levels 0 root

  module _ (i : Ref) (others : LeavesOthers trie t i) where
    -- by the generation of what is changed, each main node is the one of its time
    now_assigned : (j : Ref) → assigned trie (generation trie i) (suc t) j ≡ trie.main (suc t) j
    now_assigned j = by_test (generation trie j == generation trie i)
      where
        by_test : (b : Bool) → cond b (trie.main (suc t) j) (trie.main trie.last j) ≡ trie.main (suc t) j
        by_test true = refl
        by_test false = ap (λ n. trie.main n j) end

    before_assigned : (j : Ref) → assigned trie (generation trie i) t j ≡ trie.main t j
    before_assigned j = by_test (generation trie j == generation trie i) refl
      where
        by_test : (b : Bool) → (generation trie j == generation trie i) ≡ b → cond b (trie.main t j) (trie.main trie.last j) ≡ trie.main t j
        by_test true e = refl
        by_test false e =
            ap (λ n. trie.main n j) end ∙ others j (λ same. differ (generation trie j) (generation trie i) e (ap (generation trie) same))

    -- a repair leaves all values
    pub repair_below : IsRepair trie (generation trie i) t (node_in trie t i) (node_in trie (suc t) i) → (root : Ref) → trie.depth root ≡ 0 → (key : ℕ) →
        value_below trie (suc t) root key ≡ value_below trie t root key
    repair_below is root at key =
        let lt : t < trie.last = omega (arith, end) in
        let A : Ref → Ref = assigned trie (generation trie i) (suc t) in
        let B : Ref → Ref = assigned trie (generation trie i) t in
        sym (found_alike trie.node (hash_of trie.kind) key A (trie.main (suc t)) now_assigned most_levels 0 root)
        ∙ agrees trie A B key (repair_stays trie ok t i lt others key is) most_levels 0 root at refl
        ∙ found_alike trie.node (hash_of trie.kind) key B (trie.main t) before_assigned most_levels 0 root

-- What a new root shows when it is opened.
use Rattle.std.proofs.Common.{◌≡◌, ℕ, zero, suc, ◌<◌, ◌≤◌, ◌==◌, cond, not, [], slice_index_or, sym, ap, subst, ◌∙◌, arith}
use Rattle.std.specs.Int.Bits.{and_zero_l}
use Rattle.std.specs.FinMap as map
use Rattle.std.specs.FinMap.{get-empty}
use Rattle.std.specs.Ordering.{nat_cmp}
use Rattle.proof_contents.specs.Vocabulary.{hash_of, Ref, Node, empty_branch, no_ref, position_of, has_flag, flag_of}
use Rattle.proof_contents.specs.Nodes.Looking.{Absent, Below, look_at, look_in, value_by, find_at, value_in}
use Rattle.proof_contents.specs.Nodes.Changing.{look}
use Rattle.proof_contents.specs.Tries.{Trie, generation, node_in, assigned, value_at, content}
use Rattle.proof_contents.specs.Steps.{IsTrie, Opens}
use Rattle.proof_contents.proofs.Values.Maps.{same_answers}
use Rattle.proof_contents.proofs.Values.Found.{value_by-same, assigned-own, assigned-other, assigned-last, found_below, found_nothing}
use Rattle.proof_contents.proofs.Shapes.Nodes.{leads_below}
use Rattle.proof_contents.proofs.Values.Contents.{get-content, same_content}

-- an empty branch says nothing of any key
pub empty_says : (node : Ref → Node) (flag q : ℕ) → look_in node flag q empty_branch ≡ Absent
empty_says node flag q = by_entry (slice_index_or [] (position_of flag 0) no_ref)
  where
    by_entry : (entry : Ref) → cond (has_flag 0 flag) (look_at q entry (node entry)) Absent ≡ Absent
    by_entry entry = ap (λ n. cond (not (n == 0)) (look_at q entry (node entry)) Absent) (and_zero_l flag)

module _ (trie : Trie) (ok : IsTrie trie) where
  -- the value of a key is what the root's main node says
  pub root_value : (g t q : ℕ) → generation trie (trie.root g) ≡ g →
      value_at trie g t q ≡ value_in trie.node (assigned trie g t) (hash_of trie.kind) q 14 0 (node_in trie t (trie.root g))
  root_value g t q is =
      found_below trie (assigned trie g t) q 14 0 (trie.root g)
      ∙ ap (λ m. value_in trie.node (assigned trie g t) (hash_of trie.kind) q 14 0 (trie.node m)) (assigned-own trie g t (trie.root g) is)

  -- a newer generation sees what is older as it is in the end
  older_same : (g h t q levels depth : ℕ) (i : Ref) → g < h → generation trie i ≤ g → trie.depth i ≡ depth →
      find_at trie.node (assigned trie h t) (hash_of trie.kind) q levels depth i ≡ find_at trie.node (assigned trie g trie.last) (hash_of trie.kind) q levels depth i
  older_same g h t q zero depth i newer le at = found_nothing trie (assigned trie h t) q depth i ∙ sym (found_nothing trie (assigned trie g trie.last) q depth i)
  older_same g h t q (suc levels) depth i newer le at =
      found_below trie (assigned trie h t) q levels depth i
      ∙ ap (λ m. value_in trie.node (assigned trie h t) (hash_of trie.kind) q levels depth (trie.node m))
      (assigned-other trie h t i (λ e. omega (arith, e)))
      ∙ value_by-same (find_at trie.node (assigned trie h t) (hash_of trie.kind) q levels (suc depth)) (find_at trie.node (assigned trie g trie.last) (hash_of trie.kind) q levels (suc depth))
      (look trie.node (hash_of trie.kind) depth q (node_in trie trie.last i))
      (λ j e. let child = (leads_below trie i q (node_in trie trie.last i) j (ok.shaped trie.last i (omega arith))
      (subst (λ d. look trie.node (hash_of trie.kind) d q (node_in trie trie.last i) ≡ Below j) (sym at) e)).child in
      older_same g h t q levels (suc depth) j newer (omega (arith, child.older)) (child.deeper ∙ ap suc at))
      ∙ ap (λ m. value_in trie.node (assigned trie g trie.last) (hash_of trie.kind) q levels depth (trie.node m)) (sym (assigned-last trie g i))
      ∙ sym (found_below trie (assigned trie g trie.last) q levels depth i)

  -- a copy opens with the old root's content, as it is in the end
  pub copy_opens : (c g h : ℕ) → Opens trie c g h → content trie h (suc c) ≡ content trie g trie.last
  copy_opens c g h o = same_content trie h g (suc c) trie.last (λ q.
      root_value h (suc c) q o.new_root
      ∙ ap (λ m. value_in trie.node (assigned trie h (suc c)) (hash_of trie.kind) q 14 0 (trie.node m)) o.same
      ∙ value_by-same (find_at trie.node (assigned trie h (suc c)) (hash_of trie.kind) q 14 1) (find_at trie.node (assigned trie g trie.last) (hash_of trie.kind) q 14 1)
      (look trie.node (hash_of trie.kind) 0 q (node_in trie trie.last (trie.root g)))
      (λ j e. let child = (leads_below trie (trie.root g) q (node_in trie trie.last (trie.root g)) j (ok.shaped trie.last (trie.root g) (omega arith))
      (subst (λ d. look trie.node (hash_of trie.kind) d q (node_in trie trie.last (trie.root g)) ≡ Below j) (sym (ok.root_depth g)) e)).child in
      older_same g h (suc c) q 14 1 j o.newer (omega (arith, child.older, o.old_root)) (child.deeper ∙ ap suc (ok.root_depth g)))
      ∙ sym (root_value g trie.last q o.old_root))

  -- a root over an empty branch shows nothing
  pub empty_opens : (t g : ℕ) → generation trie (trie.root g) ≡ g → node_in trie t (trie.root g) ≡ empty_branch → content trie g t ≡ map.empty
  empty_opens t g own is = same_answers (content trie g t) map.empty (λ q.
      get-content trie ok g t q ∙ root_value g t q own
      ∙ ap (λ n. value_in trie.node (assigned trie g t) (hash_of trie.kind) q 14 0 n) is
      ∙ ap (value_by (find_at trie.node (assigned trie g t) (hash_of trie.kind) q 14 1)) (empty_says trie.node (flag_of (hash_of trie.kind q) 0) q)
      ∙ sym (get-empty nat_cmp q))

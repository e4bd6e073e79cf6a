-- What a walk from a handle's root meets is the content of the handle in the trie's order.
use Rattle.std.proofs.Common.{◌≡◌, ℕ, zero, suc, ◌+◌, cond, List, [], ◌∷◌, Option, Some, None, refl, sym, ap₂, subst, ◌∙◌, arith}
use Rattle.std.specs.List.{flat_map}
use Rattle.std.specs.Option.{IsSome}
use Rattle.std.proofs.lemmas.List.Sums.{sum_by-append}
use Rattle.proof_core.specs.Vocabulary.{sorted_by, Root, content_at, most_levels, pairs_at, pairs_below, comes_before, State, root_at, root_of, word_at, word_of, Node, Branch, Indirection, Single}
use Rattle.proof_core.specs.Vocabulary.{Tomb, List as Listed, Ref, Heap, entries_of, logical_main, node_at, IsOfRun}
use Rattle.proof_core.specs.Beneath.ctrie_base.proofs.Sorting.{Alike, Rises, same_rising, sorted_alike, sorted_rises}
use Rattle.proof_core.specs.Beneath.proof_contents.proofs.Pairs.Lists.{Pairs}
use Rattle.proof_core.specs.Scanning.{scan_order, walked, walked_at, walked_in}
use Rattle.proof_core.proofs.Scanning.Order.{pairs_order, scan_is_order}
use Rattle.proof_core.proofs.Scanning.Placed.{placed}
use Rattle.proof_core.proofs.Scanning.Walks.{walk_in_order}

-- ---- a walk meets the pairs that are reached

module _ (met reached : Ref → Pairs) (same : (r : Ref) → Alike (met r) (reached r)) where
  entries_alike : (es : List Ref) → Alike (flat_map met es) (flat_map reached es)
  entries_alike [] t = refl
  entries_alike (e ∷ es) t =
      sum_by-append (λ p. cond (t p) 1 0) (met e) (flat_map met es) ∙ ap₂ (λ m n. m + n) (same e t) (entries_alike es t)
      ∙ sym (sum_by-append (λ p. cond (t p) 1 0) (reached e) (flat_map reached es))

  main_alike : (main : Node) → Alike (walked_in met main) (flat_map reached (entries_of main))
  main_alike (Branch bitmap entries) t = entries_alike entries.items t
  main_alike (Listed singles) t = sorted_alike comes_before pairs_order (flat_map met singles.items) t ∙ entries_alike singles.items t
  main_alike (Tomb single) t = entries_alike (single ∷ []) t
  main_alike (Indirection generation main) t = refl
  main_alike (Single key value) t = refl

  entry_alike : (heap : Heap) (r : Ref) (entry : Node) → Alike (walked_at met heap r entry) (pairs_at reached heap r entry)
  entry_alike heap r (Single key value) t = refl
  entry_alike heap r (Indirection generation main) t = main_alike (node_at heap (logical_main heap r)) t
  entry_alike heap r (Branch bitmap entries) t = refl
  entry_alike heap r (Tomb single) t = refl
  entry_alike heap r (Listed singles) t = refl

walk_alike : (levels : ℕ) (heap : Heap) (r : Ref) → Alike (walked levels heap r) (pairs_below levels heap r)
unfolding walked pairs_below
walk_alike zero heap r t = refl
walk_alike (suc levels) heap r t = entry_alike (walked levels heap) (pairs_below levels heap) (walk_alike levels heap) heap r (node_at heap r) t

-- ---- the content in the trie's order

module _ (state : State) (run : IsOfRun state) (handle : ℕ) where
  sorts_by : (o : Option Root) → root_at state handle ≡ o → IsSome o →
      sorted_by (scan_order state.limits.hash) (content_at state handle) ≡ walked most_levels state.heap (root_of (word_at state handle))
  sorts_by None at some = cc some
  sorts_by (Some root) at some =
      let r = root_of (word_at state handle) in
      let order = scan_order state.limits.hash in
      let from_root = placed state run handle root at in
      let up = (walk_in_order state.limits.hash state.heap most_levels 0 0 (root_of root.word) (omega arith) from_root).1 in
      same_rising order (scan_is_order state.limits.hash) (sorted_by order (content_at state handle)) (walked most_levels state.heap r)
      (sorted_rises order (scan_is_order state.limits.hash) (content_at state handle)) (subst (λ o. Rises order (walked most_levels state.heap (root_of (word_of o)))) (sym at) up)
      (λ t. sorted_alike order (scan_is_order state.limits.hash) (content_at state handle) t ∙ sorted_alike comes_before pairs_order (pairs_below most_levels state.heap r) t
      ∙ sym (walk_alike most_levels state.heap r t))

  pub walk_sorts : IsSome (root_at state handle) →
      sorted_by (scan_order state.limits.hash) (content_at state handle) ≡ walked most_levels state.heap (root_of (word_at state handle))
  walk_sorts some = sorts_by (root_at state handle) refl some

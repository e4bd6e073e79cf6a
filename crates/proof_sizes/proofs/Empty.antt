-- A handle whose map is empty has two nodes: below the root there is no main node without entries, so whatever is reached there leads to a pair.
use Rattle.std.proofs.Common.{leb-true, nat_le, ◌≡◌, ◌≢◌, ℕ, zero, suc, ◌+◌, ◌≤◌, Bool, true, false, cond, List}
use Rattle.std.proofs.Common.{[], ◌∷◌, ◌++◌, Contains, length, flat_map, sum_by, Some, refl, sym, ap, subst, ◌∙◌, arith}
use Rattle.proof_sizes.specs.Vocabulary.{put_by, Indirection, Ref, Heap, entries_of, logical_main, node_at, Root, Bounds, Step, content_at, most_levels, pairs_at, pairs_below, by_key, comes_before}
use Rattle.proof_sizes.specs.Vocabulary.{node_under, State, root_at, root_of, word_of, IsRun}
use Rattle.proof_sizes.specs.Beneath.machine_model.proofs.Grown.{grown_in_use, node_standing}
use Rattle.proof_sizes.specs.Beneath.proof_memory.specs.Laws.{IsInUse}
use Rattle.proof_sizes.specs.Beneath.proof_memory.specs.Wants.{is_formed, is_indirection}
use Rattle.proof_sizes.specs.Beneath.proof_memory.proofs.Safety.AtEachTime.{safe_at}
use Rattle.proof_sizes.specs.Beneath.proof_memory.proofs.Safety.States.{IsSafe}
use Rattle.proof_sizes.specs.Beneath.proof_contents.specs.Tries.{IsShaped, Trie, branch, list, node_in, tomb}
use Rattle.proof_sizes.specs.Beneath.proof_generations.proofs.Lines.ReaderKnows.{indirection_is}
use Rattle.proof_sizes.specs.Beneath.proof_shape.specs.Shaped.{HasShape, trie_of_run}
use Rattle.proof_sizes.specs.Beneath.proof_shape.specs.Sites.At.{StepsFit, TakesSteps}
use Rattle.proof_sizes.specs.Beneath.proof_shape.specs.Sites.Lines.{bare, sites_of}
use Rattle.proof_sizes.specs.Beneath.proof_shape.specs.Sites.Nodes.{depth_at, level_until}
use Rattle.proof_sizes.specs.Beneath.proof_shape.proofs.Full.Made.{FullNode}
use Rattle.proof_sizes.specs.Beneath.proof_shape.proofs.Full.Runs.{full_grown}
use Rattle.proof_sizes.specs.Beneath.proof_shape.proofs.Shaped.Places.{bare_branch, bare_list, bare_single}
use Rattle.proof_sizes.specs.Beneath.proof_shape.proofs.Shaped.Trie.{runs_have_shape}
use Rattle.proof_sizes.specs.Beneath.proof_updates.proofs.Handles.Showing.{entries_same, link_same, main_same, main_used, node_same, root_deep, root_link, root_used}
use Rattle.proof_sizes.specs.Nodes.{nodes_of}
use Rattle.proof_sizes.proofs.Once.{IsEntry, a_link, a_single, deeper_by, link_deep}
use Rattle.proof_sizes.proofs.Shown.{handle_size, kinds, sites, under}
use Rattle.proof_sizes.proofs.Weights.{one, size_from, weight_link}

-- ---- lists

put_some : (before : ℕ × ℕ → ℕ × ℕ → Bool) (p : ℕ × ℕ) (ps : List (ℕ × ℕ)) → put_by before p ps ≢ []
put_some before p [] e = let bad : p ∷ [] ≡ [] = e in cc
put_some before p (q ∷ ps) e = by (before p q) e
  where
    by : (b : Bool) → cond b (p ∷ q ∷ ps) (q ∷ put_by before p ps) ≡ [] → ⊥
    by true e = let bad : p ∷ q ∷ ps ≡ [] = e in cc
    by false e = let bad : q ∷ put_by before p ps ≡ [] = e in cc

-- sorted, no pairs come of none alone
unsorted : (ps : List (ℕ × ℕ)) → by_key ps ≡ [] → ps ≡ []
unsorted [] e = refl
unsorted (p ∷ ps) e = absurd (put_some comes_before p (by_key ps) e)

no_more_left : {X : Type 0} (xs ys : List X) → xs ++ ys ≡ [] → xs ≡ []
no_more_left [] ys e = refl
no_more_left (x ∷ xs) ys e = absurd (let bad : x ∷ (xs ++ ys) ≡ [] = e in cc)

module _ {limits : Bounds} {states : ℕ → State} (steps : ℕ → Step) {last : ℕ} (run : IsRun limits states last) (takes : TakesSteps states steps last) (keys : StepsFit steps last)
    (t : ℕ) (within : t ≤ last) where
  abbrev trie : Trie
  trie = trie_of_run limits states steps last

  abbrev heap : Heap
  heap = (states t).heap

  safe : IsSafe (states t)
  safe = safe_at run t within

  shape : HasShape (trie_of_run limits states steps last)
  shape = runs_have_shape limits states steps last run takes keys

  -- ---- below the root main nodes have entries

  module _ (i word : Ref) (g : ℕ) (used : IsInUse heap i) (is : trie.node i ≡ Indirection g word) (below : 1 ≤ trie.depth i) where
    link : is_indirection (node_under states last i) ≡ true
    link = ap is_indirection is

    abbrev m : Ref
    m = logical_main heap i

    used_main : IsInUse heap m
    used_main = main_used steps run takes keys t within i used link

    main_is : m ≡ trie.main t i
    main_is = main_same steps run takes keys t within i used link

    its_level : 2 ≤ level_until states steps last m
    its_level =
        let site = (sites steps run takes keys t within i word g used is).0 in
        omega (arith, below, ap (λ q. depth_at (level_until states steps last q)) main_is, site)

    bare_is : bare used_main.0.node ≡ bare (node_in trie t i)
    bare_is = ap bare (sym (node_standing heap m used_main.0 used_main.1)) ∙ node_same steps run takes keys t within m used_main ∙ ap (λ q. bare (trie.node q)) main_is

    some_entry : 1 ≤ length (entries_of (node_in trie t i))
    some_entry = by (shape.shaped t i within)
      where
        by : IsShaped trie i (node_in trie t i) → 1 ≤ length (entries_of (node_in trie t i))
        by (branch b es places n_is has shallow in_place led children) =
            let node = bare_branch used_main.0.node b es (bare_is ∙ ap bare n_is) in
            let full = subst (FullNode (sites_of states steps last) (level_until states steps last m)) node
            (full_grown steps run takes keys t within m used_main.0 (grown_in_use states t m used_main.0 used_main.1)) in
            omega (arith, ap (λ n. length (entries_of n)) n_is, (full its_level).0)
        by (list ss n_is are most deep one_hash) =
            let node = bare_list used_main.0.node ss (bare_is ∙ ap bare n_is) in
            let formed : nat_le 2 (length ss.items) ≡ true = sym (ap is_formed node) ∙ (safe.nodes m used_main.0 used_main.1).1 in
            omega (arith, ap (λ n. length (entries_of n)) n_is, leb-true 2 (length ss.items) formed)
        by (tomb s k v n_is own led) = omega (arith, ap (λ n. length (entries_of n)) n_is)

  -- ---- so what is reached there leads to a pair

  some_pair : (levels : ℕ) (e : Ref) → IsInUse heap e → IsEntry (trie.node e) → 1 ≤ levels →
      ((g : ℕ) (word : Ref) → trie.node e ≡ Indirection g word → (1 ≤ trie.depth e) × (trie.depth e ≤ 13) × (levels + trie.depth e ≡ most_levels)) → pairs_below levels heap e ≢ []
  unfolding pairs_below
  some_pair zero e used kind low site none = omega (arith, low)
  some_pair (suc levels) e used (a_single k v is) low site none =
      let here = bare_single (node_at heap e) k v (node_same steps run takes keys t within e used ∙ ap bare is) in
      let bad : ◌≡◌ {A = List (ℕ × ℕ)} ((k, v) ∷ []) [] = sym (ap (pairs_at (pairs_below levels heap) heap e) here) ∙ none in
      cc
  some_pair (suc levels) e used (a_link g word is) low site none = by (λ q. some_pair levels q) (entries_of (node_in trie t e)) refl
    where
      deep : (1 ≤ trie.depth e) × (trie.depth e ≤ 13) × (suc levels + trie.depth e ≡ most_levels)
      deep = site g word is

      linked : is_indirection (node_under states last e) ≡ true
      linked = ap is_indirection is

      nothing : flat_map (pairs_below levels heap) (entries_of (node_in trie t e)) ≡ []
      nothing =
          let node = indirection_is (node_at heap e) (link_same steps run takes keys t within e used ∙ linked) in
          sym (ap (flat_map (pairs_below levels heap)) (entries_same steps run takes keys t within e used linked))
          ∙ sym (ap (pairs_at (pairs_below levels heap) heap e) node.2) ∙ none

      by : ((q : Ref) → IsInUse heap q → IsEntry (trie.node q) → 1 ≤ levels →
          ((g : ℕ) (word : Ref) → trie.node q ≡ Indirection g word → (1 ≤ trie.depth q) × (trie.depth q ≤ 13) × (levels + trie.depth q ≡ most_levels)) → pairs_below levels heap q ≢ []) →
          (es : List Ref) → entries_of (node_in trie t e) ≡ es → ⊥
      by rest [] at = omega (arith, some_entry e word g used is deep.0, ap length at)
      by rest (q ∷ es) at =
          let first : Contains (entries_of (node_in trie t e)) q = subst (λ l. Contains l q) (sym at) (0, omega arith, refl) in
          rest q (under steps run takes keys t within e q word g used is first)
          (kinds steps run takes keys t within e q word g used is first) (omega (arith, deep))
          (λ h w q_is.
          let deeper = deeper_by trie e q w h (node_in trie t e) (shape.shaped t e within) first q_is in
          (omega (arith, deeper), link_deep trie e q w h (node_in trie t e) (shape.shaped t e within) first q_is, omega (arith, deeper, deep)))
          (no_more_left (pairs_below levels heap q) (flat_map (pairs_below levels heap) es) (sym (ap (flat_map (pairs_below levels heap)) at) ∙ nothing))

  pub empty_has_two : (handle : ℕ) (root : Root) → root_at (states t) handle ≡ Some root → content_at (states t) handle ≡ [] → length (nodes_of (states t) handle) ≡ 2
  unfolding pairs_below
  empty_has_two handle root at none = by (entries_of (node_in trie t (root_of root.word))) refl
    where
      used : IsInUse heap (root_of root.word)
      used = root_used steps run takes keys t within handle root at

      linked : is_indirection (node_under states last (root_of root.word)) ≡ true
      linked = root_link steps run takes keys t within handle root at

      node : (g : ℕ) × (word : Ref) × (node_under states last (root_of root.word) ≡ Indirection g word)
      node = indirection_is (node_under states last (root_of root.word)) linked

      no_pairs : pairs_below most_levels heap (root_of root.word) ≡ []
      no_pairs = unsorted _ (sym (ap (λ o. by_key (pairs_below most_levels heap (root_of (word_of o)))) at) ∙ none)

      nothing : flat_map (pairs_below 14 heap) (entries_of (node_in trie t (root_of root.word))) ≡ []
      nothing =
          let here = indirection_is (node_at heap (root_of root.word)) (link_same steps run takes keys t within (root_of root.word) used ∙ linked) in
          sym (ap (flat_map (pairs_below 14 heap)) (entries_same steps run takes keys t within (root_of root.word) used linked))
          ∙ sym (ap (pairs_at (pairs_below 14 heap) heap (root_of root.word)) here.2) ∙ no_pairs

      deep : trie.depth (root_of root.word) ≡ 0
      deep = root_deep steps run takes keys t within handle root at

      by : (es : List Ref) → entries_of (node_in trie t (root_of root.word)) ≡ es → length (nodes_of (states t) handle) ≡ 2
      by [] at_es =
          let size = handle_size steps run takes keys t within handle root at in
          let linked_size = weight_link one trie.node (trie.main t) 14 node.0 (root_of root.word) node.1 node.2 in
          omega (arith, size, linked_size, ap (sum_by (size_from trie.node (trie.main t) 14)) at_es)
      by (e ∷ es) at_es =
          let first : Contains (entries_of (node_in trie t (root_of root.word))) e = subst (λ l. Contains l e) (sym at_es) (0, omega arith, refl) in
          absurd (some_pair 14 e (under steps run takes keys t within (root_of root.word) e node.1 node.0 used node.2 first)
          (kinds steps run takes keys t within (root_of root.word) e node.1 node.0 used node.2 first) (omega arith)
          (λ h w e_is.
          let deeper = deeper_by trie (root_of root.word) e w h (node_in trie t (root_of root.word)) (shape.shaped t (root_of root.word) within) first e_is in
          (omega (arith, deeper), omega (arith, deeper, deep), omega (arith, deeper, deep)))
          (no_more_left (pairs_below 14 heap e) (flat_map (pairs_below 14 heap) es) (sym (ap (flat_map (pairs_below 14 heap)) at_es) ∙ nothing)))

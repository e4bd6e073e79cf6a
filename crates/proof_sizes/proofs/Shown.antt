-- The nodes that a handle reaches before a step of a run: those below its root in the trie of the run, each of them in use and met once.
use Rattle.std.proofs.Common.{◌≡◌, ℕ, zero, suc, ◌≤◌, true, cond, List, ◌∷◌, Contains, length, sum_by, flat_map, ◌⊎◌, inl, inr, Some, refl, sym, ap, subst, ◌∙◌, arith, is_some}
use Rattle.std.proofs.lemmas.Bool.{false≢true}
use native.Mathlib.Decide.{ℕ_discrete}
use Rattle.proof_sizes.specs.Vocabulary.{Ref, Node, Indirection, Branch, Single, Tomb, List as Listed, Heap, entries_of, logical_main, node_at, times, Root, Bounds, Step, most_levels, main_before}
use Rattle.proof_sizes.specs.Vocabulary.{node_under, State, root_at, root_of, word_of, IsRun, is_single}
use Rattle.proof_sizes.specs.Beneath.slot_arena.proofs.Times.{once, once_other}
use Rattle.proof_sizes.specs.Beneath.machine_model.proofs.Basics.{only_one}
use Rattle.proof_sizes.specs.Beneath.machine_model.proofs.Grown.{grown_in_use, node_standing}
use Rattle.proof_sizes.specs.Beneath.proof_memory.specs.Laws.{IsInUse}
use Rattle.proof_sizes.specs.Beneath.proof_memory.specs.Wants.{AllHold, is_entry, is_indirection, node_wants}
use Rattle.proof_sizes.specs.Beneath.proof_memory.proofs.Claims.Uses.{all_of, meets_of}
use Rattle.proof_sizes.specs.Beneath.proof_memory.proofs.Levels.States.{heaped_in_use}
use Rattle.proof_sizes.specs.Beneath.proof_memory.proofs.Safety.AtEachTime.{safe_at}
use Rattle.proof_sizes.specs.Beneath.proof_memory.proofs.Safety.States.{IsSafe}
use Rattle.proof_sizes.specs.Beneath.proof_contents.specs.Runs.{counting_main}
use Rattle.proof_sizes.specs.Beneath.proof_contents.specs.Tries.{Trie, node_in}
use Rattle.proof_sizes.specs.Beneath.proof_contents.proofs.Values.Runs.{counting_main-made}
use Rattle.proof_sizes.specs.Beneath.proof_generations.proofs.Lines.ReaderKnows.{indirection_is}
use Rattle.proof_sizes.specs.Beneath.proof_shape.specs.Shaped.{HasShape, trie_of_run}
use Rattle.proof_sizes.specs.Beneath.proof_shape.specs.Sites.At.{StepsFit, TakesSteps}
use Rattle.proof_sizes.specs.Beneath.proof_shape.specs.Sites.Lines.{bare}
use Rattle.proof_sizes.specs.Beneath.proof_shape.specs.Sites.Nodes.{depth_at, level_until, path_until}
use Rattle.proof_sizes.specs.Beneath.proof_shape.proofs.Shaped.Trie.{runs_have_shape}
use Rattle.proof_sizes.specs.Beneath.proof_shape.proofs.Sites.Grown.{counts}
use Rattle.proof_sizes.specs.Beneath.proof_updates.proofs.Handles.Showing.{entries_same, entry_used, link_same, main_same, main_used, node_same, root_deep, root_link, root_used}
use Rattle.proof_sizes.specs.Nodes.{nodes_at, nodes_below, nodes_of}
use Rattle.proof_sizes.proofs.Once.{IsEntry, a_link, a_single, met_once}
use Rattle.proof_sizes.proofs.Weights.{flat_same, nodes_by, nodes_from, nodes_weigh, one, size_from, sum_nothing, sum_ones, weight_at, weight_from, weight_node, weight_none}

-- ---- nodes whose generations and words don't count

bare_nodes_at : (below : Ref → List Ref) (heap : Heap) (r : Ref) (n : Node) → nodes_at below heap r (bare n) ≡ nodes_at below heap r n
bare_nodes_at below heap r (Indirection g w) = refl
bare_nodes_at below heap r (Branch b es) = refl
bare_nodes_at below heap r (Single k v) = refl
bare_nodes_at below heap r (Tomb s) = refl
bare_nodes_at below heap r (Listed ss) = refl

-- ---- kinds

entry_kind : (n : Node) → is_entry n ≡ true → IsEntry n
entry_kind (Indirection g w) e = a_link g w refl
entry_kind (Single k v) e = a_single k v refl
entry_kind (Branch b es) e = absurd (false≢true e)
entry_kind (Tomb s) e = absurd (false≢true e)
entry_kind (Listed ss) e = absurd (false≢true e)

single_kind : (n : Node) → is_single n ≡ true → is_entry n ≡ true
single_kind (Single k v) e = refl
single_kind (Indirection g w) e = absurd (false≢true e)
single_kind (Branch b es) e = absurd (false≢true e)
single_kind (Tomb s) e = absurd (false≢true e)
single_kind (Listed ss) e = absurd (false≢true e)

bare_kind : (n : Node) → is_entry (bare n) ≡ is_entry n
bare_kind (Indirection g w) = refl
bare_kind (Branch b es) = refl
bare_kind (Single k v) = refl
bare_kind (Tomb s) = refl
bare_kind (Listed ss) = refl

-- what stands in a node
entries_are : (S : Ref → Type 0) (heap : Heap) (n : Node) (e : Ref) → AllHold S heap (node_wants n) → Contains (entries_of n) e → is_entry (node_at heap e) ≡ true
entries_are S heap (Indirection g w) e h (k, lt, at) = absurd (omega (arith, lt))
entries_are S heap (Single q v) e h (k, lt, at) = absurd (omega (arith, lt))
entries_are S heap (Branch b es) e h (k, lt, at) = subst (λ r. is_entry (node_at heap r) ≡ true) at (all_of h.0 k e lt).1
entries_are S heap (Tomb s) e h within = subst (λ r. is_entry (node_at heap r) ≡ true) (only_one s e within) (single_kind (node_at heap s) (meets_of h.0))
entries_are S heap (Listed ss) e h (k, lt, at) = subst (λ r. is_entry (node_at heap r) ≡ true) at (single_kind _ (all_of h.0 k e lt).1)

module _ {limits : Bounds} {states : ℕ → State} (steps : ℕ → Step) {last : ℕ} (run : IsRun limits states last) (takes : TakesSteps states steps last) (keys : StepsFit steps last)
    (t : ℕ) (within : t ≤ last) where
  abbrev trie : Trie
  trie = trie_of_run limits states steps last

  abbrev heap : Heap
  heap = (states t).heap

  safe : IsSafe (states t)
  safe = safe_at run t within

  shape : HasShape (trie_of_run limits states steps last)
  shape = runs_have_shape limits states steps last run takes keys

  -- ---- nodes

  pub nodes_shown : (levels : ℕ) (r : Ref) → IsInUse heap r → nodes_below levels heap r ≡ nodes_from (node_under states last) (counting_main states last t) levels r
  unfolding nodes_below nodes_from
  nodes_shown zero r used = refl
  nodes_shown (suc levels) r used =
      sym (bare_nodes_at (nodes_below levels heap) heap r (node_at heap r)) ∙ ap (nodes_at (nodes_below levels heap) heap r) (node_same steps run takes keys t within r used)
      ∙ bare_nodes_at (nodes_below levels heap) heap r (node_under states last r) ∙ by_node (λ q. nodes_shown levels q) (node_under states last r) refl
    where
      by_node : ((q : Ref) → IsInUse heap q → nodes_below levels heap q ≡ nodes_from (node_under states last) (counting_main states last t) levels q) → (n : Node) → node_under states last r ≡ n →
          nodes_at (nodes_below levels heap) heap r n ≡ nodes_by (nodes_from (node_under states last) (counting_main states last t) levels) (node_under states last) (counting_main states last t) r n
      by_node rest (Indirection g w) is =
          let link : is_indirection (node_under states last r) ≡ true = ap is_indirection is in
          let m = logical_main heap r in
          ap (λ l. r ∷ m ∷ l)
          (flat_same (nodes_below levels heap) (nodes_from (node_under states last) (counting_main states last t) levels) (entries_of (node_at heap m))
          (λ q c. rest q (entry_used steps run takes keys t within m q (main_used steps run takes keys t within r used link) c))
          ∙ ap (flat_map (nodes_from (node_under states last) (counting_main states last t) levels)) (entries_same steps run takes keys t within r used link))
          ∙ ap (λ q. r ∷ q ∷ flat_map (nodes_from (node_under states last) (counting_main states last t) levels) (entries_of (node_under states last (counting_main states last t r))))
          (main_same steps run takes keys t within r used link)
      by_node rest (Single k v) is = refl
      by_node rest (Branch b es) is = refl
      by_node rest (Tomb s) is = refl
      by_node rest (Listed ss) is = refl

  -- ---- each is met once

  pub under : (i e word : Ref) (g : ℕ) → IsInUse heap i → trie.node i ≡ Indirection g word → Contains (entries_of (node_in trie t i)) e → IsInUse heap e
  under i e word g used is c =
      let link : is_indirection (node_under states last i) ≡ true = ap is_indirection is in
      entry_used steps run takes keys t within (logical_main heap i) e (main_used steps run takes keys t within i used link)
      (subst (λ l. Contains l e) (sym (entries_same steps run takes keys t within i used link)) c)

  pub kinds : (i e word : Ref) (g : ℕ) → IsInUse heap i → trie.node i ≡ Indirection g word → Contains (entries_of (node_in trie t i)) e → IsEntry (trie.node e)
  kinds i e word g used is c =
      let link : is_indirection (node_under states last i) ≡ true = ap is_indirection is in
      let m = logical_main heap i in
      let inside = (heaped_in_use (states t) safe).inside m (main_used steps run takes keys t within i used link) in
      let there = entries_are (IsInUse heap) heap (node_at heap m) e inside (subst (λ l. Contains l e) (sym (entries_same steps run takes keys t within i used link)) c) in
      entry_kind (node_under states last e)
      (sym (bare_kind (node_under states last e)) ∙ ap is_entry (sym (node_same steps run takes keys t within e (under i e word g used is c))) ∙ bare_kind (node_at heap e) ∙ there)

  pub sites : (i word : Ref) (g : ℕ) → IsInUse heap i → trie.node i ≡ Indirection g word →
      (depth_at (level_until states steps last (trie.main t i)) ≡ trie.depth i) × (path_until states steps last (trie.main t i) ≡ trie.path i)
  sites i word g used is =
      let link : is_indirection (node_under states last i) ≡ true = ap is_indirection is in
      let made = grown_in_use states t i used.0 used.1 in
      let linked = ap is_indirection (sym (node_standing heap i used.0 used.1)) ∙ link_same steps run takes keys t within i used ∙ link in
      let c = counts steps run takes keys t within i used.0 made linked in
      let main_is : counting_main states last t i ≡ main_before states t i = counting_main-made states last t i (ap is_some made) in (
        ap (λ m. depth_at (level_until states steps last m)) main_is ∙ ap depth_at c.level ∙ sym (ap (λ b. cond b (depth_at (level_until states steps last i)) 0) link),
        ap (path_until states steps last) main_is ∙ c.path ∙ sym (ap (λ b. cond b (path_until states steps last i) 0) link),
      )

  -- ---- each is in use

  met_used : (x : Ref) (levels : ℕ) (r : Ref) → IsInUse heap r → (weight_from (once x) trie.node (trie.main t) levels r ≡ 0) ⊎ IsInUse heap x
  met_used x zero r used = inl (weight_none (once x) trie.node (trie.main t) r)
  met_used x (suc levels) r used = by_node (λ q. met_used x levels q) (trie.node r) refl
    where
      node : (n : Node) → trie.node r ≡ n → weight_from (once x) trie.node (trie.main t) (suc levels) r
          ≡ weight_at (once x) (weight_from (once x) trie.node (trie.main t) levels) trie.node (trie.main t) r n
      node n is = weight_node (once x) trie.node (trie.main t) levels r ∙ ap (weight_at (once x) (weight_from (once x) trie.node (trie.main t) levels) trie.node (trie.main t) r) is

      alone : weight_from (once x) trie.node (trie.main t) (suc levels) r ≡ once x r → (weight_from (once x) trie.node (trie.main t) (suc levels) r ≡ 0) ⊎ IsInUse heap x
      alone e = by (ℕ_discrete x r)
        where
          by : Dec (x ≡ r) → (weight_from (once x) trie.node (trie.main t) (suc levels) r ≡ 0) ⊎ IsInUse heap x
          by (yes same) = inr (subst (IsInUse heap) (sym same) used)
          by (no apart) = inl (e ∙ once_other x r apart)

      by_node : ((q : Ref) → IsInUse heap q → (weight_from (once x) trie.node (trie.main t) levels q ≡ 0) ⊎ IsInUse heap x) → (n : Node) → trie.node r ≡ n →
          (weight_from (once x) trie.node (trie.main t) (suc levels) r ≡ 0) ⊎ IsInUse heap x
      by_node rest (Indirection g w) is = by (ℕ_discrete x r) (ℕ_discrete x (trie.main t r))
        where
          linked : is_indirection (node_under states last r) ≡ true
          linked = ap is_indirection is

          used_main : IsInUse heap (trie.main t r)
          used_main = subst (IsInUse heap) (main_same steps run takes keys t within r used linked) (main_used steps run takes keys t within r used linked)

          by_sum : (x ≡ r → ⊥) → (x ≡ trie.main t r → ⊥) → (sum_by (weight_from (once x) trie.node (trie.main t) levels) (entries_of (node_in trie t r)) ≡ 0) ⊎ IsInUse heap x →
              (weight_from (once x) trie.node (trie.main t) (suc levels) r ≡ 0) ⊎ IsInUse heap x
          by_sum apart away (inl none) = inl (node (Indirection g w) is ∙ omega (arith, none, once_other x r apart, once_other x (trie.main t r) away))
          by_sum apart away (inr found) = inr found

          by : Dec (x ≡ r) → Dec (x ≡ trie.main t r) → (weight_from (once x) trie.node (trie.main t) (suc levels) r ≡ 0) ⊎ IsInUse heap x
          by (yes same) second = inr (subst (IsInUse heap) (sym same) used)
          by (no apart) (yes same) = inr (subst (IsInUse heap) (sym same) used_main)
          by (no apart) (no away) =
              by_sum apart away
              (sum_nothing (weight_from (once x) trie.node (trie.main t) levels) (IsInUse heap x) (entries_of (node_in trie t r)) (λ e c. rest e (under r e w g used is c)))
      by_node rest (Single k v) is = alone (node (Single k v) is)
      by_node rest (Branch b es) is = alone (node (Branch b es) is)
      by_node rest (Tomb s) is = alone (node (Tomb s) is)
      by_node rest (Listed ss) is = alone (node (Listed ss) is)

  module _ (handle : ℕ) (root : Root) (at : root_at (states t) handle ≡ Some root) where
    abbrev r : Ref
    r = root_of root.word

    used_root : IsInUse heap r
    used_root = root_used steps run takes keys t within handle root at

    link : is_indirection (node_under states last r) ≡ true
    link = root_link steps run takes keys t within handle root at

    -- the nodes of the handle are those that are reached in the trie
    pub handle_nodes : nodes_of (states t) handle ≡ nodes_from trie.node (trie.main t) most_levels (root_of root.word)
    handle_nodes = ap (λ o. nodes_below most_levels heap (root_of (word_of o))) at ∙ nodes_shown most_levels r used_root

    pub handle_weighs : (weight : Ref → ℕ) → sum_by weight (nodes_of (states t) handle) ≡ weight_from weight trie.node (trie.main t) most_levels (root_of root.word)
    handle_weighs weight = ap (sum_by weight) handle_nodes ∙ nodes_weigh weight trie.node (trie.main t) most_levels r

    pub handle_size : length (nodes_of (states t) handle) ≡ size_from trie.node (trie.main t) most_levels (root_of root.word)
    handle_size = sym (sum_ones (nodes_of (states t) handle)) ∙ handle_weighs one

    pub nodes_used : (x : Ref) → (times x (nodes_of (states t) handle) ≡ 0) ⊎ IsInUse (states t).heap x
    nodes_used x = by (met_used x most_levels r used_root)
      where
        by : (weight_from (once x) trie.node (trie.main t) most_levels r ≡ 0) ⊎ IsInUse heap x → (times x (nodes_of (states t) handle) ≡ 0) ⊎ IsInUse heap x
        by (inl none) = inl (handle_weighs (once x) ∙ none)
        by (inr used) = inr used

    pub nodes_once : (x : Ref) → times x (nodes_of (states t) handle) ≤ 1
    nodes_once x =
        let node = indirection_is (node_under states last r) link in
        let few = met_once trie t shape.path_fits (λ i. shape.shaped t i within) (IsInUse heap) under kinds
        (λ m. depth_at (level_until states steps last m)) (path_until states steps last) sites x most_levels
        node.0 r node.1 used_root node.2 (omega (arith, root_deep steps run takes keys t within handle root at)) in
        omega (arith, handle_weighs (once x), few)

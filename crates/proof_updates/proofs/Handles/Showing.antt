-- What a handle holds before a step of a run: the map of the values below its root.
use Rattle.std.proofs.Common.{◌≡◌, ℕ, suc, zero, ◌≤◌, true, cond, List, Contains, flat_map, Some, refl, sym, ap, subst, ◌∙◌, arith}
use Rattle.std.proofs.lemmas.List.Elements.{Contains-append_left}
use Rattle.std.specs.FinMap.{entries}
use Rattle.proof_updates.specs.Vocabulary.{Ref, Node, Indirection, Branch, Single, Tomb, List as Listed, Heap, node_at, node_of, logical_main, entries_of, refs_of_node, refs_of_prev, refs_of_slot}
use Rattle.proof_updates.specs.Vocabulary.{Root, Bounds, Step, content_at, pairs_at, pairs_below, by_key, State, root_at, root_of, word_of, node_under, IsRun, IsInUse, pairs_of, counting_main, Trie}
use Rattle.proof_updates.specs.Vocabulary.{content, bare, sites_of, HasShape, trie_of_run, depth_at, level_until, path_until, TakesSteps, StepsFit}
use Rattle.proof_updates.specs.Beneath.proof_memory.specs.Wants.{is_indirection}
use Rattle.proof_updates.specs.Beneath.proof_memory.proofs.Safety.AtEachTime.{safe_at}
use Rattle.proof_updates.specs.Beneath.proof_memory.proofs.Claims.Uses.{safe_of, meets_of}
use Rattle.proof_updates.specs.Beneath.proof_memory.proofs.Safety.States.{IsSafe}
use Rattle.proof_updates.specs.Beneath.proof_memory.proofs.Safety.Standing.{in_any_slot}
use Rattle.proof_updates.specs.Beneath.proof_contents.specs.Pairs.{pairs_from}
use Rattle.proof_updates.specs.Beneath.proof_contents.specs.Steps.{IsTrie}
use Rattle.proof_updates.specs.Beneath.proof_contents.specs.Tries.{map_of, most_levels}
use Rattle.proof_updates.specs.Beneath.proof_contents.proofs.Pairs.Heap.{flat_map-same, entry_refs}
use Rattle.proof_updates.specs.Beneath.proof_contents.proofs.Pairs.Shown.{reached_entries}
use Rattle.proof_updates.specs.Beneath.proof_contents.proofs.Values.Found.{assigned-last}
use Rattle.proof_updates.specs.Beneath.proof_contents.proofs.Values.Contents.{map_of-same}
use Rattle.proof_updates.specs.Beneath.proof_generations.proofs.Lines.ReaderKnows.{indirection_is}
use Rattle.proof_order.proofs.Openings.ClosedRoots.{main_there}
use Rattle.proof_order.proofs.Openings.RootsFollow.{logical_in_use}
use Rattle.proof_shape.proofs.Sites.Roots.{word_root}
use Rattle.proof_shape.proofs.Sites.Given.{levels_there}
use Rattle.proof_shape.proofs.Shaped.KeysOnce.{same_shape}
use Rattle.proof_shape.proofs.Shaped.Places.{bare_entries, bare_link}
use Rattle.proof_shape.proofs.Shaped.Roots.{root_wanted}
use Rattle.proof_shape.proofs.Shaped.Trie.{runs_have_shape}
use Rattle.proof_shape.proofs.Sites.Acts.{root_path}
use Rattle.proof_shape.proofs.Sites.Runs.{paths_fit, bare_main}
use Rattle.proof_updates.proofs.Handles.Finding.{found_alike}
use Rattle.proof_updates.proofs.Handles.Values.{value_below}
use Rattle.proof_updates.specs.Beneath.machine_model.proofs.Grown.{grown_in_use, node_standing, standing_parts}
use Rattle.proof_updates.specs.Beneath.proof_generations.proofs.Falling.Nodes.{nodes_stay}

-- ---- nodes whose generations and words don't count

bare_pairs_at : (below : Ref → List (ℕ × ℕ)) (heap : Heap) (r : Ref) (n : Node) → pairs_at below heap r (bare n) ≡ pairs_at below heap r n
bare_pairs_at below heap r (Indirection g w) = refl
bare_pairs_at below heap r (Branch b es) = refl
bare_pairs_at below heap r (Single k v) = refl
bare_pairs_at below heap r (Tomb s) = refl
bare_pairs_at below heap r (Listed ss) = refl

module _ {limits : Bounds} {states : ℕ → State} (steps : ℕ → Step) {last : ℕ} (run : IsRun limits states last) (takes : TakesSteps states steps last) (keys : StepsFit steps last)
    (t : ℕ) (within : t ≤ last) where
  abbrev trie : Trie
  trie = trie_of_run limits states steps last

  abbrev heap : Heap
  heap = (states t).heap

  safe : IsSafe (states t)
  safe = safe_at run t within

  -- ---- what is in use is the trie's

  pub node_same : (r : Ref) → IsInUse heap r → bare (node_at heap r) ≡ bare (node_under states last r)
  node_same r used =
      let now = nodes_stay run t last within (omega arith) r used.0 (grown_in_use states t r used.0 used.1) in
      ap bare (node_standing heap r used.0 used.1) ∙ sym (ap (λ o. bare (node_of o)) now.1 ∙ ap bare now.2.1 ∙ bare_main now.2.0 used.0.node)

  pub link_same : (r : Ref) → IsInUse heap r → is_indirection (node_at heap r) ≡ is_indirection (node_under states last r)
  link_same r used = sym (bare_link (node_at heap r)) ∙ ap is_indirection (node_same r used) ∙ bare_link (node_under states last r)

  pub main_same : (r : Ref) → IsInUse heap r → is_indirection (node_under states last r) ≡ true → logical_main heap r ≡ counting_main states last t r
  main_same r used link = main_there run t r within used link

  pub main_used : (r : Ref) → IsInUse heap r → is_indirection (node_under states last r) ≡ true → IsInUse heap (logical_main heap r)
  main_used r used link = logical_in_use (states t) safe r used (link_same r used ∙ link)

  -- the entries of a main node
  pub entries_same : (r : Ref) → IsInUse heap r → is_indirection (node_under states last r) ≡ true →
      entries_of (node_at heap (logical_main heap r)) ≡ entries_of (node_under states last (counting_main states last t r))
  entries_same r used link =
      sym (bare_entries (node_at heap (logical_main heap r))) ∙ ap entries_of (node_same (logical_main heap r) (main_used r used link))
      ∙ bare_entries (node_under states last (logical_main heap r)) ∙ ap (λ m. entries_of (node_under states last m)) (main_same r used link)

  pub entry_used : (m q : Ref) → IsInUse heap m → Contains (entries_of (node_at heap m)) q → IsInUse heap q
  entry_used m q (slot, found) c =
      let stored_there = (standing_parts heap m slot found).0 in
      let inside : Contains (refs_of_node slot.node) q = entry_refs slot.node q (subst (λ n. Contains (entries_of n) q) (node_standing heap m slot found) c) in
      in_any_slot (states t) safe m q (subst (λ o. Contains (refs_of_slot o) q) (sym stored_there) (Contains-append_left (refs_of_node slot.node) (refs_of_prev slot.prev) q inside))

  -- ---- the pairs below

  pairs_shown : (levels : ℕ) (r : Ref) → IsInUse heap r → pairs_below levels heap r ≡ pairs_from (node_under states last) (counting_main states last t) levels r
  unfolding pairs_below pairs_from
  pairs_shown zero r used = refl
  pairs_shown (suc levels) r used =
      sym (bare_pairs_at (pairs_below levels heap) heap r (node_at heap r)) ∙ ap (pairs_at (pairs_below levels heap) heap r) (node_same r used)
      ∙ bare_pairs_at (pairs_below levels heap) heap r (node_under states last r) ∙ by_node (λ q. pairs_shown levels q) (node_under states last r) refl
    where
      by_node : ((q : Ref) → IsInUse heap q → pairs_below levels heap q ≡ pairs_from (node_under states last) (counting_main states last t) levels q) → (n : Node) → node_under states last r ≡ n →
          pairs_at (pairs_below levels heap) heap r n ≡ pairs_of (pairs_from (node_under states last) (counting_main states last t) levels) (node_under states last) (counting_main states last t) r n
      by_node rest (Indirection g w) is =
          let link : is_indirection (node_under states last r) ≡ true = ap is_indirection is in
          flat_map-same (pairs_below levels heap) (pairs_from (node_under states last) (counting_main states last t) levels) (entries_of (node_at heap (logical_main heap r)))
          (λ q c. rest q (entry_used (logical_main heap r) q (main_used r used link) c))
          ∙ ap (flat_map (pairs_from (node_under states last) (counting_main states last t) levels)) (entries_same r used link)
      by_node rest (Single k v) is = refl
      by_node rest (Branch b es) is = refl
      by_node rest (Tomb s) is = refl
      by_node rest (Listed ss) is = refl

  -- ---- a root

  module _ (handle : ℕ) (root : Root) (at : root_at (states t) handle ≡ Some root) where
    abbrev r : Ref
    r = root_of root.word

    pub root_used : IsInUse heap r
    root_used = safe_of (root_wanted (IsInUse heap) heap root.word (safe.words handle root at))

    pub root_link : is_indirection (node_under states last r) ≡ true
    root_link = sym (link_same r root_used) ∙ meets_of (root_wanted (IsInUse heap) heap root.word (safe.words handle root at))

    level_is : level_until states steps last r ≡ 1
    level_is = word_root (level_until states steps last) root.word ((levels_there steps run takes t within).0.words handle root at)

    pub root_deep : trie.depth r ≡ 0
    root_deep = ap (λ b. cond b (depth_at (level_until states steps last r)) 0) root_link ∙ ap depth_at level_is

    pub root_led : trie.path r ≡ 0
    root_led = ap (λ b. cond b (path_until states steps last r) 0) root_link ∙ root_path (sites_of states steps last) (paths_fit states steps last) r level_is

    shape : HasShape trie
    shape = runs_have_shape limits states steps last run takes keys

    -- the trie at this time, with this root alone
    abbrev pub now : Trie
    now = record trie { last = 0; main = λ n. counting_main states last t; root = λ g. r }

    pub is_trie_now : IsTrie now
    is_trie_now = record {
      has_key = shape.has_key;
      root_depth = λ g. root_deep;
      root_path = λ g. root_led;
      path_fits = shape.path_fits;
      shaped = λ n i le. same_shape trie 0 (λ n. counting_main states last t) (λ g. r) i _ (shape.shaped t i within);
      does = λ n lt. absurd (omega (arith, lt));
    }

    pub content_now : content now 0 0 ≡ map_of trie.keys (value_below trie t r)
    unfolding content
    content_now = map_of-same trie.keys _ _ (λ key. found_alike trie.node _ key _ _ (assigned-last now 0) most_levels 0 r)

    pub content_shown : content_at (states t) handle ≡ entries (map_of trie.keys (value_below trie t r))
    content_shown =
        ap (λ o. by_key (pairs_below most_levels heap (root_of (word_of o)))) at ∙ ap by_key (pairs_shown most_levels r root_used)
        ∙ reached_entries now is_trie_now 0 (indirection_is (node_under states last r) root_link).0 (indirection_is (node_under states last r) root_link).1
        (indirection_is (node_under states last r) root_link).2
        ∙ ap entries content_now

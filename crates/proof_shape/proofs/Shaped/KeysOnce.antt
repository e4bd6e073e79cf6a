-- In what a handle's root reaches no key stands twice, and nothing lies deeper than the levels of a trie.
use Rattle.std.proofs.Common.{◌≡◌, ℕ, zero, suc, ◌+◌, true, cond, T, List, Contains, flat_map, Some, refl, sym, ap, subst, ◌∙◌, arith}
use Rattle.std.specs.FinMap.{entries, entries_sorted}
use Rattle.std.specs.FinMap.Entries.{is_sorted}
use Rattle.std.specs.Ordering.{nat_cmp}
use Rattle.proof_shape.specs.Vocabulary.{Ref, Node, Indirection, Branch, Single, Tomb, List as Listed, node_of, entries_of, no_ref, Root, Bounds, Step, State, root_of, root_at as handle_at, word_of}
use Rattle.proof_shape.specs.Vocabulary.{from_slot, content_at, pairs_below, most_levels, refs_of_root, by_key, IsRun, node_under, AnIndirection, IsInUse, Trie, content, IsShaped, branch, list}
use Rattle.proof_shape.specs.Vocabulary.{tomb, counting_main, pairs_of, ReachesInUse}
use Rattle.proof_shape.specs.Beneath.machine_model.specs.Contents.{from_root}
use Rattle.proof_shape.specs.Beneath.proof_memory.specs.Wants.{is_indirection}
use Rattle.proof_shape.specs.Beneath.proof_memory.proofs.Safety.AtEachTime.{safe_at}
use Rattle.proof_shape.specs.Beneath.proof_memory.proofs.Safety.AtTimes.{kind_at}
use Rattle.proof_shape.specs.Beneath.proof_memory.proofs.Safety.States.{IsSafe}
use Rattle.proof_shape.specs.Beneath.proof_memory.proofs.Safety.Standing.{in_root, in_any_slot}
use Rattle.proof_shape.specs.Beneath.proof_contents.specs.Steps.{IsTrie}
use Rattle.proof_shape.specs.Beneath.proof_contents.specs.Pairs.{pairs_from}
use Rattle.proof_shape.specs.Beneath.proof_contents.proofs.Pairs.Heap.{pairs_are, flat_map-same, word_root as names_root}
use Rattle.proof_shape.specs.Beneath.proof_contents.proofs.Pairs.Shown.{reached_entries}
use Rattle.proof_shape.specs.Sites.Nodes.{depth_at, level_until, path_until}
use Rattle.proof_shape.specs.Sites.Lines.{Sites, sites_of, bare}
use Rattle.proof_shape.specs.Sites.At.{TakesSteps, StepsFit}
use Rattle.proof_shape.specs.Shaped.{HasShape, bare_trie_of_run}
use Rattle.proof_shape.proofs.Sites.Given.{levels_there}
use Rattle.proof_shape.proofs.Shaped.Places.{bare_entries, bare_link_node}
use Rattle.proof_shape.proofs.Sites.Runs.{paths_fit}
use Rattle.proof_shape.proofs.Sites.Acts.{root_path}
use Rattle.proof_shape.proofs.Sites.Roots.{word_root}
use Rattle.proof_shape.proofs.Shaped.Trie.{bare_runs_have_shape}
use Rattle.proof_shape.proofs.Shaped.Roots.{root_wanted}
use Rattle.proof_shape.specs.Beneath.proof_contents.proofs.Pairs.Walks.{enough}

-- bare nodes reach the same pairs
module _ (node : Ref → Node) (main : Ref → Ref) where
  bare_pairs_of : (f g : Ref → List (ℕ × ℕ)) → ((q : Ref) → f q ≡ g q) → (r : Ref) (n : Node) → pairs_of f (λ q. bare (node q)) main r (bare n) ≡ pairs_of g node main r n
  bare_pairs_of f g same r (Indirection h w) = ap (flat_map f) (bare_entries (node (main r))) ∙ flat_map-same f g (entries_of (node (main r))) (λ q within. same q)
  bare_pairs_of f g same r (Branch b es) = refl
  bare_pairs_of f g same r (Single k v) = refl
  bare_pairs_of f g same r (Tomb t) = refl
  bare_pairs_of f g same r (Listed ss) = refl

  bare_pairs : (levels : ℕ) (r : Ref) → pairs_from (λ q. bare (node q)) main levels r ≡ pairs_from node main levels r
  unfolding pairs_from
  bare_pairs zero r = refl
  bare_pairs (suc levels) r = bare_pairs_of (pairs_from (λ q. bare (node q)) main levels) (pairs_from node main levels) (bare_pairs levels) r (node r)

-- the shape doesn't ask for times and roots
pub same_shape : (trie : Trie) (last : ℕ) (main : ℕ → Ref → Ref) (root : ℕ → Ref) (i : Ref) (n : Node) → IsShaped trie i n → IsShaped (record trie { last = last; main = main; root = root }) i n
same_shape trie last main root i n (branch b es places is has shallow in_place led children) =
    branch b es places is has shallow in_place led (λ x g child w at its. let c = children x g child w at its in record { deeper = c.deeper; led = c.led; older = c.older })
same_shape trie last main root i n (list ss is are most deep one_hash) = list ss is are most deep one_hash
same_shape trie last main root i n (tomb t k v is own led) = tomb t k v is own led

pub reaches_in_use : (state : State) → IsSafe state → ReachesInUse state
reaches_in_use state I r (from_root handle q within) = in_root state I handle q within
reaches_in_use state I r (from_slot p q reached within) = in_any_slot state I p q within

module _ {limits : Bounds} {states : ℕ → State} (steps : ℕ → Step) {last : ℕ} (run : IsRun limits states last) (takes : TakesSteps states steps last) (keys : StepsFit steps last)
    (handle : ℕ) (root : Root) (at : handle_at (states last) handle ≡ Some root) where
  abbrev pub s : Sites
  s = sites_of states steps last

  abbrev pub r : Ref
  r = root_of root.word

  shape : HasShape (bare_trie_of_run limits states steps last)
  shape = bare_runs_have_shape limits states steps last run takes keys

  pub I : IsSafe (states last)
  I = safe_at run last (omega arith)

  -- the trie in the end, with this root alone
  abbrev pub trie : Trie
  trie = record (bare_trie_of_run limits states steps last) { last = 0; main = λ t i. counting_main states last last i; root = λ g. r }

  pub level_is : s.level r ≡ 1
  level_is = word_root s.level root.word ((levels_there steps run takes last (omega arith)).0.words handle root at)

  pub link : is_indirection (node_under states last r) ≡ true
  link =
      let (slot, found, is) = kind_at states last r AnIndirection (root_wanted (IsInUse (states last).heap) (states last).heap root.word (I.words handle root at)) in
      ap (λ o. is_indirection (node_of o)) found ∙ is

  pub depth_is : trie.depth r ≡ 0
  depth_is = ap (λ b. cond b (depth_at (level_until states steps last r)) 0) link ∙ ap depth_at level_is

  pub ok : IsTrie trie
  ok = record {
    has_key = shape.has_key;
    root_depth = λ g. depth_is;
    root_path = λ g. ap (λ b. cond b (path_until states steps last r) 0) link ∙ root_path s (paths_fit states steps last) r level_is;
    path_fits = shape.path_fits;
    shaped = λ t i le. same_shape (bare_trie_of_run limits states steps last) 0 (λ t i. counting_main states last last i) (λ g. r) i _ (shape.shaped last i (omega arith));
    does = λ t lt. absurd (omega (arith, lt));
  }

  pub reached : (levels : ℕ) → pairs_below levels (states last).heap r ≡ pairs_from trie.node (λ i. counting_main states last last i) levels r
  reached levels =
      pairs_are states last (reaches_in_use (states last) I) levels r (from_root handle r (subst (λ o. Contains (refs_of_root o) r) (sym at) (names_root root.word)))
      ∙ sym (bare_pairs (node_under states last) (λ i. counting_main states last last i) levels r)

  content_is : content_at (states last) handle ≡ entries (content trie 0 0)
  content_is =
      ap (λ o. by_key (pairs_below most_levels (states last).heap (root_of (word_of o)))) at ∙ ap by_key (reached most_levels)
      ∙ reached_entries trie ok 0 0 no_ref (bare_link_node s r link)

  pub keys_rise : T (is_sorted nat_cmp (content_at (states last) handle))
  keys_rise = subst (λ ps. T (is_sorted nat_cmp ps)) (sym content_is) (entries_sorted (content trie 0 0))

  pub nothing_deeper : (more : ℕ) → pairs_below (most_levels + more) (states last).heap r ≡ pairs_below most_levels (states last).heap r
  nothing_deeper more =
      reached (most_levels + more) ∙ enough trie ok (most_levels + more) most_levels r (omega arith) (omega arith)
      (λ g w is. (omega arith, omega arith, omega (arith, depth_is))) ∙ sym (reached most_levels)

-- The trie of a run has its shape at each time.
use Rattle.std.proofs.Common.{◌≡◌, ℕ, zero, suc, ◌+◌, ◌-◌, ◌*◌, ◌%◌, ◌^◌, ◌<◌, ◌≤◌, Bool, true, false, cond, List, ◌∷◌, Contains, Option, Some, None, is_some, unwrap_or, ◌⊎◌, inl}
use Rattle.std.proofs.Common.{inr, refl, sym, ap, ap₂, subst, ◌∙◌, arith, []}
use Rattle.std.proofs.lemmas.Bool.{false≢true, cond_both}
use Rattle.proof_shape.specs.Vocabulary.{hash_of, Ref, Node, Indirection, Branch, Single, Slot, node_of, prev_of, logical, entries_of, no_ref, empty_branch, entries_from, index_in, list_depth}
use Rattle.proof_shape.specs.Vocabulary.{Bounds, Step, State, IsRun, grown, node_under, main_before, look_at, look_among, or_else, AreSingles, at_place, Trie, generation, IsChild, IsShaped, branch}
use Rattle.proof_shape.specs.Vocabulary.{list, tomb, node_in, is_made, main_within, counting_main, root_until}
use Rattle.proof_shape.specs.Beneath.proof_contents.proofs.Nodes.Branches.{before, standing_at}
use Rattle.proof_shape.specs.Beneath.proof_contents.proofs.Nodes.Tombs.{before-lt}
use Rattle.proof_shape.specs.Beneath.proof_memory.specs.Wants.{is_indirection}
use Rattle.proof_shape.specs.Beneath.proof_memory.proofs.Levels.Shapes.{deep_low}
use Rattle.proof_shape.specs.Beneath.proof_contents.proofs.Values.Runs.{key_until}
use Rattle.proof_shape.specs.Beneath.proof_contents.proofs.Shapes.Builders.{empty_shaped}
use Rattle.proof_shape.specs.Beneath.proof_contents.proofs.Shapes.Lists.{shape_moves}
use Rattle.proof_shape.specs.Beneath.proof_memory.proofs.Claims.Nodes.{no_main}
use Rattle.proof_shape.specs.Beneath.proof_memory.proofs.Heap.NoRef.{nothing_stands}
use Rattle.proof_shape.specs.Beneath.proof_commits.proofs.Words.OfRuns.{link_made}
use Rattle.proof_shape.specs.Sites.Nodes.{depth_at, level_until, path_until}
use Rattle.proof_shape.specs.Sites.Lines.{Sites, sites_of, bare, trie_at}
use Rattle.proof_shape.specs.Sites.At.{TakesSteps, StepsFit}
use Rattle.proof_shape.specs.Shaped.{HasShape, trie_of_run, RunsHaveShape, BareRunsHaveShape}
use Rattle.proof_shape.proofs.Shaped.Places.{bare_single, bare_branch, bare_list, bare_tomb, bare_link, bare_again, bare_generation}
use Rattle.proof_shape.proofs.Shaped.Changed.{bare_look}
use Rattle.proof_shape.proofs.Sites.Made.{stands}
use Rattle.proof_shape.proofs.Sites.Acts.{root_path}
use Rattle.proof_shape.proofs.Sites.Runs.{paths_fit}
use Rattle.proof_generations.proofs.Falling.Generations.{none_is_newer}
use Rattle.proof_shape.proofs.Sites.Roots.{level_of_root}
use Rattle.proof_shape.proofs.Sites.Grown.{link_same, counts, made_shaped}

-- the trie of a run, where nodes are shown so
abbrev Shown : Bounds → (ℕ → State) → (ℕ → Step) → ℕ → (Node → Node) → Trie
Shown limits states steps last shown = record (trie_of_run limits states steps last) { node = λ r. shown (node_under states last r) }

abbrev IsNewer : Trie → Type 0
IsNewer trie =
    (t : ℕ) → t ≤ trie.last → (i child : Ref) (h : ℕ) (word : Ref) → Contains (entries_of (node_in trie t i)) child → trie.node child ≡ Indirection h word → generation trie child ≤ generation trie i

-- whether generations of indirections are shown or not
module _ {limits : Bounds} {states : ℕ → State} (steps : ℕ → Step) {last : ℕ} (run : IsRun limits states last) (takes : TakesSteps states steps last) (keys : StepsFit steps last)
    (shown : Node → Node) (tells : (n : Node) → bare (shown n) ≡ bare n) (newer : IsNewer (Shown limits states steps last shown)) where
  abbrev s : Sites
  s = sites_of states steps last

  abbrev trie : Trie
  trie = Shown limits states steps last shown

  abbrev T : Trie
  T = trie_at limits.hash s

  shown_link : (n : Node) → is_indirection (shown n) ≡ is_indirection n
  shown_link n = sym (bare_link (shown n)) ∙ ap is_indirection (tells n) ∙ bare_link n

  bare_shown : (r : Ref) (n : Node) → trie.node r ≡ n → T.node r ≡ bare n
  bare_shown r n e = sym (tells (node_under states last r)) ∙ ap bare e

  -- ---- sites of indirections

  depth_is : (i : Ref) → is_indirection (node_under states last i) ≡ true → trie.depth i ≡ T.depth i
  depth_is i e = ap (λ b. cond b (depth_at (level_until states steps last i)) 0) e

  path_is : (i : Ref) → is_indirection (node_under states last i) ≡ true → trie.path i ≡ T.path i
  path_is i e = ap (λ b. cond b (path_until states steps last i) 0) e

  fits : (i : Ref) → trie.path i < 2 ^ (5 * trie.depth i)
  fits i = by_test (is_indirection (node_under states last i))
    where
      by_test : (b : Bool) → cond b (path_until states steps last i) 0 < 2 ^ (5 * cond b (depth_at (level_until states steps last i)) 0)
      by_test true = paths_fit states steps last i
      by_test false = omega arith

  -- ---- a main node of an indirection

  single_shown : (r : Ref) (k v : ℕ) → T.node r ≡ Single k v → trie.node r ≡ Single k v
  single_shown r k v e = bare_single (trie.node r) k v (tells (node_under states last r) ∙ e)

  same_look : (key : ℕ) (r : Ref) → look_at key r (T.node r) ≡ look_at key r (trie.node r)
  same_look key r = sym (ap (look_at key r) (tells (node_under states last r))) ∙ bare_look key r (trie.node r)

  same_among : (key : ℕ) (singles : List Ref) → look_among T.node key singles ≡ look_among trie.node key singles
  same_among key [] = refl
  same_among key (r ∷ singles) = ap₂ or_else (same_look key r) (same_among key singles)

  singles_are : (singles : List Ref) → AreSingles T.node singles → AreSingles trie.node singles
  singles_are [] are = tt
  singles_are (r ∷ singles) are = (
    record {
      key = are.0.key;
      value = are.0.value;
      is = single_shown r are.0.key are.0.value are.0.is;
      none = sym (same_among are.0.key singles) ∙ are.0.none;
    },
    singles_are singles are.1,
  )

  module _ (i : Ref) (link : is_indirection (node_under states last i) ≡ true) where
    child_of : (x g : ℕ) (child w : Ref) → trie.node child ≡ Indirection g w → generation trie child ≤ generation trie i → IsChild T i x child → IsChild trie i x child
    child_of x g child w is old c =
        let its : is_indirection (node_under states last child) ≡ true = sym (shown_link (node_under states last child)) ∙ ap is_indirection is in
        record {
          deeper = depth_is child its ∙ c.deeper ∙ ap suc (sym (depth_is i link));
          led = path_is child its ∙ c.led ∙ ap₂ (λ p d. p + x * 2 ^ (5 * d)) (sym (path_is i link)) (sym (depth_is i link));
          older = old;
        }

    with_generations : (n : Node) →
        ((g : ℕ) (child w : Ref) → Contains (entries_of (shown n)) child → trie.node child ≡ Indirection g w → generation trie child ≤ generation trie i) → IsShaped T i n → IsShaped trie i (shown n)
    with_generations n old (branch b es places is has shallow in_place led children) =
        branch b es places its has (subst (λ d. d < list_depth limits.hash) (sym (depth_is i link)) shallow)
        (λ x k v e at single. ap (λ d. index_in (hash_of limits.hash k) d) (depth_is i link) ∙ in_place x k v e at (bare_shown e (Single k v) single))
        (λ x k v e at single. ap (λ d. hash_of limits.hash k % 2 ^ (5 * d)) (depth_is i link) ∙ led x k v e at (bare_shown e (Single k v) single) ∙ sym (path_is i link))
        (λ x g child w at its. child_of x g child w its (old g child w (stands_in x child at) its) (children x 0 child no_ref at (bare_shown child (Indirection g w) its)))
      where
        its : shown n ≡ Branch b es
        its = bare_branch (shown n) b es (tells n ∙ ap bare is)

        stands_in : (x : ℕ) (child : Ref) → at_place places x ≡ Some child → Contains (entries_of (shown n)) child
        stands_in x child at =
            subst (λ xs. Contains xs child) (sym (ap entries_of its ∙ has.stand)) (before places x, before-lt places x child at, standing_at places x child child at)
    with_generations n old (list ss is are most deep one_hash) =
        list ss (bare_list (shown n) ss (tells n ∙ ap bare is)) (singles_are ss.items are) most (depth_is i link ∙ deep)
        (λ k v e. one_hash k v (same_among k ss.items ∙ e) ∙ sym (path_is i link))
    with_generations n old (tomb t k v is own led) =
        tomb t k v (bare_tomb (shown n) t (tells n ∙ ap bare is)) (single_shown t k v own) (ap (λ d. hash_of limits.hash k % 2 ^ (5 * d)) (depth_is i link) ∙ led ∙ sym (path_is i link))

  -- ---- the main node that counts

  -- that of some state
  some_main : (left t : ℕ) (i : Ref) → t + left ≡ last → (u : ℕ) × (u ≤ last) × (main_within states t left i ≡ main_before states u i) × (is_made states last i ≡ true → is_made states u i ≡ true)
  unfolding main_within
  some_main zero t i e = let here : t ≡ last = omega (arith, e) in (t, omega (arith, e), refl, λ made. ap (λ n. is_made states n i) here ∙ made)
  some_main (suc left) t i e = by_test (some_main left (suc t) i (omega (arith, e))) (is_made states t i) refl
    where
      by_test : (u : ℕ) × (u ≤ last) × (main_within states (suc t) left i ≡ main_before states u i) × (is_made states last i ≡ true → is_made states u i ≡ true) → (b : Bool) → is_made states t i ≡ b →
          (u : ℕ) × (u ≤ last) × (cond b (main_before states t i) (main_within states (suc t) left i) ≡ main_before states u i) × (is_made states last i ≡ true → is_made states u i ≡ true)
      by_test rest true made = (t, omega (arith, e), refl, λ x. made)
      by_test rest false made = rest

  main_of_some : (t : ℕ) (i : Ref) → t ≤ last → (u : ℕ) × (u ≤ last) × (counting_main states last t i ≡ main_before states u i) × (is_made states last i ≡ true → is_made states u i ≡ true)
  main_of_some t i h = some_main (last - t) t i (omega (arith, h))

  slot_of_made : (o : Option Slot) → is_some o ≡ true → (slot : Slot) × (o ≡ Some slot)
  slot_of_made None e = absurd (false≢true e)
  slot_of_made (Some slot) e = (slot, refl)

  link_shaped : (t : ℕ) (i : Ref) → t ≤ last → is_indirection (node_under states last i) ≡ true → IsShaped trie i (node_in trie t i)
  link_shaped t i h link =
      let (u, le, is, still) = main_of_some t i h in
      let (slot, found) = slot_of_made (grown states u i) (still (link_made (grown states last i) link)) in
      let c = counts steps run takes keys u le i slot found (sym (link_same steps run takes keys u le i slot found) ∙ link) in
      with_generations i link (node_under states last (counting_main states last t i))
      (λ k child x within its. newer t h i child k x within its)
      (subst (λ m. IsShaped T i (node_under states last m)) (sym is)
      (shape_moves T (main_before states u i) i (node_under states last (main_before states u i)) (stands limits.hash s (main_before states u i) i (sym c.level) (sym c.path))
      (made_shaped steps run takes keys u le (main_before states u i) c.made)))

  -- ---- anything else has no main node

  no_link : (u : ℕ) → u ≤ last → (i : Ref) → is_indirection (node_under states last i) ≡ false → is_indirection (node_under states u i) ≡ false
  no_link u h i none = by_slot (grown states u i) refl
    where
      by_slot : (o : Option Slot) → grown states u i ≡ o → is_indirection (node_of o) ≡ false
      by_slot None e = refl
      by_slot (Some slot) e = sym (link_same steps run takes keys u h i slot e) ∙ none

  no_main_at : (u : ℕ) → u ≤ last → (i : Ref) → is_indirection (node_under states last i) ≡ false → main_before states u i ≡ no_ref
  no_main_at u h i none =
      ap (λ m. logical m (prev_of (grown states u m))) (no_main (node_under states u i) (no_link u h i none)) ∙ ap (λ o. logical no_ref (prev_of o)) (nothing_stands run u h)

  no_node : shown empty_branch ≡ empty_branch
  no_node = bare_branch (shown empty_branch) 0 (entries_from []) (tells empty_branch)

  other_shaped : (t : ℕ) (i : Ref) → t ≤ last → is_indirection (node_under states last i) ≡ false → IsShaped trie i (node_in trie t i)
  other_shaped t i h none =
      let (u, le, is, still) = main_of_some t i h in
      let root : trie.depth i ≡ 0 = ap (λ b. cond b (depth_at (level_until states steps last i)) 0) none in
      subst (IsShaped trie i)
      (sym (ap (λ m. shown (node_under states last m)) (is ∙ no_main_at u le i none)
      ∙ ap (λ o. shown (node_of o)) (nothing_stands run last (omega arith)) ∙ no_node)) (empty_shaped trie fits i (omega (arith, root, deep_low limits.hash)))

  shaped_at : (t : ℕ) (i : Ref) → t ≤ last → IsShaped trie i (node_in trie t i)
  shaped_at t i h = by_test (is_indirection (node_under states last i)) refl
    where
      by_test : (b : Bool) → is_indirection (node_under states last i) ≡ b → IsShaped trie i (node_in trie t i)
      by_test true e = link_shaped t i h e
      by_test false e = other_shaped t i h e

  -- ---- roots

  root_is : (g : ℕ) → (s.level (trie.root g) ≡ 1) ⊎ (is_indirection (node_under states last (trie.root g)) ≡ false)
  root_is g = by_root (root_until states g last) refl
    where
      by_root : (o : Option Ref) → root_until states g last ≡ o → (s.level (unwrap_or o no_ref) ≡ 1) ⊎ (is_indirection (node_under states last (unwrap_or o no_ref)) ≡ false)
      by_root None e = inr (ap (λ o. is_indirection (node_of o)) (nothing_stands run last (omega arith)))
      by_root (Some r) e = inl (level_of_root steps run takes last (omega arith) g r e)

  at_root : (r : Ref) → (s.level r ≡ 1) ⊎ (is_indirection (node_under states last r) ≡ false) → (trie.depth r ≡ 0) × (trie.path r ≡ 0)
  at_root r (inl level) = (
    cond_both (is_indirection (node_under states last r)) _ _ (λ n. n ≡ 0) (λ e. ap depth_at level) (λ e. refl),
    cond_both (is_indirection (node_under states last r)) _ _ (λ n. n ≡ 0) (λ e. root_path s (paths_fit states steps last) r level) (λ e. refl),
  )
  at_root r (inr none) = (ap (λ b. cond b (depth_at (level_until states steps last r)) 0) none, ap (λ b. cond b (path_until states steps last r) 0) none)

  has_shape : HasShape trie
  has_shape = record {
    has_key = λ r key value is. key_until states last r key value (bare_single (node_under states last r) key value (bare_shown r (Single key value) is));
    root_depth = λ g. (at_root (trie.root g) (root_is g)).0;
    root_path = λ g. (at_root (trie.root g) (root_is g)).1;
    path_fits = fits;
    shaped = shaped_at;
  }

pub runs_have_shape : RunsHaveShape
runs_have_shape limits states steps last run takes keys =
    let trie = trie_of_run limits states steps last in
    has_shape steps run takes keys (λ n. n) (λ n. refl) (λ t h i child g word. none_is_newer run trie.depth trie.path t h i child g word)

pub bare_runs_have_shape : BareRunsHaveShape
bare_runs_have_shape limits states steps last run takes keys =
    has_shape steps run takes keys bare bare_again (λ t h i child g word within is. omega (arith, bare_generation (node_under states last child)))

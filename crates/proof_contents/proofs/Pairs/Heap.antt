-- The content of a handle in the last state is that of its root's generation.
use Rattle.std.proofs.Common.{◌≡◌, ℕ, zero, suc, List, [], ◌∷◌, ◌++◌, flat_map, Contains, Some, refl, sym, ap, ap₂, subst, ◌∙◌, arith}
use Rattle.std.proofs.lemmas.List.Elements.{Contains-append_left, Contains-append_right}
use Rattle.std.specs.FinMap.{entries}
use Rattle.proof_contents.specs.Vocabulary.{Ref, Node, Indirection, Branch, Single, Tomb, List as Listed, Prev, Heap, node_at, prev_at, node_of, prev_of, main_of, main_at, logical, logical_main}
use Rattle.proof_contents.specs.Vocabulary.{entries_of, refs_of_node, refs_of_prev, refs_of_slot, Root, RootWord, Plain, Offer, Bounds, State, root_of, refs_of_word, refs_of_root, pairs_at}
use Rattle.proof_contents.specs.Vocabulary.{pairs_below, most_levels, content_at, IsReached, from_slot, by_key, node_under, prev_word, main_word, main_before}
use Rattle.proof_contents.specs.Beneath.slot_arena.specs.declared.nodes.Prev.TheVariants as prev
use Rattle.machine_model.specs.States as state
use Rattle.machine_model.specs.Contents.{from_root}
use Rattle.proof_contents.specs.Tries.{content}
use Rattle.proof_contents.specs.Steps.{IsTrie}
use Rattle.proof_contents.specs.Pairs.{pairs_of, pairs_from}
use Rattle.proof_contents.specs.Runs as run
use Rattle.proof_contents.specs.Runs.{trie_of}
use Rattle.proof_contents.specs.InUse.{ReachesInUse}
use Rattle.proof_contents.proofs.Values.Runs.{counting_main-last}
use Rattle.proof_contents.proofs.Pairs.Shown.{reached_entries}
use Rattle.machine_model.proofs.Grown.{node_grown, prev_grown, standing_parts}

-- ---- what stands in use is what stood last

pub flat_map-same : (f g : Ref → List (ℕ × ℕ)) (rs : List Ref) → ((r : Ref) → Contains rs r → f r ≡ g r) → flat_map f rs ≡ flat_map g rs
flat_map-same f g [] h = refl
flat_map-same f g (r ∷ rs) h = ap₂ (λ a b. a ++ b) (h r (0, omega arith, refl)) (flat_map-same f g rs (λ q c. h q (suc c.0, omega (arith, c.1), c.2)))

-- entries are references of the node
pub entry_refs : (n : Node) (r : Ref) → Contains (entries_of n) r → Contains (refs_of_node n) r
entry_refs (Indirection g m) r c = absurd (omega (arith, c.1))
entry_refs (Branch bitmap es) r c = c
entry_refs (Single k v) r c = c
entry_refs (Tomb s) r c = c
entry_refs (Listed ss) r c = c

-- a root word names its root
pub word_root : (w : RootWord) → Contains (refs_of_word w) (root_of w)
word_root (Plain r) = (0, omega arith, refl)
word_root (Offer offer) = (0, omega arith, refl)

module _ (states : ℕ → State) (last : ℕ) (reaches : ReachesInUse (states last)) where
  abbrev heap : Heap
  heap = (states last).heap

  abbrev pub Reached : Ref → Type 0
  Reached r = IsReached (states last) r

  -- the node and the prev word of what is reached
  pub node_is : (r : Ref) → Reached r → node_at heap r ≡ node_under states last r
  unfolding node_at
  node_is r reached =
      let s = reaches r reached in
      node_grown states last r s.0 s.1

  prev_is : (r : Ref) → Reached r → prev_at heap r ≡ prev_word states last r
  unfolding prev_at
  prev_is r reached =
      let s = reaches r reached in
      prev_grown states last r s.0 s.1

  -- references in a slot that is reached are reached
  pub of_node : (r q : Ref) → Reached r → Contains (refs_of_node (node_at heap r)) q → Reached q
  unfolding node_at
  of_node r q reached c =
      let s = reaches r reached in
      let at = (standing_parts heap r s.0 s.1).0 in
      from_slot r q reached (subst (λ o. Contains (refs_of_slot o) q) (sym at)
      (Contains-append_left (refs_of_node s.0.node) (refs_of_prev s.0.prev) q (subst (λ o. Contains (refs_of_node (node_of o)) q) at c)))

  of_prev : (r q : Ref) → Reached r → Contains (refs_of_prev (prev_at heap r)) q → Reached q
  unfolding prev_at
  of_prev r q reached c =
      let s = reaches r reached in
      let at = (standing_parts heap r s.0 s.1).0 in
      from_slot r q reached (subst (λ o. Contains (refs_of_slot o) q) (sym at)
      (Contains-append_right (refs_of_node s.0.node) (refs_of_prev s.0.prev) q (subst (λ o. Contains (refs_of_prev (prev_of o)) q) at c)))

  -- the logical main node of an indirection that is reached
  pub logical_reached : (r : Ref) (g : ℕ) (m : Ref) → Reached r → node_at heap r ≡ Indirection g m → Reached (logical_main heap r)
  logical_reached r g m reached is = subst (λ n. Reached (logical n (prev_at heap n))) (sym (ap main_of is)) (by_prev (prev_at heap m) refl)
    where
      main_reached : Reached m
      main_reached = of_node r m reached (subst (λ n. Contains (refs_of_node n) m) (sym is) (0, omega arith, refl))

      by_prev : (p : Prev) → prev_at heap m ≡ p → Reached (logical m p)
      by_prev prev.None e = main_reached
      by_prev (prev.Pending p) e = of_prev m p main_reached (subst (λ w. Contains (refs_of_prev w) p) (sym e) (0, omega arith, refl))
      by_prev (prev.Failed p) e = of_prev m p main_reached (subst (λ w. Contains (refs_of_prev w) p) (sym e) (0, omega arith, refl))

  pub logical_is : (r : Ref) (g : ℕ) (m : Ref) → Reached r → node_at heap r ≡ Indirection g m → logical_main heap r ≡ main_before states last r
  logical_is r g m reached is =
      let main_reached : Reached m = of_node r m reached (subst (λ n. Contains (refs_of_node n) m) (sym is) (0, omega arith, refl)) in
      let words : main_at heap r ≡ main_word states last r = ap main_of (node_is r reached) in
      ap (λ w. logical (main_at heap r) w) (prev_is (main_at heap r) (subst Reached (sym (ap main_of is)) main_reached)) ∙ ap (λ w. logical w (prev_word states last w)) words

  -- the pairs below what is reached
  pub pairs_are : (levels : ℕ) (r : Ref) → Reached r → pairs_below levels heap r ≡ pairs_from (node_under states last) (λ i. run.counting_main states last last i) levels r
  unfolding pairs_below pairs_from
  pairs_are zero r reached = refl
  pairs_are (suc levels) r reached =
      by_node (λ q. pairs_are levels q) (node_at heap r) refl
      ∙ ap (pairs_of (pairs_from (node_under states last) (λ i. run.counting_main states last last i) levels) (node_under states last) (λ i. run.counting_main states last last i) r)
      (node_is r reached)
    where
      by_node : ((q : Ref) → Reached q → pairs_below levels heap q ≡ pairs_from (node_under states last) (λ i. run.counting_main states last last i) levels q) → (n : Node) → node_at heap r ≡ n →
          pairs_at (pairs_below levels heap) heap r n
          ≡ pairs_of (pairs_from (node_under states last) (λ i. run.counting_main states last last i) levels) (node_under states last) (λ i. run.counting_main states last last i) r n
      by_node rest (Indirection g m) is =
          let reached_main = logical_reached r g m reached is in
          flat_map-same (pairs_below levels heap) (pairs_from (node_under states last) (λ i. run.counting_main states last last i) levels) (entries_of (node_at heap (logical_main heap r)))
          (λ q c. rest q (of_node (logical_main heap r) q reached_main (entry_refs (node_at heap (logical_main heap r)) q c)))
          ∙ ap (λ n. flat_map (pairs_from (node_under states last) (λ i. run.counting_main states last last i) levels) (entries_of n))
          (node_is (logical_main heap r) reached_main ∙ ap (node_under states last) (logical_is r g m reached is ∙ sym (counting_main-last states last r)))
      by_node rest (Single k v) is = refl
      by_node rest (Branch bitmap es) is = refl
      by_node rest (Tomb s) is = refl
      by_node rest (Listed ss) is = refl

  -- ---- handles

  root_reached : (handle : ℕ) (root : Root) → state.root_at (states last) handle ≡ Some root → Reached (root_of root.word)
  root_reached handle root e =
      from_root handle (root_of root.word) (subst (λ o. Contains (refs_of_root o) (root_of root.word)) (sym e) (word_root root.word))

  module _ (limits : Bounds) (depth path : Ref → ℕ) (ok : IsTrie (trie_of limits states last depth path)) where
    -- the content of an open handle is that of its root's generation
    pub content_is : (handle : ℕ) (root : Root) (g h : ℕ) (word : Ref) → state.root_at (states last) handle ≡ Some root → run.root_of_generation states last g ≡ root_of root.word →
        node_under states last (root_of root.word) ≡ Indirection h word →
        content_at (states last) handle ≡ entries (content (trie_of limits states last depth path) g last)
    content_is handle root g h word e same is =
        ap by_key (ap (λ o. pairs_below most_levels heap (root_of (state.word_of o))) e ∙ pairs_are most_levels (root_of root.word) (root_reached handle root e)
        ∙ ap (pairs_from (node_under states last) (λ i. run.counting_main states last last i) most_levels) (sym same))
        ∙ reached_entries (trie_of limits states last depth path) ok g h word (ap (node_under states last) same ∙ is)

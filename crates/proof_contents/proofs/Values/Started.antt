-- Nodes of a state are nodes of the trie; the first generation is empty at first.
use Rattle.std.proofs.Common.{◌≡◌, ◌≢◌, ℕ, zero, suc, ◌≤◌, ◌==◌, cond, Some, None, is_some, refl, ap, ◌∙◌, arith, unwrap_or}
use Rattle.std.specs.FinMap as map
use Rattle.proof_contents.specs.Vocabulary.{ref_to, Ref, Node, Indirection, Branch, Single, Tomb, List as Listed, Slot, stored, node_at, node_of, generation_of, generation_at, empty_branch}
use Rattle.proof_contents.specs.Vocabulary.{with_main_word, taken, logical, main_of, prev_of, Bounds, State, first_state, first_heap, standing, grown, node_under, prev_word, IsRun}
use Rattle.proof_contents.specs.Beneath.slot_arena.specs.declared.nodes.Prev.TheVariants as prev
use Rattle.proof_contents.specs.Tries.{content}
use Rattle.proof_contents.specs.Steps.{IsTrie}
use Rattle.proof_contents.specs.Grows.{NodesStay}
use Rattle.proof_contents.specs.Runs.{counting_main, or_other, root_among, root_until, root_of_generation, trie_of}
use Rattle.proof_contents.proofs.Values.Runs.{counting_main-made}
use Rattle.proof_contents.proofs.Changes.Openings.{empty_opens}
use Rattle.machine_model.proofs.Basics.{two_or_more}

-- a node that isn't an indirection has no main word
no_word : (n : Node) (m : Ref) → ((g : ℕ) (w : Ref) → n ≢ Indirection g w) → with_main_word m n ≡ n
no_word (Indirection g w) m not = absurd (not g w refl)
no_word (Branch b es) m not = refl
no_word (Single k v) m not = refl
no_word (Tomb s) m not = refl
no_word (Listed ss) m not = refl

module _ (states : ℕ → State) (last : ℕ) (stay : NodesStay states last) where
  -- a node that stood under a reference is the trie's, if it is no indirection
  pub node_stays : (t : ℕ) (r : Ref) (slot : Slot) → t ≤ last → grown states t r ≡ Some slot → ((g : ℕ) (w : Ref) → slot.node ≢ Indirection g w) → node_under states last r ≡ slot.node
  node_stays t r slot le e not =
      let now = stay t last le (omega arith) r slot e in
      ap node_of now.1 ∙ now.2.1 ∙ no_word slot.node now.2.0 not

  -- an indirection keeps its generation
  pub indirection_stays : (t : ℕ) (r : Ref) (slot : Slot) (g : ℕ) (w : Ref) → t ≤ last → grown states t r ≡ Some slot → slot.node ≡ Indirection g w →
      (m : Ref) × (node_under states last r ≡ Indirection g m)
  indirection_stays t r slot g w le e is =
      let now = stay t last le (omega arith) r slot e in
      (now.2.0, ap node_of now.1 ∙ now.2.1 ∙ ap (with_main_word now.2.0) is)

-- a root that was found stays found
root_stays : (states : ℕ → State) (g t : ℕ) (r : Ref) → root_until states g zero ≡ Some r → root_until states g t ≡ Some r
unfolding root_until
root_stays states g zero r e = e
root_stays states g (suc t) r e = ap (λ o. or_other o (root_among (states (suc t)).heap g (states (suc t)).roots)) (root_stays states g t r e)

-- ---- the first state

first_root : Slot
first_root = record { birth = 2; node = Indirection 0 (ref_to 1 0); prev = prev.None }

first_branch : Slot
first_branch = record { birth = 1; node = empty_branch; prev = prev.None }

root_standing : (n : ℕ) → standing (first_heap (suc (suc n))) (ref_to 2 1) ≡ Some first_root
unfolding stored taken first_root
root_standing n = refl

branch_standing : (n : ℕ) → standing (first_heap (suc (suc n))) (ref_to 1 0) ≡ Some first_branch
unfolding stored taken first_branch
branch_standing n = refl

pub first_generation : (n : ℕ) → generation_at (first_heap (suc (suc n))) (ref_to 2 1) ≡ 0
unfolding node_at stored taken
first_generation n = refl

first_among : (limits : Bounds) (n : ℕ) → limits.slots ≡ suc (suc n) → root_among (first_state limits).heap 0 (first_state limits).roots ≡ Some (ref_to 2 1)
unfolding first_state
first_among limits n e =
    ap (λ g. or_other (cond (g == 0) (Some (ref_to 2 1)) None) None) (ap (λ k. generation_at (first_heap k) (ref_to 2 1)) e ∙ first_generation n)

pub first_heap_is : (limits : Bounds) → (first_state limits).heap ≡ first_heap limits.slots
unfolding first_state
first_heap_is limits = refl

module _ {limits : Bounds} {states : ℕ → State} {last : ℕ} (r : IsRun limits states last) (stay : NodesStay states last) where
  slots_are : (n : ℕ) × (limits.slots ≡ suc (suc n))
  slots_are = two_or_more limits.slots r.limits_ok.0

  first_standing : (q : Ref) → standing (states zero).heap q ≡ standing (first_heap (suc (suc slots_are.0))) q
  first_standing q = ap (λ (s : State). standing s.heap q) r.first ∙ ap (λ h. standing h q) (first_heap_is limits ∙ ap first_heap slots_are.1)

  root_at_first : grown states zero (ref_to 2 1) ≡ Some first_root
  unfolding grown
  root_at_first = first_standing (ref_to 2 1) ∙ root_standing slots_are.0

  branch_at_first : grown states zero (ref_to 1 0) ≡ Some first_branch
  unfolding grown
  branch_at_first = first_standing (ref_to 1 0) ∙ branch_standing slots_are.0

  root_until_first : root_until states 0 zero ≡ Some (ref_to 2 1)
  unfolding root_until
  root_until_first = ap (λ (s : State). root_among s.heap 0 s.roots) r.first ∙ first_among limits slots_are.0 slots_are.1

  -- the first root is that of generation 0
  pub root_is : root_of_generation states last 0 ≡ ref_to 2 1
  root_is = ap (λ o. unwrap_or o 0) (root_stays states 0 last (ref_to 2 1) root_until_first)

  root_generation : generation_of (node_under states last (ref_to 2 1)) ≡ 0
  unfolding first_root
  root_generation = ap generation_of (indirection_stays states last stay zero (ref_to 2 1) first_root 0 (ref_to 1 0) (omega arith) root_at_first refl).1

  root_main : counting_main states last zero (ref_to 2 1) ≡ ref_to 1 0
  unfolding first_root first_branch
  root_main =
      counting_main-made states last zero (ref_to 2 1) (ap is_some root_at_first)
      ∙ ap (λ o. logical (main_of (node_of o)) (prev_word states zero (main_of (node_of o)))) root_at_first
      ∙ ap (λ o. logical (ref_to 1 0) (prev_of o)) branch_at_first

  branch_is : node_under states last (ref_to 1 0) ≡ empty_branch
  unfolding first_branch
  branch_is = node_stays states last stay zero (ref_to 1 0) first_branch (omega arith) branch_at_first (λ g w e. let bad : empty_branch ≡ Indirection g w = e in cc)

  -- the first generation's content is empty at first
  pub starts_empty : (depth path : Ref → ℕ) → IsTrie (trie_of limits states last depth path) → content (trie_of limits states last depth path) 0 0 ≡ map.empty
  starts_empty depth path ok =
      empty_opens (trie_of limits states last depth path) ok 0 0 (ap (λ q. generation_of (node_under states last q)) root_is ∙ root_generation)
      (ap (λ q. node_under states last (counting_main states last zero q)) root_is ∙ ap (node_under states last) root_main ∙ branch_is)

-- The laws of shape, from what holds at each time of a run.
use Rattle.std.proofs.Common.{◌≡◌, ℕ, T, ◌+◌, ◌<◌, ◌≤◌, true, List, [], ◌∷◌, All, length, get_or, Option, Some, refl, sym, ap, ap₂, subst, ◌∙◌, arith, leb-true}
use Rattle.std.proofs.lemmas.Bool.{false≢true}
use Rattle.std.proofs.lemmas.List.Elements.{All-head, All-tail}
use Rattle.std.specs.FinMap.Entries.{is_sorted}
use Rattle.std.specs.Ordering.{nat_cmp}
use Rattle.arrayvec.specs.ArrayVec.{ArrayVec}
use Rattle.proof_shape.specs.Vocabulary.{hash_of, Ref, Node, Indirection, Branch, Single, Tomb, List as Listed, Slot, Heap, node_at, no_ref, list_depth, Bounds, Step, State, root_at, root_of}
use Rattle.proof_shape.specs.Vocabulary.{AreBounds, run, content_at, pairs_below, most_levels, states_of, last_of, standing, KeysFit, HasPlaces, at_place, AreSingles, Has, look_at, look_among}
use Rattle.proof_shape.specs.Vocabulary.{or_else, AnEntry, ASingle, meets, AllHold, node_wants, is_formed, IsInUse}
use Rattle.proof_shape.specs.Beneath.proof_contents.proofs.Nodes.Branches.{before, standing_at}
use Rattle.proof_shape.specs.Beneath.proof_contents.proofs.Nodes.Tombs.{before-lt}
use Rattle.proof_shape.specs.Beneath.machine_model.proofs.Times.{run_is, run_ends}
use Rattle.proof_shape.specs.Beneath.proof_memory.specs.Wants.{is_indirection}
use Rattle.proof_shape.specs.Beneath.proof_memory.proofs.Claims.Uses.{Meets, all_of}
use Rattle.proof_shape.specs.Beneath.proof_memory.proofs.Safety.AtEachTime.{safe_along}
use Rattle.proof_shape.specs.Beneath.proof_memory.proofs.Levels.States.{heaped_in_use}
use Rattle.proof_shape.specs.Beneath.proof_contents.proofs.Shapes.Nodes.{IsBranch, branch_shape, list_shape}
use Rattle.proof_shape.specs.Sites.Nodes.{steps_of, path_of}
use Rattle.proof_shape.specs.Sites.Lines.{Sites, sites_of, bare, trie_at, InsideSite}
use Rattle.proof_shape.specs.Sites.At.{StepsFit}
use Rattle.proof_shape.specs.Laws.{depth_of, StandsAt, BranchesAreExact, BranchesBelowRoots, ListsAreCrowds, NoKeyTwice}
use Rattle.proof_shape.proofs.Sites.Stepped.{takes_steps}
use Rattle.proof_shape.proofs.Shaped.Changed.{bare_look}
use Rattle.proof_shape.proofs.Shaped.Places.{bare_single, bare_link}
use Rattle.proof_shape.proofs.Sites.Runs.{are_bare, sites_there}
use Rattle.proof_shape.proofs.Shaped.KeysOnce.{keys_rise, nothing_deeper}
use Rattle.proof_shape.proofs.Sites.Fixed.{keys_fit}
use Rattle.proof_shape.proofs.Full.Lists.{IsFull}
use Rattle.proof_shape.proofs.Full.Made.{FullNode}
use Rattle.proof_shape.proofs.Full.Runs.{full_grown}
use Rattle.proof_shape.specs.Beneath.machine_model.proofs.Grown.{node_standing, grown_in_use}

module _ (limits : Bounds) (ok : AreBounds limits) (steps : List Step) (fit : KeysFit steps) where
  abbrev s : Sites
  s = sites_of (states_of limits steps) (steps_of limits steps) (last_of limits steps)

  abbrev heap : Heap
  heap = (run limits steps).heap

  keys : StepsFit (steps_of limits steps) (last_of limits steps)
  keys = keys_fit limits steps fit

  -- what stands in the end
  inside : (r : Ref) (slot : Slot) → standing heap r ≡ Some slot → InsideSite limits.hash s r slot.node
  inside r slot found =
      ((sites_there (steps_of limits steps) (run_is limits steps ok) (takes_steps limits steps) keys
      (last_of limits steps) (omega arith)).nodes r slot
      (ap (λ (x : State). standing x.heap r) (run_ends limits steps) ∙ found)).0

  bares : (r : Ref) → IsInUse heap r → bare (s.node r) ≡ bare (node_at heap r)
  bares r (slot, found) =
      are_bare (steps_of limits steps) (run_is limits steps ok) (takes_steps limits steps) (last_of limits steps) (omega arith) r slot
      (ap (λ (x : State). standing x.heap r) (run_ends limits steps) ∙ found) ∙ ap bare (sym (node_standing heap r slot found))

  entries_used : (r : Ref) (slot : Slot) → standing heap r ≡ Some slot → AllHold (IsInUse heap) heap (node_wants slot.node)
  entries_used r slot found =
      subst (λ n. AllHold (IsInUse heap) heap (node_wants n)) (node_standing heap r slot found) ((heaped_in_use (run limits steps) (safe_along limits ok steps)).inside r (slot, found))

  -- ---- branches

  module _ (r : Ref) (bitmap : ℕ) (es : ArrayVec Ref) (b : IsBranch (trie_at limits.hash s) r bitmap es) (used : All (Meets (IsInUse heap) heap AnEntry) es.items) where
    stands : (x : ℕ) (entry : Ref) → at_place b.places x ≡ Some entry → StandsAt limits steps r x entry (node_at heap entry)
    stands x entry at = by_node (node_at heap entry) refl safe.1
      where
        safe : Meets (IsInUse heap) heap AnEntry entry
        safe =
            subst (Meets (IsInUse heap) heap AnEntry) (ap (λ xs. get_or xs (before b.places x) entry) b.has.stand ∙ standing_at b.places x entry entry at)
            (used (before b.places x) entry (omega (arith, before-lt b.places x entry at, ap length b.has.stand)))

        by_node : (n : Node) → node_at heap entry ≡ n → meets AnEntry n ≡ true → StandsAt limits steps r x entry n
        by_node (Single k v) is e = let its = bares entry safe.0 ∙ ap bare is in (b.in_place x k v entry at its, b.led x k v entry at its)
        by_node (Indirection g w) is e = let c = b.children x 0 entry no_ref at (bares entry safe.0 ∙ ap bare is) in (c.deeper, c.led)
        by_node (Branch bm xs) is e = absurd (false≢true e)
        by_node (Tomb t) is e = absurd (false≢true e)
        by_node (Listed ss) is e = absurd (false≢true e)

  branch_exact : (r : Ref) (slot : Slot) (bitmap : ℕ) (es : ArrayVec Ref) → standing heap r ≡ Some slot → slot.node ≡ Branch bitmap es →
      (depth_of limits steps r < list_depth limits.hash)
      × ((places : List (Option Ref)) × HasPlaces bitmap es.items places × ((x : ℕ) (entry : Ref) → at_place places x ≡ Some entry → StandsAt limits steps r x entry (node_at heap entry)))
  branch_exact r slot bitmap es found is =
      let b = branch_shape (trie_at limits.hash s) r (Branch bitmap es) bitmap es (subst (InsideSite limits.hash s r) is (inside r slot found)) refl in
      let used = all_of (subst (λ n. AllHold (IsInUse heap) heap (node_wants n)) is (entries_used r slot found)).0 in
      (b.shallow, (b.places, b.has, stands r bitmap es b used))

  branch_full : (r : Ref) (slot : Slot) (bitmap : ℕ) (es : ArrayVec Ref) → standing heap r ≡ Some slot → slot.node ≡ Branch bitmap es → 0 < depth_of limits steps r →
      (1 ≤ length es.items) × ((one : Ref) → es.items ≡ one ∷ [] → is_indirection (node_at heap one) ≡ true)
  branch_full r slot bitmap es found is deep = (full.0, λ one e. link_there one (used_one one e) (full.1 one e))
    where
      full : IsFull s.node es.items
      full =
          subst (FullNode s (s.level r)) is
          (full_grown (steps_of limits steps) (run_is limits steps ok) (takes_steps limits steps) keys
          (last_of limits steps) (omega arith) r slot
          (grown_in_use (states_of limits steps) (last_of limits steps) r slot (ap (λ (x : State). standing x.heap r) (run_ends limits steps) ∙ found))) (omega (arith, deep))

      used_one : (one : Ref) → es.items ≡ one ∷ [] → IsInUse heap one
      used_one one e =
          let used = all_of (subst (λ n. AllHold (IsInUse heap) heap (node_wants n)) is (entries_used r slot found)).0 in
          (All-head (Meets (IsInUse heap) heap AnEntry) one [] (subst (All (Meets (IsInUse heap) heap AnEntry)) e used)).0

      link_there : (one : Ref) → IsInUse heap one → is_indirection (s.node one) ≡ true → is_indirection (node_at heap one) ≡ true
      link_there one u link = sym (bare_link (node_at heap one)) ∙ ap is_indirection (sym (bares one u)) ∙ bare_link (s.node one) ∙ link

  -- ---- lists

  same_look : (key : ℕ) (r : Ref) → IsInUse heap r → look_at key r (node_at heap r) ≡ look_at key r ((trie_at limits.hash s).node r)
  same_look key r used = sym (bare_look key r (node_at heap r)) ∙ ap (look_at key r) (sym (bares r used))

  same_among : (key : ℕ) (singles : List Ref) → All (Meets (IsInUse heap) heap ASingle) singles → look_among (node_at heap) key singles ≡ look_among (trie_at limits.hash s).node key singles
  same_among key [] used = refl
  same_among key (r ∷ singles) used =
      ap₂ or_else (same_look key r (All-head (Meets (IsInUse heap) heap ASingle) r singles used).0) (same_among key singles (All-tail (Meets (IsInUse heap) heap ASingle) r singles used))

  singles_are : (singles : List Ref) → All (Meets (IsInUse heap) heap ASingle) singles → AreSingles (trie_at limits.hash s).node singles → AreSingles (node_at heap) singles
  singles_are [] used are = tt
  singles_are (r ∷ singles) used are =
      let rest = All-tail (Meets (IsInUse heap) heap ASingle) r singles used in (
        record {
          key = are.0.key;
          value = are.0.value;
          is = bare_single (node_at heap r) are.0.key are.0.value (sym (bares r (All-head (Meets (IsInUse heap) heap ASingle) r singles used).0) ∙ are.0.is);
          none = same_among are.0.key singles rest ∙ are.0.none;
        },
        singles_are singles rest are.1,
      )

  list_crowd : (r : Ref) (slot : Slot) (singles : ArrayVec Ref) → standing heap r ≡ Some slot → slot.node ≡ Listed singles →
      (depth_of limits steps r ≡ list_depth limits.hash) × (2 ≤ length singles.items) × (length singles.items ≤ 32) × AreSingles (node_at heap) singles.items
      × ((key value : ℕ) → look_among (node_at heap) key singles.items ≡ Has value → hash_of limits.hash key ≡ path_of limits steps r)
  list_crowd r slot singles found is =
      let l = list_shape (trie_at limits.hash s) r (Listed singles) singles (subst (InsideSite limits.hash s r) is (inside r slot found)) refl in
      let used = all_of (subst (λ n. AllHold (IsInUse heap) heap (node_wants n)) is (entries_used r slot found)).0 in
      let formed = subst (λ n. is_formed n ≡ true) is (((safe_along limits ok steps).nodes r slot found).1) in
      (l.deep, leb-true 2 (length singles.items) formed, l.most, singles_are singles.items used l.are, λ k v e. l.one_hash k v (sym (same_among k singles.items used) ∙ e))

pub branches_exact : BranchesAreExact
branches_exact limits steps r slot bitmap entries ok fit found is = branch_exact limits ok steps fit r slot bitmap entries found is

pub branches_full : BranchesBelowRoots
branches_full limits steps r slot bitmap entries ok fit found is deep = branch_full limits ok steps fit r slot bitmap entries found is deep

pub lists_crowds : ListsAreCrowds
lists_crowds limits steps r slot singles ok fit found is = list_crowd limits ok steps fit r slot singles found is

pub no_key_twice : NoKeyTwice
no_key_twice limits steps handle root ok fit at =
    let at_last = ap (λ state. root_at state handle) (run_ends limits steps) ∙ at in
    subst (λ state. T (is_sorted nat_cmp (content_at state handle))
    × ((more : ℕ) → pairs_below (most_levels + more) state.heap (root_of root.word) ≡ pairs_below most_levels state.heap (root_of root.word)))
    (run_ends limits steps) (
      keys_rise (steps_of limits steps) (run_is limits steps ok) (takes_steps limits steps) (keys_fit limits steps fit) handle root at_last,
      nothing_deeper (steps_of limits steps) (run_is limits steps ok) (takes_steps limits steps) (keys_fit limits steps fit) handle root at_last,
    )

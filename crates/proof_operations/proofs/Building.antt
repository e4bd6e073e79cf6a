-- What the steps of KEY, BUILD and SWAP make of the most that a private list has.
use Rattle.std.proofs.Common.{◌≡◌, ℕ, ◌+◌, ◌-◌, ◌*◌, ◌≤◌, ◌==◌, ◌&&◌, nat_le, nat_lt, Bool, true, false, List, length, Option, Some, None, inl, inr, sym, subst, refl, eqb-true, arith}
use Rattle.std.proofs.lemmas.Bool.{cases_lt, cond_both, eqb-false}
use Rattle.std.proofs.lemmas.List.{length_push}
use Rattle.proof_operations.specs.Vocabulary.{Access, ReadOnly, Writable, has_flag, Node, Indirection, Branch, Single, Tomb, List as Listed, Prev, Ref, entries_of, entry_at, node_at, Action}
use Rattle.proof_operations.specs.Vocabulary.{BuildLine, Site, KeyLine, WhenFound, Answers, Removes, Sets, Line, Purpose, Operation, After, Gives, Read, ReadLine, Swap, SwapLine, Climb}
use Rattle.proof_operations.specs.Vocabulary.{CompleteLine, Descriptor, RootLine, private_after, with_made, after_link, after_single, build_action, build_after, build_if_made, old_hash, handle_of}
use Rattle.proof_operations.specs.Vocabulary.{inserts, key_of, when_found, climbing, absent, absent_beside, absent_listed, after_listed, after_sibling, after_tomb, found_so, is_passable, key_action}
use Rattle.proof_operations.specs.Vocabulary.{key_after, key_after_entry, key_after_main, key_after_read, removing, after_update, climbed_on, swapped, depth_of, flag_in, hash_in, is_below_root}
use Rattle.proof_operations.specs.Vocabulary.{read_action, State, word_at, action_at, after_check, after_deciding, after_publish, complete_action_at, on_line, root_action}
use Rattle.proof_operations.specs.Beneath.slot_arena.specs.declared.nodes.Prev.TheVariants as prev
use Rattle.proof_operations.specs.Beneath.machine_model.specs.declared.actions.Action.TheVariants as act
use Rattle.proof_operations.specs.Beneath.machine_model.specs.declared.building.BuildLine.TheVariants as build
use Rattle.proof_operations.specs.Beneath.machine_model.specs.declared.building.Site.TheVariants as site
use Rattle.proof_operations.specs.Beneath.machine_model.specs.declared.finding.KeyLine.TheVariants as key
use Rattle.proof_operations.specs.Beneath.machine_model.specs.declared.lines.Purpose.TheVariants as purpose
use Rattle.proof_operations.specs.Beneath.machine_model.specs.declared.reading.After.TheVariants.{Goes}
use Rattle.proof_operations.specs.Beneath.machine_model.specs.declared.reading.ReadLine.TheVariants as read
use Rattle.proof_operations.specs.Beneath.machine_model.specs.declared.reading.SwapLine.TheVariants as swap
use Rattle.proof_operations.specs.Beneath.machine_model.specs.declared.roots.CompleteLine.TheVariants as complete
use Rattle.proof_operations.specs.Beneath.machine_model.specs.declared.roots.RootLine.TheVariants as root
use Rattle.proof_operations.specs.Beneath.machine_model.specs.Operations.{after_swap}
use Rattle.proof_operations.specs.Beneath.machine_model.specs.Swapping.{after_swap as after_line}
use Rattle.proof_operations.proofs.MostHeld.{BuildHolds, LineHolds, SwapHolds, none_held, pair_within}

module _ (state : State) where
  -- how long a list is after an action
  abbrev pub HoldsAfter : List Ref → Action → Line → Type 0
  HoldsAfter private action l = LineHolds (length (private_after state private action)) l

  -- an action of a READ, a COMPLETE or a ROOT leaves it
  pub read_leaves : (private : List Ref) (indirection : Ref) (l : ReadLine) → private_after state private (read_action indirection l) ≡ private
  read_leaves private indirection read.Main = refl
  read_leaves private indirection (read.Prev main) = refl
  read_leaves private indirection (read.AskRoot main previous) = refl
  read_leaves private indirection (read.Abort main previous offer) = refl
  read_leaves private indirection (read.Decide main previous told) = refl
  read_leaves private indirection (read.Restore main previous) = refl

  pub complete_leaves : (private : List Ref) (offer : Descriptor) (l : CompleteLine) → private_after state private (complete_action_at offer l) ≡ private
  complete_leaves private offer (complete.Reading l) = read_leaves private offer.root l
  complete_leaves private offer (complete.Swap main) = refl

  pub root_leaves : (private : List Ref) (l : RootLine) → private_after state private (root_action l) ≡ private
  root_leaves private root.Read = refl
  root_leaves private (root.Completing c) = complete_leaves private c.offer c.line

  -- so where none was held none is
  pub left_so : (private : List Ref) (action : Action) (l : Line) → private_after state private action ≡ private → length private ≤ 0 → LineHolds 0 l → HoldsAfter private action l
  left_so private action l same none h = subst (λ rs. LineHolds (length rs) l) (sym same) (none_held (length private) l none h)

module _ (state : State) (operation : Operation) where
  -- lines that follow where none is held
  absent_holds : (path : List Ref) (main : Ref) → LineHolds 0 (absent operation path main)
  absent_holds path main = cond_both (inserts operation.call) _ _ (LineHolds 0) (λ e. omega arith) (λ e. omega arith)

  beside_holds : (path : List Ref) (main : Ref) (position : ℕ) → LineHolds 0 (absent_beside operation path main position)
  beside_holds path main position = cond_both (inserts operation.call) _ _ (LineHolds 0) (λ e. omega arith) (λ e. omega arith)

  listed_holds : (path : List Ref) (main : Ref) (singles : ℕ) → LineHolds 0 (absent_listed operation path main singles)
  listed_holds path main singles = cond_both (inserts operation.call && nat_le 32 singles) _ _ (LineHolds 0) (λ e. omega arith) (λ e. absent_holds path main)

  removing_holds : (path : List Ref) (main : Ref) (position value : ℕ) (node : Node) → LineHolds 0 (removing state path main position value node)
  removing_holds path main position value (Branch bitmap entries) =
      cond_both (is_below_root path && (length entries.items == 2)) _ _ (LineHolds 0) (λ e. omega arith) (λ e. omega arith)
  removing_holds path main position value (Listed singles) = cond_both (length singles.items == 2) _ _ (LineHolds 0) (λ e. omega arith) (λ e. omega arith)
  removing_holds path main position value (Indirection generation word) = omega arith
  removing_holds path main position value (Single k v) = omega arith
  removing_holds path main position value (Tomb single) = omega arith

  found_holds : (path : List Ref) (main : Ref) (position value : ℕ) (w : WhenFound) → LineHolds 0 (found_so state path main position value w)
  found_holds path main position value (Answers answer) = omega arith
  found_holds path main position value Sets = omega arith
  found_holds path main position value Removes = removing_holds path main position value (node_at state.heap main)

  tomb_holds : (access : Access) (path : List Ref) (main : Ref) → LineHolds 0 (after_tomb access path main)
  tomb_holds Writable path main = cond_both (is_below_root path) _ _ (LineHolds 0) (λ e. omega arith) (λ e. omega arith)
  tomb_holds ReadOnly path main = omega arith

  pub climbing_holds : (c : Climb) → LineHolds 0 (climbing operation c)
  climbing_holds c = cond_both (is_below_root c.path) _ _ (LineHolds 0) (λ e. omega arith) (λ e. omega arith)

  -- KEY
  key_read : (path : List Ref) (o : After Read Ref) → LineHolds 0 (key_after_read path o)
  key_read path (Goes r) = omega arith
  key_read path (Gives main) = omega arith

  key_main : (path : List Ref) (main : Ref) (node : Node) → LineHolds 0 (key_after_main state operation path main node)
  key_main path main (Branch bitmap entries) = cond_both (has_flag bitmap (flag_in state operation path)) _ _ (LineHolds 0) (λ e. omega arith) (λ e. absent_holds path main)
  key_main path main (Tomb single) = tomb_holds operation.access path main
  key_main path main (Listed singles) = omega arith
  key_main path main (Indirection generation word) = omega arith
  key_main path main (Single k v) = omega arith

  key_entry : (path : List Ref) (main : Ref) (position : ℕ) (node : Node) → LineHolds 0 (key_after_entry state operation path main position node)
  key_entry path main position (Indirection generation word) =
      cond_both (is_passable operation generation) _ _ (LineHolds 0) (λ e. omega arith)
      (λ e. cond_both (nat_lt 0 (length (entries_of (node_at state.heap main)))) _ _ (LineHolds 0) (λ f. (omega arith, omega arith)) (λ f. omega arith))
  key_entry path main position (Single k v) =
      cond_both (k == key_of operation.call) _ _ (LineHolds 0) (λ e. found_holds path main position v (when_found operation.call v)) (λ e. beside_holds path main position)
  key_entry path main position (Branch bitmap entries) = omega arith
  key_entry path main position (Tomb single) = omega arith
  key_entry path main position (Listed singles) = omega arith

  key_listed : (path : List Ref) (main : Ref) (position : ℕ) (node : Node) → LineHolds 0 (after_listed state operation path main position node)
  key_listed path main position (Single k v) =
      cond_both (k == key_of operation.call) _ _ (LineHolds 0) (λ e. found_holds path main position v (when_found operation.call v))
      (λ e. cond_both (nat_lt (position + 1) (length (entries_of (node_at state.heap main)))) _ _ (LineHolds 0) (λ f. omega arith) (λ f. listed_holds path main _))
  key_listed path main position (Indirection generation word) = omega arith
  key_listed path main position (Branch bitmap entries) = omega arith
  key_listed path main position (Tomb single) = omega arith
  key_listed path main position (Listed singles) = omega arith

  key_sibling : (path : List Ref) (main : Ref) (position former : ℕ) (other : Ref) (node : Node) → LineHolds 0 (after_sibling path main position former other node)
  key_sibling path main position former other (Single k v) = omega arith
  key_sibling path main position former other (Indirection generation word) = omega arith
  key_sibling path main position former other (Branch bitmap entries) = omega arith
  key_sibling path main position former other (Tomb single) = omega arith
  key_sibling path main position former other (Listed singles) = omega arith

  pub keys : (private : List Ref) (l : KeyLine) → length private ≤ 0 → HoldsAfter state private (key_action state l) (key_after state operation l)
  keys private (key.Read path r) h = left_so state private _ _ (read_leaves state private r.indirection r.line) h (key_read path _)
  keys private (key.Main path main) h = left_so state private (act.Look main) _ refl h (key_main path main (node_at state.heap main))
  keys private (key.Entry path main position) h =
      left_so state private (act.Look (entry_at state.heap main position)) _ refl h (key_entry path main position (node_at state.heap (entry_at state.heap main position)))
  keys private (key.Listed path main position) h =
      left_so state private (act.Look (entry_at state.heap main position)) _ refl h (key_listed path main position (node_at state.heap (entry_at state.heap main position)))
  keys private (key.Sibling path main position former) h =
      let other = entry_at state.heap main (1 - position) in left_so state private (act.Look other) _ refl h (key_sibling path main position former other (node_at state.heap other))

  -- a change
  single_holds : (n : ℕ) (path : List Ref) (main : Ref) (former : Option ℕ) (s : Site) (made : Ref) → n ≤ 1 → LineHolds n (after_single state operation path main former s made)
  single_holds n path main former site.Absent made h = omega (arith, h)
  single_holds n path main former (site.At position) made h = omega (arith, h)
  single_holds n path main former (site.Beside position) made h =
      let within = pair_within state (old_hash state main position) (hash_in state operation) (depth_of path) in (h, within.0, within.1)

  link_holds : (n : ℕ) (path : List Ref) (main : Ref) (position depth : ℕ) (made : Ref) → depth_of path + 1 ≤ depth → n + 2 * depth ≤ 2 * depth_of path + 29 →
      LineHolds n (after_link path main position depth made)
  link_holds n path main position depth made low h =
      cond_both (depth == depth_of path + 1) _ _ (LineHolds n) (λ e. let same = eqb-true depth (depth_of path + 1) e in omega (arith, low, h, same))
      (λ e. let other = eqb-false depth (depth_of path + 1) e in let higher : depth_of path + 2 ≤ depth = above (depth_of path) depth low other in (omega (arith, higher), omega (arith, higher, h)))
    where
      above : (a b : ℕ) → a + 1 ≤ b → (b ≡ a + 1 → ⊥) → a + 2 ≤ b
      above a b le other = elim (cases_lt (a + 1) b) [ inl less ↦ omega (arith, less) | inr not ↦ absurd (other (omega (arith, le, not))) ]

  build_holds : (private : List Ref) (l : BuildLine) (made : Option Ref) → BuildHolds (length private) l →
      LineHolds (length (with_made private made)) (build_if_made state operation l made)
  build_holds private l None h = omega arith
  build_holds private (build.Single path main s former) (Some made) h = single_holds _ path main former s made (omega (arith, length_push private made, h))
  build_holds private (build.Pair path main position single depth) (Some made) h = (h.1, omega (arith, length_push private made, h.0, h.2))
  build_holds private (build.Link path main position below depth) (Some made) h = link_holds _ path main position depth made h.0 (omega (arith, length_push private made, h.1))
  build_holds private (build.Rung path main position below depth) (Some made) h = (h.0, omega (arith, length_push private made, h.1))
  build_holds private (build.Main path main c former) (Some made) h = omega (arith, length_push private made, h)

  pub builds : (private : List Ref) (l : BuildLine) → BuildHolds (length private) l → HoldsAfter state private (build_action state operation l) (build_after state operation l)
  builds private (build.Single path main s former) h = build_holds private (build.Single path main s former) _ h
  builds private (build.Pair path main position single depth) h = build_holds private (build.Pair path main position single depth) _ h
  builds private (build.Link path main position below depth) h = build_holds private (build.Link path main position below depth) _ h
  builds private (build.Rung path main position below depth) h = build_holds private (build.Rung path main position below depth) _ h
  builds private (build.Main path main c former) h = build_holds private (build.Main path main c former) _ h

  -- SWAP
  update_holds : (path : List Ref) (former : Option ℕ) (node : Node) → LineHolds 0 (after_update operation path former node)
  update_holds path former (Tomb single) = climbing_holds _
  update_holds path former (Indirection generation word) = omega arith
  update_holds path former (Branch bitmap entries) = omega arith
  update_holds path former (Single k v) = omega arith
  update_holds path former (Listed singles) = omega arith

  climbed_holds : (c : Climb) (node : Node) → LineHolds 0 (climbed_on operation c node)
  climbed_holds c (Tomb single) = climbing_holds _
  climbed_holds c (Indirection generation word) = omega arith
  climbed_holds c (Branch bitmap entries) = omega arith
  climbed_holds c (Single k v) = omega arith
  climbed_holds c (Listed singles) = omega arith

  swapped_holds : (node : Node) (why : Purpose) (done : Bool) → LineHolds 0 (swapped operation node why done)
  swapped_holds node (purpose.Update path former) true = update_holds path former node
  swapped_holds node (purpose.Update path former) false = omega arith
  swapped_holds node (purpose.Renew path) true = omega arith
  swapped_holds node (purpose.Renew path) false = omega arith
  swapped_holds node purpose.Clean done = omega arith
  swapped_holds node (purpose.Climb c) true = climbed_holds c node
  swapped_holds node (purpose.Climb c) false = omega arith

  publish_holds : (why : Purpose) (s : Swap) (b : Bool) → LineHolds 0 (after_swap state operation why s (on_line s (after_publish s.fresh b)))
  publish_holds why s true = omega arith
  publish_holds why s false = swapped_holds _ why false

  deciding_holds : (why : Purpose) (s : Swap) (o : After ReadLine Ref) → LineHolds 0 (after_swap state operation why s (on_line s (after_deciding o)))
  deciding_holds why s (Goes l) = omega arith
  deciding_holds why s (Gives main) = omega arith

  check_holds : (why : Purpose) (s : Swap) (p : Prev) → LineHolds 0 (after_swap state operation why s (on_line s (after_check p)))
  check_holds why s prev.None = swapped_holds _ why true
  check_holds why s (prev.Pending previous) = swapped_holds _ why false
  check_holds why s (prev.Failed previous) = swapped_holds _ why false

  pub swaps : (private : List Ref) (why : Purpose) (s : Swap) (l : SwapLine) → SwapHolds (length private) l →
      HoldsAfter state private (action_at s.indirection s.replaced s.fresh l)
      (after_swap state operation why s (on_line s (after_line state.heap operation.access (word_at state (handle_of operation.call)) s l)))
  swaps private why s swap.Publish h = publish_holds why s _
  swaps private why s (swap.Deciding l) h = left_so state private _ _ (read_leaves state private s.indirection l) h (deciding_holds why s _)
  swaps private why s swap.Check h = left_so state private (act.ReadPrev s.fresh) _ refl h (check_holds why s _)

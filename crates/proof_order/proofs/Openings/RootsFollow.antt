-- At a root swap the old root's main node is the expected one; behind it the new roots have that node, or, of a clear, an empty branch.
use Rattle.std.proofs.Common.{◌≡◌, ℕ, suc, ◌≤◌, true, refl, sym, ap, ◌∙◌, subst, arith}
use Rattle.std.proofs.lemmas.Bool.{true≢false}
use Rattle.proof_order.specs.Vocabulary.{Call, Ref, Node, Indirection, Branch, Single, Tomb, List as Listed, Prev, node_at, node_of, main_of, main_at, prev_at, logical, logical_main, generation_at}
use Rattle.proof_order.specs.Vocabulary.{empty_branch, with_main_word, Descriptor, Bounds, State, node_under, IsRun, IsInUse, AllHold, node_wants, prev_wants}
use Rattle.proof_order.specs.Beneath.slot_arena.specs.declared.nodes.Prev.TheVariants as over
use Rattle.proof_order.specs.Beneath.proof_memory.specs.Wants.{is_indirection}
use Rattle.proof_order.specs.Beneath.proof_memory.proofs.Safety.AtEachTime.{safe_at}
use Rattle.proof_order.specs.Beneath.proof_memory.proofs.Claims.Uses.{safe_of, first_hold, last_hold}
use Rattle.proof_order.specs.Beneath.proof_memory.proofs.Safety.States.{IsSafe}
use Rattle.proof_order.specs.Beneath.proof_contents.specs.Runs as trie
use Rattle.proof_order.specs.Openings.{IsRootOf, IsSwap, Brings}
use Rattle.proof_order.specs.Openings as opening
use Rattle.proof_order.specs.Laws.Openings.{RootsFollow, clears, snapshots, freezes, NewRootsFollowIn, RootsSwappedAsExpectedIn}
use Rattle.proof_order.proofs.Openings.Brings.{swaps_bring}
use Rattle.proof_order.proofs.Openings.ClosedRoots.{root_link, main_there}
use Rattle.proof_order.proofs.Openings.NoLateCommit.{no_late_commit}
use Rattle.proof_order.proofs.Openings.RootOf.{root_in_use}
use Rattle.proof_order.proofs.Openings.SwapState.{old_stands, successor_stands, second_stands}
use Rattle.proof_order.specs.Beneath.machine_model.proofs.Grown.{grown_in_use, node_standing, prev_standing}
use Rattle.proof_generations.proofs.Falling.Nodes.{nodes_stay}
use Rattle.proof_order.specs.Beneath.proof_commits.proofs.Words.OfRuns.{link_kept}

-- the logical main node of an indirection in use is in use
pub logical_in_use : (state : State) → IsSafe state → (r : Ref) → IsInUse state.heap r → is_indirection (node_at state.heap r) ≡ true → IsInUse state.heap (logical_main state.heap r)
logical_in_use state S r used l = over_main (prev_at state.heap (main_at state.heap r)) refl
  where
    by_node : (n : Node) → is_indirection n ≡ true → AllHold (IsInUse state.heap) state.heap (node_wants n) → IsInUse state.heap (main_of n)
    by_node (Indirection g m) l h = safe_of h.0
    by_node (Branch bitmap entries) l h = absurd (true≢false (sym l))
    by_node (Single key value) l h = absurd (true≢false (sym l))
    by_node (Tomb single) l h = absurd (true≢false (sym l))
    by_node (Listed singles) l h = absurd (true≢false (sym l))

    its : node_at state.heap r ≡ used.0.node
    its = node_standing state.heap r used.0 used.1

    main_used : IsInUse state.heap (main_at state.heap r)
    main_used =
        subst (λ n. IsInUse state.heap (main_of n)) (sym its)
        (by_node used.0.node (ap is_indirection (sym its) ∙ l) (first_hold (IsInUse state.heap) state.heap (node_wants used.0.node) (prev_wants used.0.prev) (S.nodes r used.0 used.1).0))

    by_prev : (p : Prev) → AllHold (IsInUse state.heap) state.heap (prev_wants p) → IsInUse state.heap (logical (main_at state.heap r) p)
    by_prev over.None h = main_used
    by_prev (over.Pending p) h = safe_of h.0
    by_prev (over.Failed p) h = safe_of h.0

    over_main : (p : Prev) → prev_at state.heap (main_at state.heap r) ≡ p → IsInUse state.heap (logical (main_at state.heap r) p)
    over_main p e =
        let word = sym e ∙ prev_standing state.heap (main_at state.heap r) main_used.0 main_used.1 in
        subst (λ x. IsInUse state.heap (logical (main_at state.heap r) x)) (sym word)
        (by_prev main_used.0.prev (last_hold (IsInUse state.heap) state.heap (node_wants main_used.0.node) (prev_wants main_used.0.prev) (S.nodes (main_at state.heap r) main_used.0 main_used.1).0))

-- what ends as an empty branch is one
was_empty : (m : Ref) (n : Node) → with_main_word m n ≡ empty_branch → n ≡ empty_branch
was_empty m (Indirection g word) e = let wrong : ⊥ = cc e in absurd wrong
was_empty m n e = e

module _ {limits : Bounds} {states : ℕ → State} {last : ℕ} (run : IsRun limits states last) where
  module _ (t handle : ℕ) (r : Ref) (generation : ℕ) (within : t ≤ last) (stands : IsRootOf states t handle r generation) where
    used : IsInUse (states t).heap r
    used = root_in_use run t handle r generation within stands

    link : is_indirection (node_under states last r) ≡ true
    link = ap (λ q. is_indirection (node_under states last q)) (sym stands.is) ∙ root_link run t handle stands.root within stands.is_open

    -- the main node of a handle's root is the trie's
    root_main : logical_main (states t).heap r ≡ trie.counting_main states last t r
    root_main = main_there run t r within used link

    link_then : is_indirection (node_at (states t).heap r) ≡ true
    link_then =
        let now = nodes_stay run t last within (omega arith) r used.0 (grown_in_use states t r used.0 used.1) in
        ap is_indirection (node_standing (states t).heap r used.0 used.1) ∙ sym (link_kept now.2.0 used.0.node) ∙ ap is_indirection (sym now.2.1)
        ∙ sym (ap (λ o. is_indirection (node_of o)) now.1) ∙ link

    -- what it is for ever it is now
    empty_now : node_under states last (trie.counting_main states last t r) ≡ empty_branch → node_at (states t).heap (logical_main (states t).heap r) ≡ empty_branch
    empty_now e =
        let main = logical_main (states t).heap r in
        let there = logical_in_use (states t) (safe_at run t within) r used link_then in
        let now = nodes_stay run t last within (omega arith) main there.0 (grown_in_use states t main there.0 there.1) in
        node_standing (states t).heap main there.0 there.1
        ∙ was_empty now.2.0 there.0.node (sym now.2.1 ∙ sym (ap node_of now.1) ∙ ap (node_under states last) root_main ∙ e)

  module _ (t handle : ℕ) (offer : Descriptor) (swap : IsSwap states run.records last t handle offer) where
    -- the old root's main node is the expected one
    expected : logical_main (states t).heap offer.root ≡ offer.expected
    expected =
        root_main t handle offer.root _ (omega (arith, swap.taken)) (old_stands run t handle offer swap)
        ∙ no_late_commit run t handle offer swap t (omega arith) (omega (arith, swap.taken))

    -- a new root over the expected node is over the old root's
    follows : (h : ℕ) (r : Ref) → IsRootOf states (suc t) h r (generation_at (states t).heap r) → trie.counting_main states last (suc t) r ≡ offer.expected →
        logical_main (states (suc t)).heap r ≡ logical_main (states t).heap offer.root
    follows h r stands is = root_main (suc t) h r _ swap.taken stands ∙ is ∙ sym expected

    follow_by : (call : Call) → Brings states last t handle offer call → RootsFollow (states t) (states (suc t)) offer call
    follow_by call (opening.clears opens new empty) =
        clears handle (empty_now (suc t) handle offer.successor _ swap.taken (successor_stands run t handle offer swap) empty)
    follow_by call (opening.snapshots n second opens is first main copy its) =
        snapshots handle second is (follows handle offer.successor (successor_stands run t handle offer swap) main)
        (follows n second (second_stands run t handle offer swap n second opens is) its)
    follow_by call (opening.freezes n opens none first main) = freezes handle none (follows handle offer.successor (successor_stands run t handle offer swap) main)

  pub new_roots_follow : NewRootsFollowIn states run.records last
  new_roots_follow t handle offer swap actor offerer is id = follow_by t handle offer swap offerer.call (swaps_bring run t handle offer swap actor offerer is id)

  pub roots_swapped_as_expected : RootsSwappedAsExpectedIn states run.records last
  roots_swapped_as_expected t handle offer swap =
      let old = old_stands run t handle offer swap in (old.root, old.is_open, old.is, expected t handle offer swap)

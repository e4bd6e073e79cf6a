-- After the generation of a root was closed no main node of that root is replaced; and roots of one generation are one.
use Rattle.std.proofs.Common.{◌≡◌, ℕ, ◌≤◌, true, Some, is_some, refl, sym, ap, ◌∙◌, arith}
use Rattle.proof_order.specs.Vocabulary.{Ref, node_at, node_of, logical_main, Root, RootWord, Plain, Offer, Bounds, State, root_at, root_of, node_under, IsRun, IsInUse, AnIndirection, AllHold}
use Rattle.proof_order.specs.Vocabulary.{meets, word_wants, root_generation, counting_main}
use Rattle.proof_order.specs.Beneath.proof_memory.specs.Wants.{is_indirection}
use Rattle.proof_order.specs.Beneath.proof_memory.proofs.Safety.AtEachTime.{safe_at}
use Rattle.proof_order.specs.Beneath.proof_memory.proofs.Safety.AtTimes.{node_found}
use Rattle.proof_order.specs.Beneath.proof_memory.proofs.Claims.Uses.{meets_of}
use Rattle.proof_order.specs.Beneath.proof_commits.proofs.Course.Finals.{link_stays}
use Rattle.proof_order.specs.Beneath.proof_commits.proofs.Words.Along.{protocol}
use Rattle.proof_order.specs.Beneath.proof_contents.specs.Runs as trie
use Rattle.proof_order.specs.Beneath.proof_contents.proofs.Values.Runs.{counting_main-made}
use Rattle.proof_order.specs.Beneath.proof_commits.proofs.Words.OfRuns.{link_kept}
use Rattle.proof_order.specs.Openings.{IsRootOf}
use Rattle.proof_order.specs.Laws.Openings.{OneRootIn, ClosedRootsStayIn}
use Rattle.proof_order.proofs.Openings.Closings.{ClosesSo, closing_swaps}
use Rattle.proof_order.proofs.Openings.NoLateCommit.{no_late_commit}
use Rattle.proof_order.proofs.Openings.RootOf.{roots_are_one, root_in_use}
use Rattle.proof_order.proofs.Openings.SwapState.{old_stands}
use Rattle.proof_order.specs.Beneath.machine_model.proofs.Grown.{grown_in_use}
use Rattle.proof_order.specs.Beneath.proof_commits.proofs.Known.MainsInUse.{logical_standing}
use Rattle.proof_order.specs.Beneath.proof_commits.proofs.Known.Acts.{known_run}
use Rattle.proof_generations.proofs.Falling.Nodes.{nodes_stay}

module _ {limits : Bounds} {states : ℕ → State} {last : ℕ} (run : IsRun limits states last) where
  stands : (t handle : ℕ) (root : Root) → root_at (states t) handle ≡ Some root → IsRootOf states t handle (root_of root.word) (root_generation (states t) root)
  stands t handle root e = record { root = root; is_open = e; is = refl; its = refl }

  -- a root of a handle is the root of its generation
  pub root_is : (t handle : ℕ) (root : Root) → t ≤ last → root_at (states t) handle ≡ Some root → trie.root_of_generation states last (root_generation (states t) root) ≡ root_of root.word
  root_is t handle root within e = (roots_are_one run t handle (root_of root.word) (root_generation (states t) root) within (stands t handle root e)).0

  pub one_root : OneRootIn states last
  one_root n k le within handle other a b e f same =
      sym (root_is n handle a le e) ∙ ap (trie.root_of_generation states last) same ∙ root_is k other b within f

  -- it is an indirection for ever
  pub root_link : (t handle : ℕ) (root : Root) → t ≤ last → root_at (states t) handle ≡ Some root → is_indirection (node_under states last (root_of root.word)) ≡ true
  root_link t handle root within e =
      let used = root_in_use run t handle (root_of root.word) (root_generation (states t) root) within (stands t handle root e) in
      link_stays (protocol limits states last (known_run run)) (root_of root.word) t last within (omega arith)
      (ap is_indirection (sym (node_found states t (root_of root.word) used)) ∙ (by root.word ((safe_at run t within).words handle root e)))
    where
      by : (word : RootWord) → AllHold (IsInUse (states t).heap) (states t).heap (word_wants word) → meets AnIndirection (node_at (states t).heap (root_of word)) ≡ true
      by (Plain r) h = meets_of h.0
      by (Offer offer) h = meets_of h.0

  -- while it is in use its main node in the heap is the trie's
  pub main_there : (t : ℕ) (r : Ref) → t ≤ last → IsInUse (states t).heap r → is_indirection (node_under states last r) ≡ true → logical_main (states t).heap r ≡ counting_main states last t r
  main_there t r within used l =
      let there = grown_in_use states t r used.0 used.1 in
      let now = nodes_stay run t last within (omega arith) r used.0 there in
      let link : is_indirection (node_under states t r) ≡ true =
      ap (λ o. is_indirection (node_of o)) there ∙ sym (link_kept now.2.0 used.0.node) ∙ ap is_indirection (sym now.2.1) ∙ sym (ap (λ o. is_indirection (node_of o)) now.1) ∙ l in
      logical_standing limits states last (known_run run) t within r used.0 used.1 link ∙ sym (counting_main-made states last t r (ap is_some there))

  -- the root of a generation has one main node from its closing on
  module _ (closed generation : ℕ) (so : ClosesSo states run.records last closed generation) where
    pub closed_root : trie.root_of_generation states last generation ≡ so.offer.root
    closed_root =
        let within = so.swap.taken in
        ap (trie.root_of_generation states last) (sym so.its)
        ∙ (roots_are_one run closed so.handle so.offer.root _ (omega arith) (old_stands run closed so.handle so.offer so.swap)).0

    final : (r : Ref) → trie.root_of_generation states last generation ≡ r → (u : ℕ) → closed ≤ u → u ≤ last → counting_main states last u r ≡ so.offer.expected
    final r is u after inside = ap (λ q. counting_main states last u q) (sym is ∙ closed_root) ∙ no_late_commit run closed so.handle so.offer so.swap u after inside

  pub closed_roots_stay : ClosedRootsStayIn states run.records last
  closed_roots_stay m n k closed handle root le e is from before within used_n used_k =
      let (earlier, so) = closing_swaps run last (root_generation (states m) root) closed (omega arith) is in
      let its = root_is m handle root le e in
      let l = root_link m handle root le e in
      main_there k (root_of root.word) within used_k l ∙ final closed (root_generation (states m) root) so (root_of root.word) its k (omega arith) within
      ∙ sym (final closed (root_generation (states m) root) so (root_of root.word) its n from (omega arith)) ∙ sym (main_there n (root_of root.word) (omega arith) used_n l)

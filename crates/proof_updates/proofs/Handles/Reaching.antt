-- What a handle reaches in the machine's heap is what its root reaches in the trie of the run, and the other way round.
use Rattle.std.proofs.Common.{◌≡◌, ℕ, ◌≤◌, true, Contains, Some, sym, ap, subst, ◌∙◌}
use Rattle.std.proofs.lemmas.Option.{same_Some}
use Rattle.proof_updates.specs.Vocabulary.{Ref, node_at, logical_main, Root, Bounds, Step, State, root_at, root_of, node_under, IsRun, IsInUse, trie_of_run, TakesSteps, StepsFit}
use Rattle.proof_updates.specs.Beneath.proof_memory.specs.Wants.{is_indirection}
use Rattle.proof_updates.specs.Beneath.proof_generations.proofs.Lines.ReaderKnows.{indirection_is}
use Rattle.proof_updates.specs.Touching.{Reaches, its_root, entry_below}
use Rattle.proof_updates.proofs.Handles.Showing.{link_same, main_used, entries_same, entry_used, root_used}
use Rattle.proof_updates.proofs.Handles.Ways.{From, itself, through}

module _ {limits : Bounds} {states : ℕ → State} (steps : ℕ → Step) {last : ℕ} (run : IsRun limits states last) (takes : TakesSteps states steps last) (keys : StepsFit steps last)
    (t : ℕ) (within : t ≤ last) (handle : ℕ) (root : Root) (at : root_at (states t) handle ≡ Some root) where
  pub reach_used : (r : Ref) → Reaches (states t) handle r → IsInUse (states t).heap r
  reach_used r (its_root other is) = root_used steps run takes keys t within handle other is
  reach_used r (entry_below i entry main g from link c) =
      let used = reach_used i from in
      let linked = sym (link_same steps run takes keys t within i used) ∙ ap is_indirection link in
      entry_used steps run takes keys t within (logical_main (states t).heap i) r (main_used steps run takes keys t within i used linked) c

  pub from_reach : (r : Ref) → Reaches (states t) handle r → From (trie_of_run limits states steps last) t (root_of root.word) r
  from_reach r (its_root other is) =
      let same : other ≡ root = same_Some _ _ (sym is ∙ at) in
      subst (λ (x : Root). From (trie_of_run limits states steps last) t (root_of root.word) (root_of x.word)) (sym same) itself
  from_reach r (entry_below i entry main g from link c) =
      let used = reach_used i from in
      let linked = sym (link_same steps run takes keys t within i used) ∙ ap is_indirection link in
      let node = indirection_is (node_under states last i) linked in
      through i r node.1 node.0 (from_reach i from) node.2 (subst (λ es. Contains es r) (entries_same steps run takes keys t within i used linked) c)

  pub reach_from : (r : Ref) → From (trie_of_run limits states steps last) t (root_of root.word) r → Reaches (states t) handle r
  reach_from r itself = its_root root at
  reach_from r (through i entry word g from link c) =
      let reached = reach_from i from in
      let used = reach_used i reached in
      let linked : is_indirection (node_under states last i) ≡ true = ap is_indirection link in
      let node = indirection_is (node_at (states t).heap i) (link_same steps run takes keys t within i used ∙ linked) in
      entry_below i r node.1 node.0 reached node.2 (subst (λ es. Contains es r) (sym (entries_same steps run takes keys t within i used linked)) c)

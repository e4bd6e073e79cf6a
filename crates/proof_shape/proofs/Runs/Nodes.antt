-- Nodes that a step looks at, or makes, are those that stand under their references in the end.
use Rattle.std.proofs.Common.{◌≡◌, ℕ, zero, suc, ◌<◌, ◌≤◌, ◌⊎◌, false, Option, Some, None, is_some, inl, inr, refl, sym, ◌∙◌, ap, subst, arith}
use Rattle.std.proofs.lemmas.Bool.{cases_eq}
use Rattle.std.proofs.lemmas.Option.{none-some}
use Rattle.proof_shape.specs.Vocabulary.{Ref, Node, Indirection, Branch, Single, Tomb, List as Listed, Slot, node_at, node_of, prev_of, main_of, next_ref, logical, Operation, Bounds, State}
use Rattle.proof_shape.specs.Vocabulary.{action_of, grown, node_under, main_word, prev_word, IsRun, IsInUse, is_made, counting_main}
use Rattle.proof_shape.specs.Beneath.slot_arena.specs.declared.nodes.Prev.TheVariants as over
use Rattle.proof_shape.specs.Beneath.machine_model.specs.declared.actions.Action.TheVariants as act
use Rattle.proof_shape.specs.Beneath.proof_memory.proofs.Heap.Moves.{grown_stays}
use Rattle.proof_shape.specs.Beneath.proof_commits.proofs.Course.Finals.{from_time}
use Rattle.proof_shape.specs.Beneath.proof_commits.proofs.Known.Given.{ActsOn, Taken, GrownTakes}
use Rattle.proof_shape.specs.Beneath.proof_commits.proofs.Known.Acts.{known_run}
use Rattle.proof_shape.specs.Beneath.proof_contents.proofs.Values.Runs.{counting_main-made, counting_main-unmade}
use Rattle.proof_shape.specs.Beneath.proof_contents.proofs.Values.Started.{node_stays, indirection_stays}
use Rattle.proof_shape.specs.Beneath.proof_memory.proofs.Claims.Nodes.{IsNoLink}
use Rattle.proof_shape.specs.Lines.Knowing.{first_main}
use Rattle.proof_shape.proofs.Runs.EachAt.{GoesAt}
use Rattle.proof_shape.specs.Beneath.machine_model.proofs.Grown.{grown_in_use, node_standing}
use Rattle.proof_generations.proofs.Falling.Nodes.{nodes_stay}

module _ {limits : Bounds} {states : ℕ → State} {last : ℕ} (run : IsRun limits states last) where
  -- ---- what is looked at

  module _ (t : ℕ) (h : t ≤ last) (r : Ref) (used : IsInUse (states t).heap r) where
    here : node_at (states t).heap r ≡ used.0.node
    here = node_standing (states t).heap r used.0 used.1

    -- a node that is no indirection
    pub node_known : IsNoLink (node_at (states t).heap r) → node_under states last r ≡ node_at (states t).heap r
    node_known not =
        node_stays states last (nodes_stay run) t r used.0 h (grown_in_use states t r used.0 used.1) (λ g w e. not g w (here ∙ e)) ∙ sym here

    pub link_known : (g : ℕ) (w : Ref) → node_at (states t).heap r ≡ Indirection g w → (m : Ref) × (node_under states last r ≡ Indirection g m)
    link_known g w e = indirection_stays states last (nodes_stay run) t r used.0 g w h (grown_in_use states t r used.0 used.1) (sym here ∙ e)

    -- what it is in the end it is now
    pub known_node : (n : Node) → node_under states last r ≡ n → IsNoLink n → node_at (states t).heap r ≡ n
    known_node n e not = by_kind (node_at (states t).heap r) refl
      where
        by_kind : (x : Node) → node_at (states t).heap r ≡ x → node_at (states t).heap r ≡ n
        by_kind (Indirection g w) is = let found = link_known g w is in absurd (not g found.0 (sym e ∙ found.1))
        by_kind (Branch b es) is = sym (node_known (λ g w bad. let wrong : Branch b es ≡ Indirection g w = sym is ∙ bad in cc)) ∙ e
        by_kind (Single k v) is = sym (node_known (λ g w bad. let wrong : Single k v ≡ Indirection g w = sym is ∙ bad in cc)) ∙ e
        by_kind (Tomb s) is = sym (node_known (λ g w bad. let wrong : Tomb s ≡ Indirection g w = sym is ∙ bad in cc)) ∙ e
        by_kind (Listed ss) is = sym (node_known (λ g w bad. let wrong : Listed ss ≡ Indirection g w = sym is ∙ bad in cc)) ∙ e

  -- ---- what was never made before

  unmade_before : (t u : ℕ) (r : Ref) → u ≤ t → t ≤ last → grown states t r ≡ None → is_made states u r ≡ false
  unmade_before t u r le within none = by_slot (grown states u r) refl
    where
      by_slot : (o : Option Slot) → grown states u r ≡ o → is_some o ≡ false
      by_slot None e = refl
      by_slot (Some slot) e = let now = grown_stays run u t le within r slot e in absurd (none-some now.0 (sym none ∙ now.1))

  first_until : (t : ℕ) (r : Ref) → t < last → grown states t r ≡ None → first_main states last r ≡ counting_main states last (suc t) r
  first_until t r within none =
      from_time (λ u. first_main states last r ≡ counting_main states last u r) zero (suc t) refl
      (λ u low below so_far. so_far ∙ sym (counting_main-unmade states last u r (omega arith) (unmade_before t u r (omega arith) (omega arith) none))) (suc t) (omega arith) (omega arith)

  -- ---- what is made

  module _ (t : ℕ) (h : t < last) (actor : ℕ) (operation : Operation) (go : GoesAt states run.records t actor operation) (node : Node) (a : action_of (states t) operation ≡ act.Make node)
      (made : Ref) (next : next_ref (states t).heap ≡ Some made) where
    pub takes : GrownTakes states t made node
    takes =
        subst (λ o. Taken states t node o) next
        (subst (λ x. ActsOn states t x) a ((known_run run).acts t h actor go.o go.moves operation go.runs))

    pub made_node : IsNoLink node → node_under states last made ≡ node
    made_node not = node_stays states last (nodes_stay run) (suc t) made _ h takes.here not

    pub made_link : (g : ℕ) (below : Ref) → node ≡ Indirection g below → (m : Ref) × (node_under states last made ≡ Indirection g m)
    made_link g below is = indirection_stays states last (nodes_stay run) (suc t) made _ g below h takes.here is

    pub prev_still : (m : Ref) → prev_word states t m ≡ over.None → prev_word states (suc t) m ≡ over.None
    prev_still m none = by_ref (cases_eq m made)
      where
        by_ref : (m ≡ made) ⊎ (m ≡ made → ⊥) → prev_word states (suc t) m ≡ over.None
        by_ref (inl same) = ap (λ r. prev_word states (suc t) r) same ∙ ap prev_of takes.here
        by_ref (inr apart) = ap prev_of (takes.elsewhere m apart) ∙ none

    -- an indirection has at first the main node over which it is made
    pub first_is : (g : ℕ) (below : Ref) → node ≡ Indirection g below → prev_word states (suc t) below ≡ over.None → first_main states last made ≡ below
    first_is g below is none =
        let word : main_word states (suc t) made ≡ below = ap (λ o. main_of (node_of o)) takes.here ∙ ap main_of is in
        first_until t made h takes.new
        ∙ counting_main-made states last (suc t) made (ap is_some takes.here)
        ∙ ap (λ m. logical m (prev_word states (suc t) m)) word
        ∙ ap (logical below) none

-- Each reference is held in its place in the first state.
use Rattle.std.proofs.Common.{◌≡◌, inl, inr, ℕ, [], Contains, Some, None, get_or, refl, sym, ap, subst, ◌∙◌, arith, set, replicate}
use Rattle.std.proofs.lemmas.Bool.{cases_eq}
use Rattle.std.proofs.lemmas.Option.{same_Some}
use Rattle.proof_claims.specs.Beneath.history.specs.declared.calls.Access.TheVariants.{Writable}
use Rattle.proof_claims.specs.Beneath.slot_arena.specs.declared.nodes.Node.TheVariants.{Indirection}
use Rattle.proof_claims.specs.Beneath.slot_arena.specs.declared.nodes.Prev.TheVariants as prev
use Rattle.proof_claims.specs.Beneath.slot_arena.specs.declared.nodes.Slot.{Slot}
use Rattle.proof_claims.specs.Beneath.slot_arena.specs.declared.refs.Ref.{Ref}
use Rattle.proof_claims.specs.Beneath.slot_arena.specs.Heaps.{main_at, node_at, prev_at, refs_of_node, refs_of_prev}
use Rattle.proof_claims.specs.Beneath.slot_arena.specs.Refs.{ref_to}
use Rattle.proof_claims.specs.Beneath.machine_model.specs.declared.roots.Root.{Root}
use Rattle.proof_claims.specs.Beneath.machine_model.specs.declared.roots.RootWord.TheVariants.{Offer, Plain}
use Rattle.proof_claims.specs.Beneath.machine_model.specs.declared.steps.Bounds.{Bounds}
use Rattle.proof_claims.specs.Beneath.machine_model.specs.Grown.{standing}
use Rattle.proof_claims.specs.Beneath.machine_model.specs.Machine.{AreBounds, run, run_from}
use Rattle.proof_claims.specs.Beneath.machine_model.specs.States.{State, first_heap, first_state, handle_limit, root_at, root_of}
use Rattle.proof_claims.specs.Beneath.machine_model.proofs.Found.{none_found, found_here, found_elsewhere}
use Rattle.proof_claims.specs.Beneath.machine_model.proofs.Grown.{node_standing, prev_standing}
use Rattle.proof_claims.specs.Beneath.proof_memory.specs.Laws.{IsInUse}
use Rattle.proof_claims.specs.Beneath.proof_memory.proofs.Safety.First.{first_stands, safe_at_first}
use Rattle.proof_claims.specs.Beneath.proof_memory.proofs.Claims.Uses.{safe_of}
use Rattle.proof_claims.specs.Beneath.proof_garbage.proofs.Claims.{none_in, one_in}
use Rattle.proof_claims.specs.Held.{OfHandle, OfNode, first_held}
use Rattle.proof_claims.specs.Claims.{Has, held_from, held_of}
use Rattle.proof_claims.specs.Clauses.{EachIsHeld}
use Rattle.proof_claims.specs.Dropped.{WasDropped}
use Rattle.proof_claims.proofs.FromRoots.{main_in_use}

module _ (limits : Bounds) (ok : AreBounds limits) where
  abbrev state : State
  state = first_state limits

  -- ---- the one root

  abbrev first_root : Root
  first_root = record { access = Writable; word = Plain (ref_to 2 1) }

  one_root : (handle : ℕ) (root : Root) → root_at (first_state limits) handle ≡ Some root → (handle ≡ 0) × (root.word ≡ Plain (ref_to 2 1))
  unfolding first_state
  one_root handle root e = elim (cases_eq handle 0) [
    | inl same ↦
        let there = found_here (replicate handle_limit None) 0 (Some first_root) root (subst (λ i. get_or (set (replicate handle_limit None) 0 (Some first_root)) i None ≡ Some root) same e) in
        (same, ap (λ (r : Root). r.word) (sym (same_Some _ _ there)))
    | inr other ↦ absurd (none_found handle_limit handle root (sym (found_elsewhere (replicate handle_limit None) 0 handle (Some first_root) other) ∙ e))
  ]

  handle_holds : Has first_held (OfHandle 0) (ref_to 2 1)
  handle_holds = (0, omega arith, refl)

  root_holds : Has first_held (OfNode (ref_to 2 1)) (ref_to 1 0)
  root_holds = (1, omega arith, refl)

  -- ---- the two nodes

  held_by : (j : Ref) (slot : Slot) → standing (first_heap limits.slots) j ≡ Some slot → (k : Ref) → Contains (refs_of_node slot.node) k → Has first_held (OfNode j) k
  held_by = first_stands (λ j slot. (k : Ref) → Contains (refs_of_node slot.node) k → Has first_held (OfNode j) k) limits.slots ok.0
      (λ birth k c. one_in (λ x. Has first_held (OfNode (ref_to 2 1)) x) (ref_to 1 0) root_holds k c) (λ birth k c. none_in k c)

  decided_by : (j : Ref) (slot : Slot) → standing (first_heap limits.slots) j ≡ Some slot → slot.prev ≡ prev.None
  decided_by = first_stands (λ j slot. slot.prev ≡ prev.None) limits.slots ok.0 (λ birth. refl) (λ birth. refl)

  nodes_first : (j k : Ref) → IsInUse (first_state limits).heap j → Contains (refs_of_node (node_at (first_state limits).heap j)) k → Has first_held (OfNode j) k
  unfolding first_state
  nodes_first j k (slot, stands) c = held_by j slot stands k (subst (λ n. Contains (refs_of_node n) k) (node_standing (first_heap limits.slots) j slot stands) c)

  prev_first : (j : Ref) → IsInUse (first_state limits).heap j → prev_at (first_state limits).heap j ≡ prev.None
  unfolding first_state
  prev_first j (slot, stands) = prev_standing (first_heap limits.slots) j slot stands ∙ decided_by j slot stands

  pub first_each : EachIsHeld (run limits []) (held_of limits []) (λ j. WasDropped limits [] j)
  unfolding run_from held_from
  first_each = record {
    roots = λ handle root e.
        let (same, word) = one_root handle root e in
        subst (λ h. Has first_held (OfHandle h) (root_of root.word)) (sym same) (subst (λ w. Has first_held (OfHandle 0) (root_of w)) (sym word) handle_holds);
    successors = λ handle root offer e w. let wrong : Plain (ref_to 2 1) ≡ Offer offer = sym (one_root handle root e).1 ∙ w in let bad : ⊥ = cc wrong in absurd bad;
    seconds = λ handle root offer opens second e w o t. let wrong : Plain (ref_to 2 1) ≡ Offer offer = sym (one_root handle root e).1 ∙ w in let bad : ⊥ = cc wrong in absurd bad;
    nodes = λ j k u c. inl (nodes_first j k u c);
    before = λ i p has c. none_in p (subst (λ v. Contains (refs_of_prev v) p) (prev_first (main_at (first_state limits).heap i) (main_in_use limits [] ok i has.0 has.1)) c);
  }

  -- ---- the first root

  pub root_used : IsInUse (first_state limits).heap (ref_to 2 1)
  unfolding first_state
  root_used = safe_of ((safe_at_first limits ok).words 0 _ refl).0

  root_by : (j : Ref) (slot : Slot) → standing (first_heap limits.slots) j ≡ Some slot → j ≡ ref_to 2 1 → slot.node ≡ Indirection 0 (ref_to 1 0)
  root_by = first_stands (λ j slot. j ≡ ref_to 2 1 → slot.node ≡ Indirection 0 (ref_to 1 0)) limits.slots ok.0 (λ birth same. refl) (λ birth same. absurd (omega (arith, same)))

  pub root_node : node_at (first_state limits).heap (ref_to 2 1) ≡ Indirection 0 (ref_to 1 0)
  unfolding first_state
  root_node = node_standing (first_heap limits.slots) (ref_to 2 1) root_used.0 root_used.1 ∙ root_by (ref_to 2 1) root_used.0 root_used.1 refl

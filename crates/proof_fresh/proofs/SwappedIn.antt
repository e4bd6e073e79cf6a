-- A step that swaps a fresh node in brings nothing to what leads on through slots, as what is known does, but what is private: where all below the fresh node is
-- private or below the replaced one.
use Rattle.std.proofs.Common.{◌≡◌, ◌==◌, Bool, true, false, [], ◌∷◌, Contains, Some, None, sym, ap, ◌∙◌, subst, arith, eqb-true, eq-eqb, refl, ◌⊎◌, inl, inr}
use Rattle.std.proofs.lemmas.Bool.{cases_eq, false≢true}
use Rattle.std.proofs.lemmas.List.Elements.{Contains-append_left, Contains-get_or}
use Rattle.std.proofs.lemmas.Option.{same_Some}
use Rattle.proof_fresh.specs.Beneath.slot_arena.specs.declared.refs.Ref.{Ref}
use Rattle.proof_fresh.specs.Beneath.slot_arena.specs.declared.nodes.Node.{Node}
use Rattle.proof_fresh.specs.Beneath.slot_arena.specs.declared.nodes.Node.TheVariants.{Indirection, Branch, Single, Tomb, List as Listed}
use Rattle.proof_fresh.specs.Beneath.slot_arena.specs.declared.nodes.Prev.TheVariants as prev
use Rattle.proof_fresh.specs.Beneath.slot_arena.specs.declared.nodes.Slot.{Slot}
use Rattle.proof_fresh.specs.Beneath.slot_arena.specs.Heaps.{Heap, stored, main_at, main_of, node_at, with_main, with_prev, with_main_word, main_changed}
use Rattle.proof_fresh.specs.Beneath.slot_arena.specs.Heaps.{prev_changed, refs_of_node, refs_of_prev, refs_of_slot}
use Rattle.proof_fresh.specs.Beneath.machine_model.specs.declared.actions.Action.TheVariants as act
use Rattle.proof_fresh.specs.Beneath.machine_model.specs.declared.operations.Operation.{Operation}
use Rattle.proof_fresh.specs.Beneath.machine_model.specs.States.{State}
use Rattle.proof_fresh.specs.Beneath.machine_model.specs.Acting.{if_changed, published}
use Rattle.proof_fresh.specs.Beneath.machine_model.specs.Grown.{standing}
use Rattle.proof_fresh.specs.Beneath.machine_model.proofs.Grown.{standing_parts, node_standing}
use Rattle.proof_fresh.specs.Beneath.proof_memory.specs.Wants.{AnIndirection, AllHold, action_wants, meets}
use Rattle.proof_fresh.specs.Beneath.proof_memory.specs.Laws.{IsInUse}
use Rattle.proof_fresh.specs.Beneath.proof_memory.proofs.Claims.Uses.{safe_of, meets_of}
use Rattle.proof_fresh.specs.Beneath.proof_memory.proofs.Heap.Effects.{apart}
use Rattle.proof_fresh.specs.Beneath.proof_memory.proofs.Heap.Under.{main_here, main_other, prev_here, prev_other}
use Rattle.proof_fresh.specs.Beneath.proof_memory.proofs.Safety.Guards.{Safe}
use Rattle.proof_fresh.specs.Beneath.proof_memory.proofs.Safety.States.{used_of}
use Rattle.proof_garbage.specs.Live.{IsBelow, itself, below}
use Rattle.proof_garbage.proofs.Claims.{Are, one_in, both_in, first_of, last_of}

-- an indirection names its main node
names_main : (node : Node) → meets AnIndirection node ≡ true → Contains (refs_of_node node) (main_of node)
names_main (Indirection generation main) e = Contains-get_or (main ∷ []) 0 main (omega arith)
names_main (Branch bitmap entries) e = absurd (false≢true e)
names_main (Single key value) e = absurd (false≢true e)
names_main (Tomb single) e = absurd (false≢true e)
names_main (Listed singles) e = absurd (false≢true e)

-- so before, or private and below the fresh node, where that is swapped in and the indirection was so
abbrev pub IsBroughtIn : State → (Ref → Type 0) → Operation → Ref → Ref → Ref → Ref → Type 0
IsBroughtIn state K operation i a f x = K x ⊎ ((main_at state.heap i ≡ a) × K i × IsBelow state.heap f x × Contains operation.private x)

-- K is said of what stands in the slot of what it is said of
module _ (state : State) (K : Ref → Type 0) (under : (q r : Ref) → K q → Contains (refs_of_slot (stored state.heap q)) r → K r) (operation : Operation) (i a f : Ref)
    (h : AllHold (Safe state operation.epoch) state.heap (action_wants (act.Publish i a f)))
    (fresh_unknown : K f → ⊥)
    (is_below : (x : Ref) → IsBelow state.heap f x → IsBelow state.heap a x ⊎ Contains operation.private x) where
  abbrev T : Ref → Type 0
  T = IsBroughtIn state K operation i a f

  -- what stands in a node stands in the slot
  in_before : (q y : Ref) (slot : Slot) → standing state.heap q ≡ Some slot → Contains (refs_of_slot (Some slot)) y → Contains (refs_of_slot (stored state.heap q)) y
  in_before q y slot e c = subst (λ o. Contains (refs_of_slot o) y) (sym ((standing_parts state.heap q slot e).0)) c

  known_below : (q : Ref) → K q → {x : Ref} → IsBelow state.heap q x → K x
  known_below q k itself = k
  known_below q k (below x y b c) = under x y (known_below q k b) c

  -- ---- where it is swapped in

  module _ (stands : main_at state.heap i ≡ a) where
    abbrev heap' : Heap
    heap' = with_prev (with_main state.heap i f) f (prev.Pending a)

    was_i : IsInUse state.heap i
    was_i = (safe_of h.0).used

    was_f : IsInUse state.heap f
    was_f = (safe_of h.1.1.0).used

    differ : i ≡ f → ⊥
    differ = apart (Safe state operation.epoch) state.heap None (used_of state operation.epoch) h.0 h.1.1.0

    known_main : K i → K a
    known_main k =
        let node = node_standing state.heap i was_i.0 was_i.1 in
        subst K stands
        (under i (main_at state.heap i) k
        (in_before i (main_at state.heap i) was_i.0 was_i.1
        (Contains-append_left (refs_of_node was_i.0.node) (refs_of_prev was_i.0.prev) (main_at state.heap i)
        (subst (λ n. Contains (refs_of_node n) (main_at state.heap i)) node (names_main (node_at state.heap i) (meets_of h.0))))))

    -- below the fresh node
    sorted_below : K i → (x : Ref) → IsBelow state.heap f x → T x
    sorted_below k x b = elim (is_below x b) [
      | inl under_it ↦ inl (known_below a (known_main k) under_it)
      | inr own ↦ inr (stands, k, b, own)
    ]

    -- the fresh node once it stands there
    between : standing (with_main state.heap i f) f ≡ Some was_f.0
    between = main_other state.heap i f was_i.0 was_i.1 f (λ e. differ (sym e)) ∙ was_f.1

    at_i : standing heap' i ≡ Some (main_changed f was_i.0)
    at_i = prev_other (with_main state.heap i f) f (prev.Pending a) was_f.0 between i differ ∙ main_here state.heap i f was_i.0 was_i.1

    at_f : standing heap' f ≡ Some (prev_changed (prev.Pending a) was_f.0)
    at_f = prev_here (with_main state.heap i f) f (prev.Pending a) was_f.0 between

    at_other : (q : Ref) → (q ≡ i → ⊥) → (q ≡ f → ⊥) → standing heap' q ≡ standing state.heap q
    at_other q x y = prev_other (with_main state.heap i f) f (prev.Pending a) was_f.0 between q y ∙ main_other state.heap i f was_i.0 was_i.1 q x

    main_refs : (node : Node) → Are T (refs_of_node node) → T f → Are T (refs_of_node (with_main_word f node))
    main_refs (Indirection generation main) all t = one_in T f t
    main_refs (Branch bitmap entries) all t = all
    main_refs (Single key value) all t = all
    main_refs (Tomb single) all t = all
    main_refs (Listed singles) all t = all

    -- the slot of what is so
    old_refs : (q : Ref) (slot : Slot) → T q → standing state.heap q ≡ Some slot → Are T (refs_of_slot (Some slot))
    old_refs q slot (inl k) e y c = inl (under q y k (in_before q y slot e c))
    old_refs q slot (inr t) e y c = sorted_below t.1 y (below q y t.2 (in_before q y slot e c))

    known_i : T i → K i
    known_i (inl k) = k
    known_i (inr t) = t.1

    i_from_f : T f → K i
    i_from_f (inl k) = absurd (fresh_unknown k)
    i_from_f (inr t) = t.1

    new_refs : (q : Ref) (slot : Slot) → T q → standing heap' q ≡ Some slot → Are T (refs_of_slot (Some slot))
    new_refs q slot t e = elim (cases_eq q i) [
      | inl s ↦
          let t' = subst T s t in
          let old = old_refs i was_i.0 t' was_i.1 in
          subst (λ x. Are T (refs_of_slot (Some x))) (same_Some _ _ (sym at_i ∙ ap (standing heap') (sym s) ∙ e))
          (both_in T (refs_of_node (with_main_word f was_i.0.node)) (refs_of_prev was_i.0.prev)
          (main_refs was_i.0.node (first_of T (refs_of_node was_i.0.node) (refs_of_prev was_i.0.prev) old) (sorted_below (known_i t') f itself))
          (last_of T (refs_of_node was_i.0.node) (refs_of_prev was_i.0.prev) old))
      | inr other ↦ elim (cases_eq q f) [
        | inl s ↦
            let t' = subst T s t in
            subst (λ x. Are T (refs_of_slot (Some x))) (same_Some _ _ (sym at_f ∙ ap (standing heap') (sym s) ∙ e))
            (both_in T (refs_of_node was_f.0.node) (a ∷ []) (first_of T (refs_of_node was_f.0.node) (refs_of_prev was_f.0.prev) (old_refs f was_f.0 t' was_f.1))
            (one_in T a (inl (known_main (i_from_f t')))))
        | inr another ↦ old_refs q slot t (sym (at_other q other another) ∙ e)
      ]
    ]

  -- ---- where it is, or where another node stands there by now

  by_test : (b : Bool) → (main_at state.heap i == a) ≡ b → (q : Ref) (slot : Slot) → T q →
      standing (if_changed b (with_prev (with_main state.heap i f) f (prev.Pending a)) state.heap) q ≡ Some slot → Are T (refs_of_slot (Some slot))
  by_test true s q slot t e y c = new_refs (eqb-true _ _ s) q slot t e y c
  by_test false s q slot (inl k) e y c = inl (under q y k (in_before q y slot e c))
  by_test false s q slot (inr t) e y c = absurd (false≢true (sym s ∙ eq-eqb _ _ t.0))

  -- what stands in the slot of what is so afterwards is so
  pub published_refs : (q : Ref) (slot : Slot) → IsBroughtIn state K operation i a f q → standing (published state.heap i a f) q ≡ Some slot →
      Are (IsBroughtIn state K operation i a f) (refs_of_slot (Some slot))
  published_refs q slot t e = by_test (main_at state.heap i == a) refl q slot t e

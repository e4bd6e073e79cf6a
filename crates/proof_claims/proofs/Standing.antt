-- What is found under a reference where the same stands there, and after a prev word or a main word is written.
use Rattle.std.proofs.Common.{◌≡◌, inl, inr, true, Some, sym, ap, subst, ◌∙◌}
use Rattle.std.proofs.lemmas.Bool.{cases_eq}
use Rattle.proof_claims.specs.Beneath.slot_arena.specs.declared.nodes.Prev.{Prev}
use Rattle.proof_claims.specs.Beneath.slot_arena.specs.declared.refs.Ref.{Ref}
use Rattle.proof_claims.specs.Beneath.slot_arena.specs.Heaps.{Heap, main_at, main_of, node_at, prev_at, with_main, with_prev, with_main_word}
use Rattle.proof_claims.specs.Beneath.machine_model.specs.Grown.{standing}
use Rattle.proof_claims.specs.Beneath.machine_model.proofs.Grown.{node_standing, prev_standing}
use Rattle.proof_claims.specs.Beneath.proof_memory.specs.Laws.{IsInUse}
use Rattle.proof_claims.specs.Beneath.proof_memory.specs.Wants.{is_indirection}
use Rattle.proof_claims.specs.Beneath.proof_commits.proofs.Words.OfRuns.{link_kept, main_written}
use Rattle.proof_claims.specs.Beneath.proof_memory.proofs.Heap.Under.{main_here, main_other, prev_here, prev_other}

pub used_same : (a b : Heap) (r : Ref) → standing b r ≡ standing a r → IsInUse b r → IsInUse a r
used_same a b r e (slot, is) = (slot, sym e ∙ is)

pub node_same : (a b : Heap) (r : Ref) → standing b r ≡ standing a r → IsInUse a r → node_at b r ≡ node_at a r
node_same a b r e (slot, is) = node_standing b r slot (e ∙ is) ∙ sym (node_standing a r slot is)

pub prev_same : (a b : Heap) (r : Ref) → standing b r ≡ standing a r → IsInUse a r → prev_at b r ≡ prev_at a r
prev_same a b r e (slot, is) = prev_standing b r slot (e ∙ is) ∙ sym (prev_standing a r slot is)

-- ---- a prev word is written

module _ (a : Heap) (f : Ref) (v : Prev) (used : IsInUse a f) where
  abbrev b : Heap
  b = with_prev a f v

  here : standing b f ≡ Some (record used.0 { prev = v })
  here = prev_here a f v used.0 used.1

  elsewhere : (r : Ref) → (r ≡ f → ⊥) → standing b r ≡ standing a r
  elsewhere r other = prev_other a f v used.0 used.1 r other

  pub used_before : (r : Ref) → IsInUse b r → IsInUse a r
  used_before r u = elim (cases_eq r f) [ inl same ↦ subst (IsInUse a) (sym same) used | inr other ↦ used_same a b r (elsewhere r other) u ]

  pub used_after : (r : Ref) → IsInUse a r → IsInUse b r
  used_after r u = elim (cases_eq r f) [ inl same ↦ subst (IsInUse b) (sym same) (_, here) | inr other ↦ used_same b a r (sym (elsewhere r other)) u ]

  pub node_still : (r : Ref) → IsInUse a r → node_at b r ≡ node_at a r
  node_still r u = elim (cases_eq r f) [
    | inl same ↦ subst (λ x. node_at b x ≡ node_at a x) (sym same) (node_standing b f _ here ∙ sym (node_standing a f used.0 used.1))
    | inr other ↦ node_same a b r (elsewhere r other) u
  ]

  pub prev_is : prev_at b f ≡ v
  prev_is = prev_standing b f _ here

  pub prev_still : (r : Ref) → (r ≡ f → ⊥) → IsInUse a r → prev_at b r ≡ prev_at a r
  prev_still r other u = prev_same a b r (elsewhere r other) u

-- ---- a main word is written

module _ (a : Heap) (i x : Ref) (used : IsInUse a i) (link : is_indirection (node_at a i) ≡ true) where
  abbrev c : Heap
  c = with_main a i x

  here_main : standing c i ≡ Some (record used.0 { node = with_main_word x used.0.node })
  here_main = main_here a i x used.0 used.1

  elsewhere_main : (r : Ref) → (r ≡ i → ⊥) → standing c r ≡ standing a r
  elsewhere_main r other = main_other a i x used.0 used.1 r other

  pub used_before_main : (r : Ref) → IsInUse c r → IsInUse a r
  used_before_main r u = elim (cases_eq r i) [ inl same ↦ subst (IsInUse a) (sym same) used | inr other ↦ used_same a c r (elsewhere_main r other) u ]

  pub used_after_main : (r : Ref) → IsInUse a r → IsInUse c r
  used_after_main r u = elim (cases_eq r i) [ inl same ↦ subst (IsInUse c) (sym same) (_, here_main) | inr other ↦ used_same c a r (sym (elsewhere_main r other)) u ]

  pub node_still_main : (r : Ref) → (r ≡ i → ⊥) → IsInUse a r → node_at c r ≡ node_at a r
  node_still_main r other u = node_same a c r (elsewhere_main r other) u

  node_here : node_at c i ≡ with_main_word x (node_at a i)
  node_here = node_standing c i _ here_main ∙ ap (with_main_word x) (sym (node_standing a i used.0 used.1))

  pub link_here : is_indirection (node_at c i) ≡ true
  link_here = ap is_indirection node_here ∙ link_kept x (node_at a i) ∙ link

  pub main_is : main_at c i ≡ x
  main_is = ap main_of node_here ∙ main_written x (node_at a i) link

  pub prev_still_main : (r : Ref) → IsInUse a r → prev_at c r ≡ prev_at a r
  prev_still_main r u = elim (cases_eq r i) [
    | inl same ↦ subst (λ y. prev_at c y ≡ prev_at a y) (sym same) (prev_standing c i _ here_main ∙ sym (prev_standing a i used.0 used.1))
    | inr other ↦ prev_same a c r (elsewhere_main r other) u
  ]

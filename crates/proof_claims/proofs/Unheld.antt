-- What nothing but garbage holds no root leads to, and no copy is to bring to one; so it is garbage itself, where nobody has it privately.
use Rattle.std.proofs.Common.{◌≡◌, inl, inr, ℕ, suc, Bool, true, false, List, [], ◌∷◌, ◌++◌, Contains, Some, refl, sym, ap, subst, ◌∙◌, append-nil}
use Rattle.proof_claims.specs.Beneath.slot_arena.specs.declared.refs.Ref.{Ref}
use Rattle.proof_claims.specs.Beneath.slot_arena.specs.Heaps.{main_at, node_at, refs_of_node, refs_of_prev}
use Rattle.proof_claims.specs.Beneath.machine_model.specs.declared.operations.Operation.{Operation}
use Rattle.proof_claims.specs.Beneath.machine_model.specs.declared.steps.Bounds.{Bounds}
use Rattle.proof_claims.specs.Beneath.machine_model.specs.declared.steps.Step.{Step}
use Rattle.proof_claims.specs.Beneath.machine_model.specs.Machine.{AreBounds, run}
use Rattle.proof_claims.specs.Beneath.machine_model.specs.States.{State}
use Rattle.proof_claims.specs.Beneath.machine_model.proofs.Fates.{place_of_actor}
use Rattle.proof_claims.specs.Beneath.machine_model.proofs.Grown.{node_standing, prev_standing}
use Rattle.proof_claims.specs.Beneath.proof_memory.specs.Laws.{IsInUse}
use Rattle.proof_claims.specs.Beneath.proof_memory.specs.Wants.{AnIndirection, Holds, Is, is_indirection}
use Rattle.proof_claims.specs.Beneath.proof_memory.proofs.Claims.Uses.{meets_of, safe_of}
use Rattle.proof_claims.specs.Beneath.proof_memory.proofs.Safety.AtEachTime.{safe_along}
use Rattle.proof_claims.specs.Beneath.proof_memory.proofs.Safety.AtTimes.{line_finds}
use Rattle.proof_claims.specs.Beneath.proof_generations.specs.Running.{Runs}
use Rattle.proof_claims.specs.Beneath.proof_generations.proofs.Roots.Kept.{fresh_in, fresh_link}
use Rattle.proof_claims.specs.Beneath.proof_garbage.specs.Live.{IsLive}
use Rattle.proof_claims.specs.Beneath.proof_garbage.proofs.Claims.{none_in}
use Rattle.proof_claims.specs.Beneath.proof_garbage.proofs.GivenUp.{claim}
use Rattle.proof_claims.specs.Beneath.proof_fresh.specs.Grace.{IsPrivateToNone}
use Rattle.proof_claims.specs.Beneath.proof_followed.specs.Followed.{IsFollowedByRoots}
use Rattle.proof_claims.specs.Beneath.proof_followed.proofs.Bringing.{apart_along, apart_then}
use Rattle.proof_claims.specs.Beneath.proof_followed.proofs.Brought.{IsBrought, brought_followed}
use Rattle.proof_claims.specs.Beneath.proof_followed.proofs.Links.{links_plain}
use Rattle.proof_claims.specs.Beneath.proof_followed.proofs.Live.{followed_known}
use Rattle.proof_claims.specs.Beneath.proof_followed.proofs.NeverBrought.{brought_of}
use Rattle.proof_claims.specs.Beneath.proof_owned.proofs.Linked.{main_no_link}
use Rattle.proof_claims.specs.Beneath.proof_reuse.specs.Laws.{IsGarbage}
use Rattle.proof_claims.specs.Beneath.proof_reuse.proofs.Own.{replaced_garbage}
use Rattle.proof_claims.specs.Held.{Held, Holder, OfHandle, OfNode}
use Rattle.proof_claims.specs.Claims.{Has, IsLinkedHolder, held_of}
use Rattle.proof_claims.specs.Clauses.{TakesOver, fresh, over}
use Rattle.proof_claims.specs.Dropped.{WasDropped, failed, replaced, unmet, untaken}
use Rattle.proof_claims.specs.Laws.{IsUnheld}
use Rattle.proof_claims.proofs.Alive.{dead_later}
use Rattle.proof_claims.proofs.Keeping.{keeping}
use Rattle.proof_claims.proofs.Letting.{main_named}
use Rattle.proof_claims.proofs.MadeRoots.{IsKept}
use Rattle.proof_claims.proofs.Outcomes.{each_held, followed_held}
use Rattle.proof_claims.proofs.Owning.{came_later, came_own}
use Rattle.proof_claims.proofs.Ownership.{own_by}
use Rattle.proof_claims.proofs.Unlinked.{garbage_later, replaced_later}
use Rattle.proof_claims.proofs.Unlinked as unlinked

module _ (limits : Bounds) (ok : AreBounds limits) where
  -- ---- a root that is still to be offered or carried out isn't garbage, nor was it dropped

  module _ (xs : List Step) (n : ℕ) (operation : Operation) (x : Bool) (q : Ref) (runs : Runs (run limits xs) n operation) (unmarked : operation.is_marked ≡ false)
      (has : fresh_in x operation.line ≡ Some q) where
    no_garbage : (before since : List Step) → xs ≡ before ++ since → IsGarbage (run limits before) q → ⊥
    no_garbage before since e g =
        ((apart_along limits ok before q g.in_use (apart_then limits ok before q g.unbrought) since n operation (subst (λ l. Runs (run limits l) n operation) e runs) unmarked).0 x q has).0 refl

    is_link : Holds (IsInUse (run limits xs).heap) (run limits xs).heap (Is q AnIndirection)
    is_link =
        fresh_link (IsInUse (run limits xs).heap) (run limits xs) operation operation.line (line_finds (run limits xs) (safe_along limits ok xs) (suc n) operation runs) x q has

    used : IsInUse (run limits xs).heap q
    used = safe_of is_link

    undropped : WasDropped limits xs q → ⊥
    undropped (replaced before s since i e how r own) =
        let then = before ++ s ∷ [] in
        let all = then ++ since in
        no_garbage all [] (e ∙ sym (append-nil all))
        (replaced_garbage limits all ok i q (own_by limits ok all i q (came_later limits then since i q (came_own limits ok then i q own))) (replaced_later limits then since i q r)
        (subst (λ l. IsInUse (run limits l).heap q) e used))
    undropped (failed before since actor i m e h) = no_garbage before since e (unlinked.garbage limits ok before actor i m q h)
    undropped (unmet before s since e lets then dead) =
        dead_later limits ok (before ++ s ∷ []) q then dead since (subst (λ l. IsInUse (run limits l).heap q) e used)
        (subst (λ l. IsLive (run limits l) q) e
        (followed_known (run limits xs) (safe_along limits ok xs) (λ id. Unit {0}) (brought_followed limits ok xs (λ id. Unit {0}) n operation runs unmarked tt q (inl (x, has)))))
    undropped (untaken before s since e lets link g nobody) = no_garbage (before ++ s ∷ []) since e g

  -- ---- what nothing but garbage holds

  module _ (xs : List Step) (k : Ref) (unheld : IsUnheld limits xs k) where
    abbrev state : State
    state = run limits xs

    abbrev held : Held
    held = held_of limits xs

    by_node : (j : Ref) → Has held (OfNode j) k → (before : List Step) × (since : List Step) × (xs ≡ before ++ since) × IsGarbage (run limits before) j
    by_node j has =
        let (i, before, since, same, e, g) = unheld (record { by = OfNode j; on = k }) has refl in
        let one : i ≡ j = cc same in
        (before, since, e, subst (IsGarbage (run limits before)) one g)

    by_handle : (g : ℕ) → Has held (OfHandle g) k → ⊥
    by_handle g has = let (j, before, since, same, e, garbage) = unheld (record { by = OfHandle g; on = k }) has refl in let bad : ⊥ = cc same in bad

    not_linked : (by : Holder) → Has held by k → IsLinkedHolder state by → ⊥
    not_linked (OfHandle g) has there = by_handle g has
    not_linked (OfNode j) has followed =
        let (before, since, e, g) = by_node j has in garbage_later limits ok before since j g (subst (λ l. IsFollowedByRoots (run limits l) j) e followed)

    pub unfollowed : IsFollowedByRoots (run limits xs) k → ⊥
    unfollowed followed =
        let (c, there, on, linked) = followed_held limits ok xs k followed in
        not_linked c.by (subst (λ r. Contains held.claims (record { by = c.by; on = r })) on there) linked

    module _ (private : IsPrivateToNone (run limits xs) k) (n : ℕ) (operation : Operation) (runs : Runs (run limits xs) n operation) (unmarked : operation.is_marked ≡ false) where
      not_private : Contains operation.private k → ⊥
      not_private c = private (suc n) operation runs c

      -- it isn't a root that is still to be offered or carried out
      no_root : (x : Bool) → fresh_in x operation.line ≡ Some k → ⊥
      no_root x e = by ((keeping limits ok xs n operation runs).roots unmarked x k e)
        where
          by : IsKept operation.private held k → ⊥
          by (inl c) = not_private c
          by (inr (g, has)) = by_handle g has

      -- nor the main node of one
      no_main : (x : Bool) (q : Ref) → fresh_in x operation.line ≡ Some q → main_at state.heap q ≡ k → ⊥
      no_main x q e is = elim ((each_held limits ok xs).nodes q k (used xs n operation x q runs unmarked e) named) [
        | inl has ↦ let (before, since, same, g) = by_node q has in no_garbage xs n operation x q runs unmarked e before since same g
        | inr (inl dropped) ↦ undropped xs n operation x q runs unmarked e dropped
        | inr (inr takes) ↦ takes_nothing takes
      ]
        where
          slot : IsInUse state.heap q
          slot = used xs n operation x q runs unmarked e

          link : is_indirection (node_at state.heap q) ≡ true
          link = meets_of (is_link xs n operation x q runs unmarked e)

          named : Contains (refs_of_node (node_at state.heap q)) k
          named = main_named (node_at state.heap q) k link is

          takes_nothing : TakesOver state held q k → ⊥
          takes_nothing (fresh actor other why i p runs_now line own names) = main_no_link (node_at state.heap q) (claim limits xs ok actor other runs_now i p q why line).1 link
          takes_nothing (over p stands names all) =
              none_in p (subst (λ v. Contains (refs_of_prev v) p) (prev_standing state.heap q slot.0 slot.1
              ∙ links_plain limits ok xs q slot.0 slot.1 (ap is_indirection (sym (node_standing state.heap q slot.0 slot.1)) ∙ link)) stands)

      not_brought : IsBrought state operation k → ⊥
      not_brought (inl (x, e)) = no_root x e
      not_brought (inr (inl (x, q, e, is, other))) = no_main x q e is
      not_brought (inr (inr cleared)) = not_private ((keeping limits ok xs n operation runs).branch k cleared)

    pub garbage : IsInUse (run limits xs).heap k → IsPrivateToNone (run limits xs) k → IsGarbage (run limits xs) k
    garbage in_use private = record {
      in_use = in_use;
      unfollowed = unfollowed;
      private_to_none = private;
      unbrought = λ actor operation runs unmarked brings.
          let (n, place, at_n) = place_of_actor state actor operation runs in
          not_brought private n operation at_n unmarked (brought_of limits ok xs n operation at_n unmarked k brings);
    }

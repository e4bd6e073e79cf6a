-- Who swaps a main node in makes followed but what is private.
use Rattle.std.proofs.Common.{◌≡◌, ℕ, zero, suc, ◌<◌, ◌≤◌, List, ◌++◌, Contains, get_or, Some, None, Ok, Err, refl, sym, ap, ◌∙◌, subst, arith, inl, inr}
use Rattle.std.proofs.lemmas.List.Elements.{Contains-append_cases}
use Rattle.std.proofs.lemmas.Option.{none-some, same_Some}
use Rattle.proof_reuse.specs.Beneath.slot_arena.specs.declared.refs.Ref.{Ref}
use Rattle.proof_reuse.specs.Beneath.machine_model.specs.declared.actions.Action.TheVariants as act
use Rattle.proof_reuse.specs.Beneath.machine_model.specs.declared.operations.Operation.{Operation}
use Rattle.proof_reuse.specs.Beneath.machine_model.specs.declared.roots.RootWord.{RootWord}
use Rattle.proof_reuse.specs.Beneath.machine_model.specs.declared.roots.RootWord.TheVariants.{Plain, Offer}
use Rattle.proof_reuse.specs.Beneath.machine_model.specs.declared.steps.Bounds.{Bounds}
use Rattle.proof_reuse.specs.Beneath.machine_model.specs.declared.steps.Outcome.{Outcome}
use Rattle.proof_reuse.specs.Beneath.machine_model.specs.declared.steps.Step.{Step}
use Rattle.proof_reuse.specs.Beneath.machine_model.specs.declared.steps.Step.TheVariants as step
use Rattle.proof_reuse.specs.Beneath.machine_model.specs.Acting.{gone, operation_after}
use Rattle.proof_reuse.specs.Beneath.machine_model.specs.Counting.{settled, refs_of_root, refs_of_word}
use Rattle.proof_reuse.specs.Beneath.machine_model.specs.Machine.{Answer, AreBounds, run, next, state_after}
use Rattle.proof_reuse.specs.Beneath.machine_model.specs.Moves.{Moves, MovesIfTaken, Goes, Ends}
use Rattle.proof_reuse.specs.Beneath.machine_model.specs.Operations.{action_of}
use Rattle.proof_reuse.specs.Beneath.machine_model.specs.States.{State, operation_of, root_of}
use Rattle.proof_reuse.specs.Beneath.machine_model.proofs.Actors.{IsOf, is_of, mark_only, marks_in, marks_by, of_others, of_itself}
use Rattle.proof_reuse.specs.Beneath.machine_model.proofs.Frames.{limits_kept}
use Rattle.proof_reuse.specs.Beneath.machine_model.proofs.Moves.{moves}
use Rattle.proof_reuse.specs.Beneath.proof_memory.specs.Laws.{IsInUse}
use Rattle.proof_reuse.specs.Beneath.proof_memory.proofs.Safety.AtEachTime.{safe_along}
use Rattle.proof_reuse.specs.Beneath.proof_memory.proofs.Safety.States.{IsSafe}
use Rattle.proof_reuse.specs.Beneath.proof_memory.proofs.Safety.Steps.{safe_after}
use Rattle.proof_reuse.specs.Beneath.proof_garbage.specs.Live as live
use Rattle.proof_reuse.specs.Beneath.proof_garbage.specs.Live.{IsKnown, refs_of_claims}
use Rattle.proof_reuse.specs.Beneath.proof_garbage.proofs.Claims.{Are, refs_held}
use Rattle.proof_reuse.specs.Beneath.proof_garbage.proofs.Known.{line_known, privates_known}
use Rattle.proof_reuse.specs.Beneath.proof_garbage.proofs.Public.{IsPublic, public_on}
use Rattle.proof_fresh.specs.Grace.{IsPrivateToNone}
use Rattle.proof_fresh.proofs.SwappedIn.{IsBroughtIn}
use Rattle.proof_fresh.proofs.OnlyOffers.{roots_are, fresh_unknown, swap_refs}
use Rattle.proof_followed.specs.Followed.{IsFollowed, from_root, from_operation, from_slot, followed_by, followed_claims}
use Rattle.proof_followed.specs.Grace.{IsNotSwappedBack}
use Rattle.proof_followed.proofs.Asked.{followed_of}
use Rattle.proof_followed.proofs.Step.{followed_so}

-- ---- what is followed is known

pub root_named : (word : RootWord) → Contains (refs_of_word word) (root_of word)
root_named (Plain r) = (0, omega arith, refl)
root_named (Offer offer) = (0, omega arith, refl)

module _ (state : State) (I : IsSafe state) (P : ℕ → Type 0) where
  pub followed_known : {r : Ref} → IsFollowed state P r → IsKnown state P r
  followed_known (from_root handle root r e is) =
      live.from_root handle r (subst (λ o. Contains (refs_of_root o) r) (sym e) (subst (Contains (refs_of_word root.word)) is (root_named root.word)))
  followed_known (from_operation actor operation r e p c) = elim (Contains-append_cases (refs_of_claims (followed_claims state operation)) operation.private r c) [
    | inl a ↦
        refs_held (IsKnown state P) state.heap (followed_claims state operation)
        (followed_of (IsKnown state P) state.heap state.limits.hash operation.call operation.access operation.line (line_known state I P actor operation e p)) r a
    | inr b ↦ privates_known state I P actor operation e p r b
  ]
  followed_known (from_slot q r k c) = live.from_slot q r (followed_known k) c

-- ---- a step that swaps in

module _ (limits : Bounds) (ok : AreBounds limits) (steps : List Step) (k : ℕ) (operation : Operation) (found : operation_of (run limits steps) (suc k) ≡ Some operation)
    (i a f : Ref) (acts : action_of (run limits steps) operation ≡ act.Publish i a f) (P : ℕ → Type 0) (old : P operation.id → ⊥)
    (o : Outcome) (m : Moves (run limits steps) (step.Go (suc k)) o (settled (run limits steps) (gone (run limits steps) (suc k) operation))) where
  abbrev state : State
  state = run limits steps

  I : IsSafe state
  I = safe_along limits ok steps

  abbrev after : State
  after = settled state (gone state (suc k) operation)

  abbrev K : Ref → Type 0
  K = IsFollowed state P

  -- what others follow
  hands_by : (j : ℕ) → Dec (IsOf (suc j) (step.Go (suc k))) → (other : Operation) → get_or after.actors j None ≡ Some other → P other.id → Are K (followed_by after other)
  hands_by j (no apart) other at_j p =
      let (was, at_was, same) = of_others state (step.Go (suc k)) o after m j apart other at_j in
      let only = same ∙ mark_only (marks_in state (step.Go (suc k))) was in
      subst (λ (x : Operation). Are K (followed_by after x)) (sym only)
      (subst (λ (l : Bounds). Are K (followed_by (record state { limits = l }) was)) (sym (limits_kept state (step.Go (suc k)) o after m))
      (λ r c. from_operation (suc j) was r at_was (subst (λ (x : Operation). P x.id) only p) c))
  hands_by j (yes own) other at_j p =
      absurd (old (subst (λ (x : Operation). P x.id) (of_itself state (suc k) operation j own other at_j ∙ mark_only (marks_by state (Some operation)) (operation_after state operation)) p))

  hands : (actor' : ℕ) (other : Operation) → operation_of after actor' ≡ Some other → P other.id → Are K (followed_by after other)
  hands zero other e p = absurd (none-some other e)
  hands (suc j) other e p = hands_by j (is_of (suc j) (step.Go (suc k))) other e p

  brought : {r : Ref} → IsFollowed after P r → IsBroughtIn state K operation i a f r
  brought =
      followed_so after (safe_after state I (step.Go (suc k)) o after m) P (IsBroughtIn state K operation i a f)
      (λ handle root e. inl (from_root handle root (root_of root.word) (ap (λ roots. get_or roots handle None) (sym (roots_are limits ok steps k operation found i a f acts)) ∙ e) refl))
      (λ actor other e p r c. inl (hands actor other e p r c))
      (swap_refs limits ok steps k operation found i a f acts K from_slot (λ known. fresh_unknown limits ok steps k operation found i a f acts P old (followed_known state I P known)))

  pub publish_followed : (r : Ref) → (Contains operation.private r → ⊥) → IsFollowed (settled (run limits steps) (gone (run limits steps) (suc k) operation)) P r → IsFollowed (run limits steps) P r
  publish_followed r not_private known = elim (brought known) [ inl before ↦ before | inr own ↦ absurd (not_private own.3) ]

-- ---- along a run

module _ (limits : Bounds) (ok : AreBounds limits) (before : List Step) (r : Ref) (used : IsInUse (run limits before).heap r) (private_to_none : IsPrivateToNone (run limits before) r) where
  at_first : IsPublic r (run limits before)
  at_first = record { made = (safe_along limits ok before).births r used.0 used.1; apart = λ k operation found. private_to_none (suc k) operation found }

  abbrev Newer : ℕ → Type 0
  Newer id = (run limits before).begun ≤ id

  pub none_swapped_back : (since : List Step) → IsNotSwappedBack limits before since r
  none_swapped_back since a b zero operation i c f split is lt acts unknown known = none-some operation is
  none_swapped_back since a b (suc k) operation i c f split is lt acts unknown known =
      by_answer (next (run limits (before ++ a)) (step.Go (suc k))) (moves (run limits (before ++ a)) (step.Go (suc k))) known
    where
      not_both : operation.id < (run limits before).begun → (run limits before).begun ≤ operation.id → ⊥
      not_both x y = omega arith

      by_answer : (answer : Answer) → MovesIfTaken (run limits (before ++ a)) (step.Go (suc k)) answer → IsFollowed (state_after (run limits (before ++ a)) answer) Newer r → ⊥
      by_answer (Err why) m known = unknown known
      by_answer (Ok done) m known = by_move done.0 done.1 m known
        where
          by_move : (o : Outcome) (after : State) → Moves (run limits (before ++ a)) (step.Go (suc k)) o after → IsFollowed after Newer r → ⊥
          by_move o after (Goes {operation = found} d at_k x g) known =
              let same = same_Some _ _ (sym is ∙ at_k) in
              let old : Newer found.id → ⊥ = λ le. not_both lt (subst (λ (y : Operation). Newer y.id) (sym same) le) in
              unknown (publish_followed limits ok (before ++ a) k found at_k i c f (subst (λ y. action_of (run limits (before ++ a)) y ≡ act.Publish i c f) same acts) Newer old o (Goes d at_k x g) r
              ((public_on limits ok before a r at_first).apart k found at_k) known)
          by_move o after (Ends {operation = found} d at_k x) known =
              let same = same_Some _ _ (sym is ∙ at_k) in
              let wrong : act.Publish i c f ≡ act.End _ = sym acts ∙ ap (action_of (run limits (before ++ a))) same ∙ x in
              let bad : ⊥ = cc in absurd bad

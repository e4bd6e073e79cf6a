-- Once all who ran when it came to be garbage have ended, garbage is known to nobody who begins from then on.
use Rattle.std.proofs.Common.{◌≡◌, inl, inr, ℕ, zero, suc, ◌<◌, ◌≤◌, List, [], ◌∷◌, ◌++◌, Ok, Err, refl, sym, ap, ◌∙◌, subst, arith, append_assoc, append-nil}
use Rattle.std.proofs.lemmas.Option.{none-some, same_Some}
use Rattle.proof_reuse.specs.Beneath.slot_arena.specs.declared.refs.Ref.{Ref}
use Rattle.proof_reuse.specs.Beneath.machine_model.specs.declared.actions.Action.TheVariants as act
use Rattle.proof_reuse.specs.Beneath.machine_model.specs.declared.operations.Operation.{Operation}
use Rattle.proof_reuse.specs.Beneath.machine_model.specs.declared.steps.Bounds.{Bounds}
use Rattle.proof_reuse.specs.Beneath.machine_model.specs.declared.steps.Outcome.{Outcome}
use Rattle.proof_reuse.specs.Beneath.machine_model.specs.declared.steps.Step.{Step}
use Rattle.proof_reuse.specs.Beneath.machine_model.specs.declared.steps.Step.TheVariants as step
use Rattle.proof_reuse.specs.Beneath.machine_model.specs.Contents.{IsReached}
use Rattle.proof_reuse.specs.Beneath.machine_model.specs.Machine.{Answer, AreBounds, run, next, state_after}
use Rattle.proof_reuse.specs.Beneath.machine_model.specs.Moves.{Moves, MovesIfTaken, Goes, Ends}
use Rattle.proof_reuse.specs.Beneath.machine_model.specs.Operations.{action_of}
use Rattle.proof_reuse.specs.Beneath.machine_model.specs.States.{State}
use Rattle.proof_reuse.specs.Beneath.machine_model.proofs.Moves.{moves}
use Rattle.proof_reuse.specs.Beneath.proof_memory.specs.Laws.{IsInUse}
use Rattle.proof_reuse.specs.Beneath.proof_memory.proofs.Safety.AtEachTime.{safe_along}
use Rattle.proof_reuse.specs.Beneath.proof_generations.proofs.Roots.OfLists.{has_handles_along}
use Rattle.proof_reuse.specs.Beneath.proof_garbage.specs.Grace.{HaveEnded, IsKnownSince}
use Rattle.proof_reuse.specs.Beneath.proof_garbage.specs.Live.{IsKnown}
use Rattle.proof_reuse.specs.Beneath.proof_garbage.proofs.Grace.{dead}
use Rattle.proof_fresh.specs.Grace.{IsNotOffered, IsPrivateToNone}
use Rattle.proof_fresh.proofs.OnlyOffers.{only_by_offers}
use Rattle.proof_reuse.specs.Beneath.proof_garbage.proofs.Public.{IsPublic, public_on}
use Rattle.proof_followed.specs.Followed.{IsFollowedByAny}
use Rattle.proof_followed.proofs.Grace.{dies}
use Rattle.proof_reuse.specs.Laws.{IsGarbage}
use Rattle.proof_reuse.proofs.BegunSince.{ended_still}
use Rattle.proof_reuse.proofs.Offered.{offer_known, reached_followed}
use Rattle.proof_reuse.proofs.SwapIns.{none_swapped_back}

module _ (limits : Bounds) (ok : AreBounds limits) (before since : List Step) (r : Ref) (used : IsInUse (run limits before).heap r) (private_to_none : IsPrivateToNone (run limits before) r)
    (unfollowed : (a b : List Step) → since ≡ a ++ b → IsFollowedByAny (run limits (before ++ a)) r → ⊥) where
  abbrev Newer : ℕ → Type 0
  Newer id = (run limits before).begun ≤ id

  not_offered : IsNotOffered limits before since r
  not_offered a b zero operation offer split is lt acts unknown known = none-some operation is
  not_offered a b (suc k) operation offer split is lt acts unknown known =
      by_answer (next (run limits (before ++ a)) (step.Go (suc k))) (moves (run limits (before ++ a)) (step.Go (suc k))) known
    where
      not_both : operation.id < (run limits before).begun → (run limits before).begun ≤ operation.id → ⊥
      not_both x y = omega arith

      by_answer : (answer : Answer) → MovesIfTaken (run limits (before ++ a)) (step.Go (suc k)) answer → IsKnown (state_after (run limits (before ++ a)) answer) Newer r → ⊥
      by_answer (Err why) m known = unknown known
      by_answer (Ok done) m known = by_move done.0 done.1 m known
        where
          by_move : (o : Outcome) (after : State) → Moves (run limits (before ++ a)) (step.Go (suc k)) o after → IsKnown after Newer r → ⊥
          by_move o after (Goes {operation = found} d at_k x g) known =
              let same = same_Some _ _ (sym is ∙ at_k) in
              let old : Newer found.id → ⊥ = λ le. not_both lt (subst (λ (y : Operation). Newer y.id) (sym same) le) in
              elim (offer_known limits ok (before ++ a) k found at_k offer (subst (λ y. action_of (run limits (before ++ a)) y ≡ act.Offer offer) same acts) Newer old o (Goes d at_k x g) known) [
                | inl was ↦ unknown was
                | inr followed ↦ unfollowed a (step.Go (suc k) ∷ b) split followed
              ]
          by_move o after (Ends {operation = found} d at_k x) known =
              let same = same_Some _ _ (sym is ∙ at_k) in
              let wrong : act.Offer offer ≡ act.End _ = sym acts ∙ ap (action_of (run limits (before ++ a))) same ∙ x in
              let bad : ⊥ = cc in absurd bad

  unreached : IsReached (run limits before) r → ⊥
  unreached reached =
      unfollowed [] since refl
      (subst (λ l. IsFollowedByAny (run limits l) r) (sym (append-nil before)) (reached_followed (run limits before) (safe_along limits ok before) (has_handles_along limits before).0 reached))

  -- what nobody follows from then on is known to nobody who begins since
  pub stays_unknown : IsKnownSince (run limits before) (run limits (before ++ since)) r → ⊥
  stays_unknown = (dead limits ok before r used unreached since (only_by_offers limits ok before r used private_to_none since not_offered)).0

module _ (limits : Bounds) (ok : AreBounds limits) (first middle last : List Step) (r : Ref) (g : IsGarbage (run limits first) r) (used : IsInUse (run limits (first ++ middle)).heap r)
    (ended : HaveEnded (run limits first) (run limits (first ++ middle))) where
  public_first : IsPublic r (run limits first)
  public_first = record { made = (safe_along limits ok first).births r g.in_use.0 g.in_use.1; apart = λ k operation found. g.private_to_none (suc k) operation found }

  private_to_none : IsPrivateToNone (run limits (first ++ middle)) r
  private_to_none zero operation runs c = none-some operation runs
  private_to_none (suc k) operation runs c = (public_on limits ok first middle r public_first).apart k operation runs c

  unfollowed : (a b : List Step) → last ≡ a ++ b → IsFollowedByAny (run limits ((first ++ middle) ++ a)) r → ⊥
  unfollowed a b split followed =
      let same : (first ++ middle) ++ a ≡ first ++ (middle ++ a) = append_assoc first middle a in
      (dies limits ok first r g.in_use g.unfollowed g.unbrought (middle ++ a) (none_swapped_back limits ok first r g.in_use g.private_to_none (middle ++ a))).1
      (subst (λ l. HaveEnded (run limits first) (run limits l)) same (ended_still limits first middle a ended)) (subst (λ l. IsFollowedByAny (run limits l) r) same followed)

  pub unknown_after_grace : IsKnownSince (run limits (first ++ middle)) (run limits ((first ++ middle) ++ last)) r → ⊥
  unknown_after_grace = stays_unknown limits ok (first ++ middle) last r used private_to_none unfollowed

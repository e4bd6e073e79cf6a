-- What roots followed once nobody is to bring ever after.
use Rattle.std.proofs.Common.{◌≡◌, ℕ, suc, ◌∷◌, [], ◌++◌, List, Bool, true, false, Contains, Option, Some, None, refl, sym, ap, ◌∙◌, subst, arith, ◌⊎◌, inl, inr}
use Rattle.std.proofs.lemmas.Bool.{cases_eq}
use Rattle.std.proofs.lemmas.List.Elements.{Contains-append_cases}
use Rattle.proof_followed.specs.Beneath.slot_arena.specs.declared.refs.Ref.{Ref}
use Rattle.proof_followed.specs.Beneath.slot_arena.specs.declared.nodes.Prev.TheVariants as prev
use Rattle.proof_followed.specs.Beneath.slot_arena.specs.Heaps.{empty_branch, main_at, stored, refs_of_node, refs_of_option, refs_of_prev, refs_of_slot}
use Rattle.proof_followed.specs.Beneath.machine_model.specs.declared.copying.CopyLine.TheVariants as copy
use Rattle.proof_followed.specs.Beneath.machine_model.specs.declared.lines.Line.{Line}
use Rattle.proof_followed.specs.Beneath.machine_model.specs.declared.lines.Line.TheVariants as line
use Rattle.proof_followed.specs.Beneath.machine_model.specs.declared.operations.Operation.{Operation}
use Rattle.proof_followed.specs.Beneath.machine_model.specs.declared.roots.Descriptor.{Descriptor}
use Rattle.proof_followed.specs.Beneath.machine_model.specs.declared.steps.Bounds.{Bounds}
use Rattle.proof_followed.specs.Beneath.machine_model.specs.declared.steps.Step.{Step}
use Rattle.proof_followed.specs.Beneath.machine_model.specs.Machine.{AreBounds, run}
use Rattle.proof_followed.specs.Beneath.machine_model.specs.States.{State, operation_of}
use Rattle.proof_followed.specs.Beneath.machine_model.specs.Times.{last_of}
use Rattle.proof_followed.specs.Beneath.machine_model.proofs.Fates.{place_of_actor}
use Rattle.proof_followed.specs.Beneath.machine_model.proofs.Grown.{standing_parts, prev_standing}
use Rattle.proof_followed.specs.Beneath.machine_model.proofs.Times.{run_is, run_ends}
use Rattle.proof_followed.specs.Beneath.proof_memory.proofs.Safety.AtEachTime.{safe_along}
use Rattle.proof_followed.specs.Beneath.proof_commits.specs.Stages.{stage_of}
use Rattle.proof_followed.specs.Beneath.proof_commits.proofs.Known.Owners.{Staged}
use Rattle.proof_followed.specs.Beneath.proof_commits.proofs.Words.Stood.{Private}
use Rattle.proof_followed.specs.Beneath.proof_generations.specs.Running.{Runs}
use Rattle.proof_followed.specs.Beneath.proof_generations.proofs.Roots.Kept.{fresh_in, fresh_of}
use Rattle.proof_garbage.proofs.Claims.{none_in, one_in, both_in}
use Rattle.proof_garbage.proofs.Fresh.{node_word_of, prev_word_of}
use Rattle.proof_garbage.proofs.Private.{Others}
use Rattle.proof_garbage.proofs.Restoring.{staged, w, last}
use Rattle.proof_order.proofs.Openings.Branches.{IsCleared, empty_at}
use Rattle.proof_order.proofs.Openings.Copy.{copied}
use Rattle.proof_followed.specs.Followed.{IsFollowed, IsFollowedByRoots, from_root, from_operation, from_slot}
use Rattle.proof_followed.specs.Grace.{IsToBring, NobodyBrings, made_for_offer}
use Rattle.proof_followed.proofs.Apart.{IsApart, IsApartFrom}
use Rattle.proof_followed.proofs.Bringing.{apart_along, fresh_made, names_main}
use Rattle.proof_followed.proofs.Brought.{IsBrought, brought_followed}
use Rattle.proof_followed.proofs.InUse.{followed_used}
use Rattle.proof_followed.proofs.Sealed.{sealed_along}

-- what roots follow whoever else counts follows too
roots_followed : (state : State) (P : ℕ → Type 0) {r : Ref} → IsFollowedByRoots state r → IsFollowed state P r
roots_followed state P (from_root handle root r e is) = from_root handle root r e is
roots_followed state P (from_operation actor operation r e p c) = absurd p
roots_followed state P (from_slot q r k c) = from_slot q r (roots_followed state P k) c

-- ---- what a copy has made is a fresh root, or a clear's branch

offer_cases : (offer : Descriptor) (q : Ref) → Contains (offer.successor ∷ refs_of_option offer.second) q → (x : Bool) × (fresh_of x offer ≡ Some q)
offer_cases offer q c = elim (Contains-append_cases (offer.successor ∷ []) (refs_of_option offer.second) q c) [
  | inl first ↦ (true, ap Some (one_in (λ z. offer.successor ≡ z) offer.successor refl q first))
  | inr rest ↦ (false, by offer.second rest)
]
  where
    by : (second : Option Ref) → Contains (refs_of_option second) q → second ≡ Some q
    by None c = none_in q c
    by (Some z) c = ap Some (one_in (λ y. z ≡ y) z refl q c)

made_cases : (l : Line) (q : Ref) → Contains (made_for_offer l) q → ((x : Bool) × (fresh_in x l ≡ Some q)) ⊎ IsCleared l q
made_cases (line.Copy (copy.Cleared at main branch)) q c = inr (one_in (λ z. branch ≡ z) branch refl q c)
made_cases (line.Copy (copy.Second at main successor)) q c = inl (true, ap Some (one_in (λ z. successor ≡ z) successor refl q c))
made_cases (line.Copy (copy.Offer offer)) q c = inl (offer_cases offer q c)
made_cases (line.Copy (copy.Complete c)) q d = inl (offer_cases c.offer q d)
made_cases l q c = none_in q c

cleared_stage : (l : Line) (b : Ref) → IsCleared l b → (words : _) (t k : ℕ) → Staged words t k (stage_of l) → Private words t b
cleared_stage (line.Copy (copy.Cleared at main branch)) b is words t k st = subst (Private words t) is st
cleared_stage l b is words t k st = absurd is

module _ (limits : Bounds) (ok : AreBounds limits) (steps : List Step) where
  abbrev state : State
  state = run limits steps

  module _ (k : ℕ) (operation : Operation) (runs : Runs (run limits steps) k operation) (unmarked : operation.is_marked ≡ false) where
    -- nothing stands in a clear's branch
    branch_bare : (b : Ref) → IsCleared operation.line b → (y : Ref) → Contains (refs_of_slot (stored state.heap b)) y → ⊥
    branch_bare b is y c =
        let there = followed_used state (safe_along limits ok steps) (λ id. Unit {0}) (brought_followed limits ok steps (λ id. Unit {0}) k operation runs unmarked tt b (inr (inr is))) in
        let its : there.0.node ≡ empty_branch =
        sym (node_word_of limits steps ok b there.0 there.1)
        ∙ empty_at (run_is limits steps ok) (last_of limits steps) (omega arith) k operation b (ap (λ (s : State). operation_of s (suc k)) (run_ends limits steps) ∙ runs) is in
        let none : there.0.prev ≡ prev.None =
        sym (prev_standing state.heap b there.0 there.1) ∙ sym (prev_word_of limits steps ok b there)
        ∙ (cleared_stage operation.line b is (w limits steps ok) (last limits steps ok) (suc k) (staged limits steps ok (suc k) operation runs)).none in
        both_in (λ z. ⊥) (refs_of_node there.0.node) (refs_of_prev there.0.prev) (λ z d. none_in z (subst (λ n. Contains (refs_of_node n) z) its d))
        (λ z d. none_in z (subst (λ p. Contains (refs_of_prev p) z) none d)) y (subst (λ o. Contains (refs_of_slot o) y) (standing_parts state.heap b there.0 there.1).0 c)

    pub brought_of : (r : Ref) → IsToBring (run limits steps) operation r → IsBrought (run limits steps) operation r
    brought_of r (inl c) = elim (made_cases operation.line r c) [ inl fresh ↦ inl fresh | inr cleared ↦ inr (inr cleared) ]
    brought_of r (inr (q, c, d, other)) = elim (made_cases operation.line q c) [
      | inl fresh ↦
          let (x, e) = fresh in
          inr (inl (
            x,
            q,
            e,
            sym (names_main limits ok steps k operation x q runs unmarked e r d),
            λ same. other ((fresh_made x operation.line q e).1 ∙ ap Some (sym same)),
          ))
      | inr cleared ↦ absurd (branch_bare q cleared r d)
    ]

    -- it is unknown to others
    pub offered_unknown : (r : Ref) → IsToBring (run limits steps) operation r → IsFollowed (run limits steps) (Others operation.id) r → ⊥
    offered_unknown r b followed = sealed_along limits ok steps k operation runs unmarked r (brought_of r b) followed

  -- what roots follow is apart from what copies make
  apart_of_roots : (r : Ref) → IsFollowedByRoots (run limits steps) r → IsApart (run limits steps) r
  apart_of_roots r followed k operation runs unmarked = (
    λ x q e. (
      λ same. sealed q (inl (x, e)) (subst (IsFollowed state (Others operation.id)) (sym same) (roots_followed state (Others operation.id) followed)),
      λ is. by_expected x q e is (cases_eq r (copied operation.line).1),
    ),
    λ b is same. sealed b (inr (inr is)) (subst (IsFollowed state (Others operation.id)) (sym same) (roots_followed state (Others operation.id) followed)),
  )
    where
      sealed : (y : Ref) → IsBrought state operation y → IsFollowed state (Others operation.id) y → ⊥
      sealed = sealed_along limits ok steps k operation runs unmarked

      by_expected : (x : Bool) (q : Ref) → fresh_in x operation.line ≡ Some q → main_at state.heap q ≡ r → (r ≡ (copied operation.line).1) ⊎ (r ≡ (copied operation.line).1 → ⊥) →
          r ≡ (copied operation.line).1
      by_expected x q e is (inl same) = same
      by_expected x q e is (inr other) = absurd (sealed r (inr (inl (x, q, e, is, other))) (roots_followed state (Others operation.id) followed))

  -- and nobody is to bring what is apart from it
  nobody_brings : (r : Ref) → IsApart (run limits steps) r → NobodyBrings (run limits steps) r
  nobody_brings r apart actor operation is unmarked b =
      let (k, place, runs) = place_of_actor state actor operation is in by (apart k operation runs unmarked) (brought_of k operation runs unmarked r b)
    where
      by : IsApartFrom state operation r → IsBrought state operation r → ⊥
      by its (inl (x, e)) = (its.0 x r e).0 refl
      by its (inr (inl (x, q, e, main, other))) = other ((its.0 x q e).1 main)
      by its (inr (inr is)) = its.1 r is refl

pub never_brought : (limits : Bounds) → AreBounds limits → (before since : List Step) (r : Ref) → IsFollowedByRoots (run limits before) r → NobodyBrings (run limits (before ++ since)) r
never_brought limits ok before since r followed =
    nobody_brings limits ok (before ++ since) r
    (apart_along limits ok before r (followed_used (run limits before) (safe_along limits ok before) (λ id. ⊥) followed) (apart_of_roots limits ok before r followed) since)

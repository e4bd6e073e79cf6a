-- What roots don't follow and nobody is to bring is followed by nobody once all who ran then have ended, unless one of them swapped it in again.
use Rattle.std.proofs.Common.{◌≡◌, ℕ, zero, suc, ◌+◌, ◌<◌, ◌≤◌, List, [], ◌∷◌, ◌++◌, get_or, true, Some, None, Ok, Err, refl, sym, ap, ◌∙◌, subst}
use Rattle.std.proofs.Common.{arith, ◌⊎◌, inl, inr, append_assoc, append-nil}
use Rattle.std.proofs.lemmas.Option.{none-some}
use Rattle.proof_followed.specs.Beneath.slot_arena.specs.Refs.{birth_of}
use Rattle.proof_followed.specs.Beneath.slot_arena.specs.declared.refs.Ref.{Ref}
use Rattle.proof_followed.specs.Beneath.machine_model.specs.declared.actions.Action.{Action}
use Rattle.proof_followed.specs.Beneath.machine_model.specs.declared.actions.Action.TheVariants as act
use Rattle.proof_followed.specs.Beneath.machine_model.specs.declared.operations.Operation.{Operation}
use Rattle.proof_followed.specs.Beneath.machine_model.specs.declared.roots.Descriptor.{Descriptor}
use Rattle.proof_followed.specs.Beneath.machine_model.specs.declared.roots.RootWord.TheVariants.{Offer}
use Rattle.proof_followed.specs.Beneath.machine_model.specs.declared.steps.Bounds.{Bounds}
use Rattle.proof_followed.specs.Beneath.machine_model.specs.declared.steps.Outcome.{Outcome}
use Rattle.proof_followed.specs.Beneath.machine_model.specs.declared.steps.Step.{Step}
use Rattle.proof_followed.specs.Beneath.machine_model.specs.declared.steps.Step.TheVariants as step
use Rattle.proof_followed.specs.Beneath.machine_model.specs.Calls.{handle_of}
use Rattle.proof_followed.specs.Beneath.machine_model.specs.Grown.{standing}
use Rattle.proof_followed.specs.Beneath.machine_model.specs.Machine.{AreBounds, Answer, next, next_state, run, state_after}
use Rattle.proof_followed.specs.Beneath.machine_model.specs.Moves.{Moves, MovesIfTaken, GoesOn, Begins, Goes, Ends, Sweeps, GivesUp}
use Rattle.proof_followed.specs.Beneath.machine_model.specs.Operations.{action_of}
use Rattle.proof_followed.specs.Beneath.machine_model.specs.States.{State, first_state, operation_of, word_at}
use Rattle.proof_followed.specs.Beneath.machine_model.specs.Swapping.{stands_in}
use Rattle.proof_followed.specs.Beneath.machine_model.proofs.Along.{run_push}
use Rattle.proof_followed.specs.Beneath.machine_model.proofs.Fates.{place_of_actor}
use Rattle.proof_followed.specs.Beneath.machine_model.proofs.Moves.{moves}
use Rattle.proof_followed.specs.Beneath.proof_memory.specs.Laws.{IsInUse}
use Rattle.proof_followed.specs.Beneath.proof_memory.specs.Wants.{AllHold, action_wants}
use Rattle.proof_followed.specs.Beneath.proof_memory.proofs.Claims.Uses.{safe_of}
use Rattle.proof_followed.specs.Beneath.proof_memory.proofs.Safety.AtEachTime.{safe_along}
use Rattle.proof_followed.specs.Beneath.proof_memory.proofs.Safety.Guards.{Safe}
use Rattle.proof_followed.specs.Beneath.proof_memory.proofs.Safety.States.{IsSafe, births_grow, stood_or_made}
use Rattle.proof_followed.specs.Beneath.proof_memory.proofs.Safety.Steps.{step_claims, step_effect, safe_after}
use Rattle.proof_followed.specs.Beneath.proof_generations.specs.Laws.Roots.{settles}
use Rattle.proof_followed.specs.Beneath.proof_generations.proofs.Offers.Same.{HasOffers, same_offer}
use Rattle.proof_followed.specs.Beneath.proof_generations.proofs.Roots.OfLists.{has_handles_along}
use Rattle.proof_garbage.specs.Grace.{HaveEnded}
use Rattle.proof_garbage.proofs.Kept.{IsSwapIn}
use Rattle.proof_garbage.proofs.Restoring.{failed_over}
use Rattle.proof_followed.specs.Followed.{IsFollowed, IsFollowedByAny, IsFollowedByRoots, from_root, from_operation, from_slot}
use Rattle.proof_followed.specs.Grace.{IsFollowedSince, IsNotSwappedBack, NobodyBrings}
use Rattle.proof_followed.proofs.Apart.{IsApart}
use Rattle.proof_followed.proofs.Bringing.{apart_then, apart_along}
use Rattle.proof_followed.proofs.Carried.{Brings, brings_roots, brings_below, brings_not}
use Rattle.proof_followed.proofs.Hands.{WasFollowed, handle_open}
use Rattle.proof_followed.proofs.InUse.{followed_used}
use Rattle.proof_followed.proofs.Others.{other_followed}
use Rattle.proof_followed.proofs.Step.{rest_followed, counting_followed}

split : (a b : ℕ) → (a < b) ⊎ (b ≤ a)
split a b = grind arith

may_swap : (action : Action) → IsSwapIn action ⊎ (IsSwapIn action → ⊥)
may_swap (act.Publish i replaced fresh) = inl tt
may_swap action = inr (λ x. x)

swapped_in : (action : Action) → IsSwapIn action → (i : Ref) × (replaced : Ref) × (fresh : Ref) × (action ≡ act.Publish i replaced fresh)
swapped_in (act.Publish i replaced fresh) is = (i, replaced, fresh, refl)
swapped_in action is = absurd is

-- what is followed by nobody who counts roots follow alone
by_roots : (state : State) (P : ℕ → Type 0) → ((actor : ℕ) (operation : Operation) → operation_of state actor ≡ Some operation → P operation.id → ⊥) → {r : Ref} → IsFollowed state P r →
    IsFollowedByRoots state r
by_roots state P none (from_root handle root r e is) = from_root handle root r e is
by_roots state P none (from_operation actor operation r e p c) = absurd (none actor operation e p)
by_roots state P none (from_slot q r k c) = from_slot q r (by_roots state P none k) c

-- where only these run, what is followed is followed by them
by_all : (state : State) (P : ℕ → Type 0) → ((actor : ℕ) (operation : Operation) → operation_of state actor ≡ Some operation → P operation.id) → {r : Ref} → IsFollowedByAny state r →
    IsFollowed state P r
by_all state P all (from_root handle root r e is) = from_root handle root r e is
by_all state P all (from_operation actor operation r e p c) = from_operation actor operation r e (all actor operation e) c
by_all state P all (from_slot q r k c) = from_slot q r (by_all state P all k) c

-- ---- one step

module _ (limits : Bounds) (ok : AreBounds limits) (steps : List Step) (then : ℕ) (r : Ref) (low : birth_of r ≤ (run limits steps).heap.births) (apart : IsApart (run limits steps) r)
    (unknown : IsFollowed (run limits steps) (λ id. then ≤ id) r → ⊥) where
  abbrev state : State
  state = run limits steps

  abbrev P : ℕ → Type 0
  P id = then ≤ id

  I : IsSafe state
  I = safe_along limits ok steps

  H : HasOffers state
  H = (has_handles_along limits steps).0

  -- it isn't what a step makes
  not_made : (s : Step) (o : Outcome) (after : State) → Moves state s o after → IsFollowed after P r → standing state.heap r ≡ None → ⊥
  not_made s o after m followed none =
      let used = followed_used after (safe_after state I s o after m) P followed in
      elim (stood_or_made _ _ _ _ _ _ ((step_effect state I s o after m).3) r used.0 used.1) [
        | inl was ↦ none-some was.0 (sym none ∙ was.1)
        | inr made ↦ too_late made.0
      ]
    where
      too_late : birth_of r ≡ state.heap.births + 1 → ⊥
      too_late e = omega arith

  was_not : (s : Step) (o : Outcome) (after : State) → Moves state s o after → IsFollowed after P r → WasFollowed state I P r → ⊥
  was_not s o after m followed (inl known) = unknown known
  was_not s o after m followed (inr none) = not_made s o after m followed none

  SwapsBack : Step → State → Type 0
  SwapsBack s after = (actor : ℕ) (operation : Operation) (i replaced fresh : Ref) → s ≡ step.Go actor → operation_of state actor ≡ Some operation → operation.id < then →
      action_of state operation ≡ act.Publish i replaced fresh → IsFollowed after P r → ⊥

  by_move : (s : Step) (o : Outcome) (after : State) → Moves state s o after → next state s ≡ Ok (o, after) → SwapsBack s after → IsFollowed after P r → ⊥
  unfolding SwapsBack
  by_move s o after (Begins d) taken h followed = was_not s o after (Begins d) followed (rest_followed state I P s o after (Begins d) tt followed)
  by_move s o after (Ends d is a) taken h followed = was_not s o after (Ends d is a) followed (rest_followed state I P s o after (Ends d is a) tt followed)
  by_move s o after (GivesUp d is a) taken h followed = was_not s o after (GivesUp d is a) followed (rest_followed state I P s o after (GivesUp d is a) tt followed)
  by_move s o after (Sweeps spent) taken h followed = was_not s o after (Sweeps spent) followed (rest_followed state I P s o after (Sweeps spent) tt followed)
  by_move s o after (Goes {actor} {operation} {action} d is a g) taken h followed = by_order (split operation.id then)
    where
      at_it : (k : ℕ) × (actor ≡ suc k) × (get_or state.actors k None ≡ Some operation)
      at_it = place_of_actor state actor operation is

      going : GoesOn (action_of state operation)
      going = subst GoesOn (sym a) g

      offers : (offer : Descriptor) → settles (action_of state operation) ≡ Some offer → stands_in (word_at state (handle_of operation.call)) offer ≡ true →
          word_at state (handle_of operation.call) ≡ Offer offer
      offers offer settled stands = same_offer state H actor operation offer is settled (handle_of operation.call) stands

      not_both : operation.id < then → then ≤ operation.id → ⊥
      not_both lt le = omega arith

      by_swap : operation.id < then → IsSwapIn (action_of state operation) ⊎ (IsSwapIn (action_of state operation) → ⊥) → ⊥
      by_swap lt (inl swap) = let (i, replaced, fresh, e) = swapped_in (action_of state operation) swap in h actor operation i replaced fresh refl is lt e followed
      by_swap lt (inr no_swap) =
          let (k, own, found) = at_it in
          let (its, is_open) = handle_open state I (λ id. Unit {0}) actor k operation is found tt going in
          elim (other_followed state I P actor k operation is found own (not_both lt) its is_open no_swap (Brings limits ok steps P actor operation is its is_open o taken) offers
          (λ i main previous e. failed_over limits steps ok actor operation i main previous is e
          (safe_of (subst (λ x. AllHold (Safe state operation.epoch) state.heap (action_wants x)) e (step_claims state I k operation found)).1.0).used)
          (λ offer main does carried. let new = brings_roots limits ok steps P actor operation is its is_open o taken offer main does carried in (inr new.0, λ q e. inr (new.1 q e)))
          (brings_below limits ok steps P actor operation is its is_open o taken) o (Goes d is a g) followed) [
            | inl known ↦ unknown known
            | inr new ↦ brings_not limits ok steps P actor operation is its is_open o taken r apart new
          ]

      by_order : (operation.id < then) ⊎ (then ≤ operation.id) → ⊥
      by_order (inl lt) = by_swap lt (may_swap (action_of state operation))
      by_order (inr le) =
          let (k, own, found) = at_it in
          let (its, is_open) = handle_open state I P actor k operation is found le going in
          elim (counting_followed state I P actor k operation is found le going (Brings limits ok steps P actor operation is its is_open o taken) offers
          (λ offer main does carried. let new = brings_roots limits ok steps P actor operation is its is_open o taken offer main does carried in (inr new.0, λ q e. inr (new.1 q e)))
          (λ q slot new stands y c. elim (brings_below limits ok steps P actor operation is its is_open o taken q slot new stands y c) [ inl known ↦ inl (inl known) | inr more ↦ inr more ])
          o (Goes d is a g) followed) [
            | inl was ↦ was_not s o after (Goes d is a g) followed was
            | inr new ↦ brings_not limits ok steps P actor operation is its is_open o taken r apart new
          ]

  by_answer : (s : Step) (answer : Answer) → next state s ≡ answer → MovesIfTaken state s answer → SwapsBack s (state_after state answer) → IsFollowed (state_after state answer) P r → ⊥
  by_answer s (Ok done) e m h followed = by_move s done.0 done.1 m e h followed
  by_answer s (Err why) e m h followed = unknown followed

  births_kept : (s : Step) (answer : Answer) → MovesIfTaken state s answer → birth_of r ≤ (state_after state answer).heap.births
  births_kept s (Ok done) m = bounded (births_grow _ _ _ _ _ _ ((step_effect state I s done.0 done.1 m).3))
    where
      bounded : state.heap.births ≤ done.1.heap.births → birth_of r ≤ done.1.heap.births
      bounded x = omega (arith, low, x)
  births_kept s (Err why) m = low

  pub one_step : (s : Step) →
      ((actor : ℕ) (operation : Operation) (i replaced fresh : Ref) → s ≡ step.Go actor → operation_of (run limits steps) actor ≡ Some operation → operation.id < then →
      action_of (run limits steps) operation ≡ act.Publish i replaced fresh → IsFollowed (next_state (run limits steps) s) (λ id. then ≤ id) r → ⊥) →
      (birth_of r ≤ (next_state (run limits steps) s).heap.births) × (IsFollowed (next_state (run limits steps) s) (λ id. then ≤ id) r → ⊥)
  unfolding SwapsBack
  one_step s h = (births_kept s (next state s) (moves state s), by_answer s (next state s) refl (moves state s) h)

-- ---- along a run

module _ (limits : Bounds) (ok : AreBounds limits) (before : List Step) (r : Ref) (used : IsInUse (run limits before).heap r) (unfollowed : IsFollowedByRoots (run limits before) r → ⊥)
    (nobody : NobodyBrings (run limits before) r) where
  abbrev start : State
  start = run limits before

  abbrev Unknown : State → Type 0
  Unknown now = (birth_of r ≤ now.heap.births) × (IsFollowedSince (run limits before) now r → ⊥)

  unknown_then : Unknown start
  unknown_then = (
    (safe_along limits ok before).births r used.0 used.1,
    λ known. unfollowed (by_roots start (λ id. start.begun ≤ id) (λ actor operation e le. none_new actor operation e le) known),
  )
    where
      not_both : (id : ℕ) → id < start.begun → start.begun ≤ id → ⊥
      not_both id lt le = omega arith

      none_new : (actor : ℕ) (operation : Operation) → operation_of start actor ≡ Some operation → start.begun ≤ operation.id → ⊥
      none_new zero operation e le = none-some operation e
      none_new (suc k) operation e le = not_both operation.id ((has_handles_along limits before).0.ids.below k operation e) le

  unknown_along : (a b : List Step) → IsNotSwappedBack limits before (a ++ b) r → Unknown (run limits (before ++ a)) → Unknown (run limits (before ++ (a ++ b)))
  unknown_along a [] h u = subst (λ l. Unknown (run limits (before ++ l))) (sym (append-nil a)) u
  unknown_along a (s ∷ b) h u =
      let moved : run limits (before ++ (a ++ s ∷ [])) ≡ next_state (run limits (before ++ a)) s =
      ap (run limits) (sym (append_assoc before a (s ∷ []))) ∙ run_push (first_state limits) (before ++ a) s in
      let joined : (a ++ s ∷ []) ++ b ≡ a ++ s ∷ b = append_assoc a (s ∷ []) b in
      subst (λ l. Unknown (run limits (before ++ l))) joined
      (unknown_along (a ++ s ∷ []) b (subst (λ l. IsNotSwappedBack limits before l r) (sym joined) h)
      (subst Unknown (sym moved)
      (one_step limits ok (before ++ a) start.begun r u.0 (apart_along limits ok before r used (apart_then limits ok before r nobody) a) u.1 s
      (λ actor operation i replaced fresh is runs lt swaps.
      subst (λ x. IsFollowedSince start (next_state (run limits (before ++ a)) x) r → ⊥) (sym is)
      (h a b actor operation i replaced fresh (ap (λ x. a ++ x ∷ b) is) runs lt swaps u.1)))))

  pub dies : (since : List Step) → IsNotSwappedBack limits before since r →
      (IsFollowedSince (run limits before) (run limits (before ++ since)) r → ⊥)
      × (HaveEnded (run limits before) (run limits (before ++ since)) → IsFollowedByAny (run limits (before ++ since)) r → ⊥)
  dies since h =
      let unknown = (unknown_along [] since h (subst (λ l. Unknown (run limits l)) (sym (append-nil before)) unknown_then)).1 in
      (unknown, λ ended followed. unknown (by_all (run limits (before ++ since)) (λ id. start.begun ≤ id) ended followed))

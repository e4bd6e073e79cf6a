-- What no root reaches is dead once all who ran then have ended, unless one of them put it back.
use Rattle.std.proofs.Common.{◌≡◌, ℕ, zero, suc, ◌+◌, ◌<◌, ◌≤◌, List, [], ◌∷◌, ◌++◌, get_or, Some, None, Ok, Err, refl, sym, ap, ◌∙◌, subst, arith, ◌⊎◌, inl, inr, append_assoc, append-nil}
use Rattle.std.proofs.lemmas.Option.{none-some, same_Some}
use Rattle.proof_garbage.specs.Beneath.slot_arena.specs.Refs.{birth_of}
use Rattle.proof_garbage.specs.Beneath.slot_arena.specs.declared.refs.Ref.{Ref}
use Rattle.proof_garbage.specs.Beneath.machine_model.specs.declared.actions.Action.{Action}
use Rattle.proof_garbage.specs.Beneath.machine_model.specs.declared.actions.Action.TheVariants as act
use Rattle.proof_garbage.specs.Beneath.machine_model.specs.declared.operations.Operation.{Operation}
use Rattle.proof_garbage.specs.Beneath.machine_model.specs.declared.steps.Bounds.{Bounds}
use Rattle.proof_garbage.specs.Beneath.machine_model.specs.declared.steps.Outcome.{Outcome}
use Rattle.proof_garbage.specs.Beneath.machine_model.specs.declared.steps.Step.{Step}
use Rattle.proof_garbage.specs.Beneath.machine_model.specs.declared.steps.Step.TheVariants as step
use Rattle.proof_garbage.specs.Beneath.machine_model.specs.Calls.{handle_of}
use Rattle.proof_garbage.specs.Beneath.machine_model.specs.Contents as contents
use Rattle.proof_garbage.specs.Beneath.machine_model.specs.Contents.{IsReached}
use Rattle.proof_garbage.specs.Beneath.machine_model.specs.States.{State, first_state, operation_of}
use Rattle.proof_garbage.specs.Beneath.machine_model.specs.Operations.{action_of}
use Rattle.proof_garbage.specs.Beneath.machine_model.specs.Machine.{AreBounds, Answer, run, next, next_state, state_after}
use Rattle.proof_garbage.specs.Beneath.machine_model.specs.Moves.{Moves, MovesIfTaken, GoesOn, Begins, Goes, Ends, Sweeps, GivesUp}
use Rattle.proof_garbage.specs.Beneath.machine_model.specs.Grown.{standing}
use Rattle.proof_garbage.specs.Beneath.machine_model.proofs.Along.{run_push}
use Rattle.proof_garbage.specs.Beneath.machine_model.proofs.Fates.{place_of_actor}
use Rattle.proof_garbage.specs.Beneath.machine_model.proofs.Moves.{moves}
use Rattle.proof_garbage.specs.Beneath.proof_memory.specs.Laws.{IsInUse}
use Rattle.proof_garbage.specs.Beneath.proof_memory.proofs.Claims.Uses.{safe_of}
use Rattle.proof_garbage.specs.Beneath.proof_memory.specs.Wants.{AllHold, action_wants}
use Rattle.proof_garbage.specs.Beneath.proof_memory.proofs.Safety.Guards.{Safe}
use Rattle.proof_garbage.specs.Beneath.proof_memory.proofs.Safety.AtEachTime.{safe_along}
use Rattle.proof_garbage.specs.Beneath.proof_memory.proofs.Safety.States.{IsSafe, births_grow, stood_or_made}
use Rattle.proof_garbage.specs.Beneath.proof_memory.proofs.Safety.Steps.{step_effect, step_claims, safe_after}
use Rattle.proof_garbage.specs.Beneath.proof_generations.proofs.Roots.OfLists.{has_handles_along}
use Rattle.proof_garbage.specs.Beneath.proof_generations.proofs.Offers.Same.{same_offer}
use Rattle.proof_garbage.specs.Live.{IsKnown, IsLive, from_root, from_operation, from_slot}
use Rattle.proof_garbage.specs.Grace.{MayMakeKnown, IsNotPutBack, HaveEnded, IsKnownSince}
use Rattle.proof_garbage.proofs.Known.{known_used}
use Rattle.proof_garbage.proofs.Step.{WasKnown, Counts, step_known}
use Rattle.proof_garbage.proofs.Unknown.{old_known}
use Rattle.proof_garbage.proofs.Restoring.{failed_over}

split : (a b : ℕ) → (a < b) ⊎ (b ≤ a)
split a b = grind arith

may : (action : Action) → MayMakeKnown action ⊎ (MayMakeKnown action → ⊥)
may (act.Publish i replaced fresh) = inl tt
may (act.Offer offer) = inl tt
may action = inr (λ x. x)

-- what is known by nobody is reached by roots alone
pub reached_by : (state : State) (P : ℕ → Type 0) → ((actor : ℕ) (operation : Operation) → operation_of state actor ≡ Some operation → P operation.id → ⊥) → {r : Ref} → IsKnown state P r →
    IsReached state r
reached_by state P none (from_root handle r c) = contents.from_root handle r c
reached_by state P none (from_operation actor operation r e p c) = absurd (none actor operation e p)
reached_by state P none (from_slot q r k c) = contents.from_slot q r (reached_by state P none k) c

-- where only these run, what is live is known by them
pub known_by_all : (state : State) (P : ℕ → Type 0) → ((actor : ℕ) (operation : Operation) → operation_of state actor ≡ Some operation → P operation.id) → {r : Ref} → IsLive state r →
    IsKnown state P r
known_by_all state P all (from_root handle r c) = from_root handle r c
known_by_all state P all (from_operation actor operation r e p c) = from_operation actor operation r e (all actor operation e) c
known_by_all state P all (from_slot q r k c) = from_slot q r (known_by_all state P all k) c

module _ (limits : Bounds) (ok : AreBounds limits) (steps : List Step) (then : ℕ) (r : Ref) where
  abbrev state : State
  state = run limits steps

  abbrev P : ℕ → Type 0
  P id = then ≤ id

  I : IsSafe state
  I = safe_along limits ok steps

  -- what is drawn after it
  not_made : (s : Step) (o : Outcome) (after : State) → Moves state s o after → birth_of r ≤ state.heap.births → IsKnown after P r → standing state.heap r ≡ None → ⊥
  not_made s o after m low known none =
      let used = known_used after (safe_after state I s o after m) P known in
      elim (stood_or_made _ _ _ _ _ _ ((step_effect state I s o after m).3) r used.0 used.1) [
        | inl was ↦ none-some was.0 (sym none ∙ was.1)
        | inr made ↦ too_late made.0
      ]
    where
      too_late : birth_of r ≡ state.heap.births + 1 → ⊥
      too_late e = omega arith

  by_was : (s : Step) (o : Outcome) (after : State) → Moves state s o after → birth_of r ≤ state.heap.births → IsKnown after P r → WasKnown state I P r → IsKnown state P r
  by_was s o after m low known (inl k) = k
  by_was s o after m low known (inr none) = absurd (not_made s o after m low known none)

  going : (s : Step) (o : Outcome) (after : State) (m : Moves state s o after) → birth_of r ≤ state.heap.births → Counts state I P s → IsKnown after P r → IsKnown state P r
  going s o after m low counts known = by_was s o after m low known (step_known state I P s o after m counts known)

  ends_no_go : (actor : ℕ) (operation : Operation) (action : Action) → operation_of state actor ≡ Some operation → action_of state operation ≡ action → (GoesOn action → ⊥) →
      Counts state I P (step.Go actor)
  ends_no_go actor operation action is a no_go other is' g =
      absurd (no_go (subst GoesOn (ap (action_of state) (same_Some _ _ (sym is' ∙ is)) ∙ a) g))

  pub by_move : (s : Step) (o : Outcome) (after : State) → Moves state s o after → birth_of r ≤ state.heap.births →
      ((actor : ℕ) (operation : Operation) → s ≡ step.Go actor → operation_of state actor ≡ Some operation → operation.id < then → MayMakeKnown (action_of state operation) →
      (IsKnown state P r → ⊥) → IsKnown after P r → ⊥) → (IsKnown state P r → ⊥) → IsKnown after P r → ⊥
  by_move s o after (Begins d) low h unknown known = unknown (going s o after (Begins d) low tt known)
  by_move s o after (Ends {actor} {operation} d is a) low h unknown known =
      unknown (going s o after (Ends d is a) low (ends_no_go actor operation _ is a (λ g. g)) known)
  by_move s o after (Sweeps spent) low h unknown known = unknown (going s o after (Sweeps spent) low tt known)
  by_move s o after (GivesUp d is a) low h unknown known = unknown (going s o after (GivesUp d is a) low tt known)
  by_move s o after (Goes {actor} {operation} {action} d is a g) low h unknown known = by_order (split operation.id then)
    where
      at_it : (k : ℕ) × (actor ≡ suc k) × (get_or state.actors k None ≡ Some operation)
      at_it = place_of_actor state actor operation is

      counts : then ≤ operation.id → Counts state I P (step.Go actor)
      counts le other is' g = subst (λ (x : Operation). then ≤ x.id) (same_Some _ _ (sym is ∙ is')) le

      by_may : operation.id < then → MayMakeKnown (action_of state operation) ⊎ (MayMakeKnown (action_of state operation) → ⊥) → ⊥
      by_may lt (inl may_put) = h actor operation refl is lt may_put unknown known
      by_may lt (inr harmless) =
          let (k, own, found) = at_it in
          unknown (old_known state I P actor k operation is found (λ le. not_both lt le)
          (λ offer settled stands. same_offer state (has_handles_along limits steps).0 actor operation offer is settled (handle_of operation.call) stands)
          (λ i main previous e. failed_over limits steps ok actor operation i main previous is e
          (safe_of (subst (λ x. AllHold (Safe state operation.epoch) state.heap (action_wants x)) e (step_claims state I k operation found)).1.0).used)
          o (Goes d is a g) own harmless known)
        where
          not_both : operation.id < then → then ≤ operation.id → ⊥
          not_both lt le = omega arith

      by_order : (operation.id < then) ⊎ (then ≤ operation.id) → ⊥
      by_order (inl lt) = by_may lt (may (action_of state operation))
      by_order (inr le) = unknown (going (step.Go actor) o after (Goes d is a g) low (counts le) known)

-- ---- along a run

module _ (limits : Bounds) (ok : AreBounds limits) (before : List Step) (r : Ref) (used : IsInUse (run limits before).heap r) (unreached : IsReached (run limits before) r → ⊥) where
  abbrev start : State
  start = run limits before

  -- unknown, and its birth drawn
  abbrev Unknown : State → Type 0
  Unknown now = (birth_of r ≤ now.heap.births) × (IsKnownSince start now r → ⊥)

  at_start : Unknown start
  at_start = (
    (safe_along limits ok before).births r used.0 used.1,
    λ known. unreached (reached_by start (λ id. start.begun ≤ id) (λ actor operation e le. none_new actor operation e le) known),
  )
    where
      not_both : (id : ℕ) → id < start.begun → start.begun ≤ id → ⊥
      not_both id lt le = omega arith

      none_new : (actor : ℕ) (operation : Operation) → operation_of start actor ≡ Some operation → start.begun ≤ operation.id → ⊥
      none_new zero operation e le = none-some operation e
      none_new (suc k) operation e le = not_both operation.id ((has_handles_along limits before).0.ids.below k operation e) le

  births_kept : (state : State) (I : IsSafe state) (s : Step) (answer : Answer) → MovesIfTaken state s answer → birth_of r ≤ state.heap.births → birth_of r ≤ (state_after state answer).heap.births
  births_kept state I s (Ok done) m low = bounded (births_grow _ _ _ _ _ _ ((step_effect state I s done.0 done.1 m).3)) low
    where
      bounded : state.heap.births ≤ done.1.heap.births → birth_of r ≤ state.heap.births → birth_of r ≤ done.1.heap.births
      bounded x y = omega arith
  births_kept state I s (Err why) m low = low

  one_step : (steps : List Step) (s : Step) → Unknown (run limits steps) →
      ((actor : ℕ) (operation : Operation) → s ≡ step.Go actor → operation_of (run limits steps) actor ≡ Some operation → operation.id < start.begun →
      MayMakeKnown (action_of (run limits steps) operation) →
      (IsKnownSince start (run limits steps) r → ⊥) → IsKnownSince start (next_state (run limits steps) s) r → ⊥) → Unknown (next_state (run limits steps) s)
  one_step steps s u h =
      (births_kept (run limits steps) (safe_along limits ok steps) s (next (run limits steps) s) (moves (run limits steps) s) u.0, by_answer (next (run limits steps) s) (moves (run limits steps) s) h)
    where
      by_answer : (answer : Answer) → MovesIfTaken (run limits steps) s answer →
          ((actor : ℕ) (operation : Operation) → s ≡ step.Go actor → operation_of (run limits steps) actor ≡ Some operation → operation.id < start.begun →
          MayMakeKnown (action_of (run limits steps) operation) →
          (IsKnownSince start (run limits steps) r → ⊥) → IsKnownSince start (state_after (run limits steps) answer) r → ⊥) → IsKnownSince start (state_after (run limits steps) answer) r → ⊥
      by_answer (Ok done) m h = by_move limits ok steps start.begun r s done.0 done.1 m u.0 h u.1
      by_answer (Err why) m h = u.1

  pub unknown_along : (a b : List Step) → IsNotPutBack limits before (a ++ b) r → Unknown (run limits (before ++ a)) → Unknown (run limits (before ++ (a ++ b)))
  unknown_along a [] h u = subst (λ l. Unknown (run limits (before ++ l))) (sym (append-nil a)) u
  unknown_along a (s ∷ b) h u =
      let moved : run limits (before ++ (a ++ s ∷ [])) ≡ next_state (run limits (before ++ a)) s =
      ap (run limits) (sym (append_assoc before a (s ∷ []))) ∙ run_push (first_state limits) (before ++ a) s in
      let joined : (a ++ s ∷ []) ++ b ≡ a ++ s ∷ b = append_assoc a (s ∷ []) b in
      subst (λ l. Unknown (run limits (before ++ l))) joined
      (unknown_along (a ++ s ∷ []) b (subst (λ l. IsNotPutBack limits before l r) (sym joined) h)
      (subst Unknown (sym moved)
      (one_step (before ++ a) s u (λ actor operation is runs lt may_put unknown.
      subst (λ x. IsKnownSince start (next_state (run limits (before ++ a)) x) r → ⊥) (sym is)
      (h a b actor operation (ap (λ x. a ++ x ∷ b) is) runs lt may_put unknown)))))

  pub dead : (since : List Step) → IsNotPutBack limits before since r →
      (IsKnownSince start (run limits (before ++ since)) r → ⊥) × (HaveEnded start (run limits (before ++ since)) → IsLive (run limits (before ++ since)) r → ⊥)
  dead since h =
      let unknown = (unknown_along [] since h (subst (λ l. Unknown (run limits l)) (sym (append-nil before)) at_start)).1 in
      (unknown, λ ended live. unknown (known_by_all (run limits (before ++ since)) (λ id. start.begun ≤ id) ended live))

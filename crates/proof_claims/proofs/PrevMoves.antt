-- What a step does to the prev word of a node that stands before and after it.
use Rattle.std.proofs.Common.{◌≡◌, inl, inr, ℕ, ◌==◌, Bool, true, false, List, [], ◌∷◌, ◌++◌, Option, Some, None, map, refl, sym, ap, subst, ◌∙◌, eqb-true}
use Rattle.std.proofs.lemmas.Bool.{cases_eq}
use Rattle.std.proofs.lemmas.Option.{none-some}
use Rattle.proof_claims.specs.Beneath.slot_arena.specs.declared.nodes.Node.{Node}
use Rattle.proof_claims.specs.Beneath.slot_arena.specs.declared.nodes.Node.TheVariants.{Indirection}
use Rattle.proof_claims.specs.Beneath.slot_arena.specs.declared.nodes.Prev.TheVariants as prev
use Rattle.proof_claims.specs.Beneath.slot_arena.specs.declared.refs.Ref.{Ref}
use Rattle.proof_claims.specs.Beneath.slot_arena.specs.Heaps.{main_at, next_ref, prev_at, taken, with_main, with_prev}
use Rattle.proof_claims.specs.Beneath.machine_model.specs.declared.actions.Action.{Action}
use Rattle.proof_claims.specs.Beneath.machine_model.specs.declared.actions.Action.TheVariants as act
use Rattle.proof_claims.specs.Beneath.machine_model.specs.declared.steps.Bounds.{Bounds}
use Rattle.proof_claims.specs.Beneath.machine_model.specs.declared.steps.Outcome.{Outcome}
use Rattle.proof_claims.specs.Beneath.machine_model.specs.declared.steps.Step.{Step}
use Rattle.proof_claims.specs.Beneath.machine_model.specs.Acting.{acted, decided, if_changed, new_root_taken, operation_after}
use Rattle.proof_claims.specs.Beneath.machine_model.specs.Calls.{handle_of}
use Rattle.proof_claims.specs.Beneath.machine_model.specs.Grown.{standing}
use Rattle.proof_claims.specs.Beneath.machine_model.specs.Machine.{AreBounds, begun_operation, pin_of, run}
use Rattle.proof_claims.specs.Beneath.machine_model.specs.Moves.{Begins, Ends, GivesUp, Goes, GoesOn, Moves, Sweeps}
use Rattle.proof_claims.specs.Beneath.machine_model.specs.Reading.{Commits, Fails, Overtaken, Verdict, is_licensed, is_pending, verdict, verdict_by}
use Rattle.proof_claims.specs.Beneath.machine_model.specs.States.{State, with_operation}
use Rattle.proof_claims.specs.Beneath.machine_model.proofs.HeapMoves.{aborted_heap, begin_heap, completed_heap, offered_heap}
use Rattle.proof_claims.specs.Beneath.machine_model.proofs.InUse.{InUse}
use Rattle.proof_claims.specs.Beneath.machine_model.proofs.Slots.{ripe_in_use}
use Rattle.proof_claims.specs.Beneath.proof_garbage.proofs.Kept.{pending_is}
use Rattle.proof_claims.specs.Beneath.proof_memory.proofs.Claims.Uses.{meets_of, safe_of}
use Rattle.proof_claims.specs.Beneath.proof_memory.proofs.Heap.Moves.{sweep_goes}
use Rattle.proof_claims.specs.Beneath.proof_memory.proofs.Heap.Under.{none_taken, taken_all}
use Rattle.proof_claims.specs.Beneath.proof_memory.proofs.Safety.AtEachTime.{safe_along}
use Rattle.proof_claims.specs.Beneath.proof_memory.proofs.Safety.States.{stands_in_use}
use Rattle.proof_claims.specs.Beneath.proof_memory.specs.Laws.{IsInUse}
use Rattle.proof_claims.specs.Beneath.proof_memory.specs.Vocabulary.{ripe}
use Rattle.proof_claims.proofs.Acted.{acted_after, wants}
use Rattle.proof_claims.proofs.ChangeKinds.{Acting}
use Rattle.proof_claims.proofs.Standing.{prev_is, prev_same, prev_still, prev_still_main, used_after_main}

pub data PrevMoves (state : State) (s : Step) (after : State) (r : Ref) : Type 0 where
  same_prev : prev_at after.heap r ≡ prev_at state.heap r → PrevMoves state s after r
  now_pending : (i a : Ref) → Acting state s (act.Publish i a r) → main_at state.heap i ≡ a → prev_at after.heap r ≡ prev.Pending a → PrevMoves state s after r
  now_committed : (i p : Ref) (told : Option ℕ) → Acting state s (act.Decide i r p told) → verdict state.heap i r p told ≡ Commits → prev_at state.heap r ≡ prev.Pending p →
      prev_at after.heap r ≡ prev.None → PrevMoves state s after r
  now_failed : (i p : Ref) (told : Option ℕ) → Acting state s (act.Decide i r p told) → verdict state.heap i r p told ≡ Fails → prev_at state.heap r ≡ prev.Pending p →
      prev_at after.heap r ≡ prev.Failed p → PrevMoves state s after r

committed_pends : (b c : Bool) → verdict_by b c ≡ Commits → c ≡ true
committed_pends b true e = refl
committed_pends true false e = let bad : ⊥ = cc e in absurd bad
committed_pends false false e = let bad : ⊥ = cc e in absurd bad

failed_pends : (b c : Bool) → verdict_by b c ≡ Fails → c ≡ true
failed_pends b true e = refl
failed_pends true false e = let bad : ⊥ = cc e in absurd bad
failed_pends false false e = let bad : ⊥ = cc e in absurd bad

module _ (limits : Bounds) (ok : AreBounds limits) (xs : List Step) (s : Step) (o : Outcome) (after : State) (m : Moves (run limits xs) s o after)
    (is_after : run limits (xs ++ s ∷ []) ≡ after) where
  abbrev state : State
  state = run limits xs

  -- ---- a decision

  module _ (i f p : Ref) (told : Option ℕ) (a : Acting state s (act.Decide i f p told)) where
    decided_f : IsInUse state.heap f
    decided_f = safe_of (wants limits ok xs s o after m is_after (act.Decide i f p told) a).1.0

    heap_by : (v : Verdict) → verdict state.heap i f p told ≡ v → after.heap ≡ decided state.heap f p v
    heap_by v e = ap (λ (z : State). z.heap) (acted_after state s o after m (act.Decide i f p told) a tt) ∙ ap (decided state.heap f p) e

    pub is_committed : verdict state.heap i f p told ≡ Commits → prev_at after.heap f ≡ prev.None
    is_committed v = ap (λ h. prev_at h f) (heap_by Commits v) ∙ prev_is state.heap f prev.None decided_f

    pub was_pending : verdict state.heap i f p told ≡ Commits → prev_at state.heap f ≡ prev.Pending p
    was_pending v = pending_is (prev_at state.heap f) p (committed_pends (is_licensed state.heap i told) (is_pending (prev_at state.heap f) p) v)

    by_decide : (r : Ref) → IsInUse state.heap r → (v : Verdict) → verdict state.heap i f p told ≡ v → PrevMoves state s after r
    by_decide r used Commits v = elim (cases_eq r f) [
      | inl same ↦ subst (PrevMoves state s after) (sym same) (now_committed i p told a v (was_pending v) (is_committed v))
      | inr other ↦ same_prev (ap (λ h. prev_at h r) (heap_by Commits v) ∙ prev_still state.heap f prev.None decided_f r other used)
    ]
    by_decide r used Fails v = elim (cases_eq r f) [
      | inl same ↦
          subst (PrevMoves state s after) (sym same)
          (now_failed i p told a v (pending_is (prev_at state.heap f) p (failed_pends (is_licensed state.heap i told) (is_pending (prev_at state.heap f) p) v))
          (ap (λ h. prev_at h f) (heap_by Fails v) ∙ prev_is state.heap f (prev.Failed p) decided_f))
      | inr other ↦ same_prev (ap (λ h. prev_at h r) (heap_by Fails v) ∙ prev_still state.heap f (prev.Failed p) decided_f r other used)
    ]
    by_decide r used (Overtaken licensed) v = same_prev (ap (λ h. prev_at h r) (heap_by (Overtaken licensed) v))

  -- ---- a node that is swapped in

  by_publish : (i a f : Ref) → (its : Acting state s (act.Publish i a f)) → (r : Ref) → IsInUse state.heap r → (b : Bool) → (main_at state.heap i == a) ≡ b → PrevMoves state s after r
  by_publish i a f its r used false hit =
      same_prev (ap (λ (z : State). prev_at z.heap r) (acted_after state s o after m (act.Publish i a f) its tt)
      ∙ ap (λ b. prev_at (if_changed b (with_prev (with_main state.heap i f) f (prev.Pending a)) state.heap) r) hit)
  by_publish i a f its r used true hit =
      let claims = wants limits ok xs s o after m is_after (act.Publish i a f) its in
      let used_i = safe_of claims.0 in
      let between = used_after_main state.heap i f used_i (meets_of claims.0) in
      let heap : after.heap ≡ with_prev (with_main state.heap i f) f (prev.Pending a) =
      ap (λ (z : State). z.heap) (acted_after state s o after m (act.Publish i a f) its tt)
      ∙ ap (λ b. if_changed b (with_prev (with_main state.heap i f) f (prev.Pending a)) state.heap) hit in
      let used_f = between f (safe_of claims.1.1.0) in
      elim (cases_eq r f) [
        | inl same ↦
            subst (PrevMoves state s after) (sym same)
            (now_pending i a its (eqb-true (main_at state.heap i) a hit) (ap (λ h. prev_at h f) heap ∙ prev_is (with_main state.heap i f) f (prev.Pending a) used_f))
        | inr other ↦
            same_prev (ap (λ h. prev_at h r) heap ∙ prev_still (with_main state.heap i f) f (prev.Pending a) used_f r other (between r used)
            ∙ prev_still_main state.heap i f used_i (meets_of claims.0) r used)
      ]

  -- it stands over the one that it was swapped in for
  pub published_prev : (i a f : Ref) → Acting state s (act.Publish i a f) → (main_at state.heap i == a) ≡ true → prev_at after.heap f ≡ prev.Pending a
  published_prev i a f its hit =
      let claims = wants limits ok xs s o after m is_after (act.Publish i a f) its in
      let used_f = used_after_main state.heap i f (safe_of claims.0) (meets_of claims.0) f (safe_of claims.1.1.0) in
      ap (λ (z : State). prev_at z.heap f) (acted_after state s o after m (act.Publish i a f) its tt)
      ∙ ap (λ b. prev_at (if_changed b (with_prev (with_main state.heap i f) f (prev.Pending a)) state.heap) f) hit ∙ prev_is (with_main state.heap i f) f (prev.Pending a) used_f

  -- ---- a main node that is put back

  by_restore : (i q p : Ref) → (its : Acting state s (act.Restore i q p)) → (r : Ref) → IsInUse state.heap r → (b : Bool) → (main_at state.heap i == q) ≡ b → PrevMoves state s after r
  by_restore i q p its r used false hit =
      same_prev (ap (λ (z : State). prev_at z.heap r) (acted_after state s o after m (act.Restore i q p) its tt) ∙ ap (λ b. prev_at (if_changed b (with_main state.heap i p) state.heap) r) hit)
  by_restore i q p its r used true hit =
      let claims = wants limits ok xs s o after m is_after (act.Restore i q p) its in
      same_prev (ap (λ (z : State). prev_at z.heap r) (acted_after state s o after m (act.Restore i q p) its tt)
      ∙ ap (λ b. prev_at (if_changed b (with_main state.heap i p) state.heap) r) hit ∙ prev_still_main state.heap i p (safe_of claims.0) (meets_of claims.0) r used)

  -- ---- a node that is made

  by_taken : (node : Node) (r : Ref) → IsInUse state.heap r → after.heap ≡ taken state.heap node → (n : Option Ref) → next_ref state.heap ≡ n → PrevMoves state s after r
  by_taken node r used heap None drawn = same_prev (ap (λ h. prev_at h r) (heap ∙ none_taken state.heap node drawn))
  by_taken node r used heap (Some x) drawn =
      let all = taken_all state.limits.slots state.heap ((safe_along limits ok xs).sound.heap) node x drawn in
      let other : r ≡ x → ⊥ = λ same. none-some used.0 (sym all.1 ∙ ap (standing state.heap) (sym same) ∙ used.1) in
      same_prev (ap (λ h. prev_at h r) heap ∙ prev_same state.heap (taken state.heap node) r (all.2 r other) used)

  by_root : (main : Ref) → (its : Acting state s (act.MakeRoot main)) → (r : Ref) → IsInUse state.heap r → (n : Option Ref) → next_ref state.heap ≡ n → PrevMoves state s after r
  by_root main its r used None drawn =
      same_prev (ap (λ (z : State). prev_at z.heap r) (acted_after state s o after m (act.MakeRoot main) its tt)
      ∙ ap (λ n. prev_at (new_root_taken (with_operation state its.actor (Some (operation_after state its.operation))) main n).heap r) drawn)
  by_root main its r used (Some x) drawn =
      by_taken (Indirection state.generations main) r used
      (ap (λ (z : State). z.heap) (acted_after state s o after m (act.MakeRoot main) its tt)
      ∙ ap (λ n. (new_root_taken (with_operation state its.actor (Some (operation_after state its.operation))) main n).heap) drawn) (Some x) drawn

  -- ---- each step

  quiet : (action : Action) → (its : Acting state s action) → GoesOn action → (r : Ref) →
      (acted (with_operation state its.actor (Some (operation_after state its.operation))) (handle_of its.operation.call) action).heap
      ≡ state.heap → PrevMoves state s after r
  quiet action its g r heap = same_prev (ap (λ (z : State). prev_at z.heap r) (acted_after state s o after m action its g) ∙ ap (λ h. prev_at h r) heap)

  by_action : (action : Action) → Acting state s action → GoesOn action → (r : Ref) → IsInUse state.heap r → PrevMoves state s after r
  by_action (act.Make node) its g r used =
      by_taken node r used (ap (λ (z : State). z.heap) (acted_after state s o after m (act.Make node) its tt)) (next_ref state.heap) refl
  by_action (act.MakeRoot main) its g r used = by_root main its r used (next_ref state.heap) refl
  by_action (act.Publish i a f) its g r used = by_publish i a f its r used (main_at state.heap i == a) refl
  by_action (act.Restore i q p) its g r used = by_restore i q p its r used (main_at state.heap i == q) refl
  by_action (act.Decide i f p told) its g r used = by_decide i f p told its r used (verdict state.heap i f p told) refl
  by_action (act.Abort offer) its g r used = quiet (act.Abort offer) its g r (aborted_heap _ (handle_of its.operation.call) offer)
  by_action (act.Offer offer) its g r used = quiet (act.Offer offer) its g r (offered_heap _ (handle_of its.operation.call) offer)
  by_action (act.Complete offer main) its g r used = quiet (act.Complete offer main) its g r (completed_heap _ (handle_of its.operation.call) offer main)
  by_action act.ReadRoot its g r used = quiet act.ReadRoot its g r refl
  by_action (act.ReadMain i) its g r used = quiet (act.ReadMain i) its g r refl
  by_action (act.ReadPrev q) its g r used = quiet (act.ReadPrev q) its g r refl
  by_action (act.Look at) its g r used = quiet (act.Look at) its g r refl
  by_action (act.End answer) its g r used = absurd g

pub prev_moves : (limits : Bounds) → AreBounds limits → (xs : List Step) (s : Step) (o : Outcome) (after : State) → Moves (run limits xs) s o after → run limits (xs ++ s ∷ []) ≡ after → (r : Ref) →
    IsInUse (run limits xs).heap r → IsInUse after.heap r → PrevMoves (run limits xs) s after r
prev_moves limits ok xs s o after (Begins {actor} {call} {number} d) is r used now =
    same_prev (ap (λ h. prev_at h r) (begin_heap (run limits xs) actor call (begun_operation (run limits xs) call number)))
prev_moves limits ok xs s o after (Goes {actor} {operation} {action} d runs acts g) is r used now =
    by_action limits ok xs s o after (Goes d runs acts g) is action (record { actor = actor; operation = operation; is_step = refl; runs = runs; acts = acts }) g r used
prev_moves limits ok xs s o after (Ends d runs acts) is r used now = same_prev refl
prev_moves limits ok xs s o after (GivesUp d runs may) is r used now = same_prev refl
prev_moves limits ok xs s o after (Sweeps spent) is r used now =
    let state = run limits xs in
    elim (sweep_goes state (safe_along limits ok xs) (map pin_of state.actors) (ripe state.epoch state.limbo)
    (λ q due. stands_in_use state.heap q (ripe_in_use (InUse state.heap) state.epoch state.limbo ((safe_along limits ok xs).sound.limbo) q due)) r) [
      | inl same ↦ same_prev (prev_same state.heap after.heap r same used)
      | inr gone_now ↦ absurd (none-some now.0 (sym gone_now ∙ now.1))
    ]

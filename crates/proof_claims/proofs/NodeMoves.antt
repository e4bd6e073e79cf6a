-- What a step does to a node that stands before and after it: it stays as it is, but for the main word of an indirection at which a main node is swapped in or put back.
use Rattle.std.proofs.Common.{◌≡◌, inl, inr, ℕ, ◌==◌, Bool, true, false, List, [], ◌∷◌, ◌++◌, Option, Some, None, map, refl, sym, ap, subst, ◌∙◌, eqb-true}
use Rattle.std.proofs.lemmas.Bool.{cases_eq}
use Rattle.std.proofs.lemmas.Option.{none-some}
use Rattle.proof_claims.specs.Beneath.slot_arena.specs.declared.nodes.Node.{Node}
use Rattle.proof_claims.specs.Beneath.slot_arena.specs.declared.nodes.Node.TheVariants.{Indirection}
use Rattle.proof_claims.specs.Beneath.slot_arena.specs.declared.nodes.Prev.TheVariants as prev
use Rattle.proof_claims.specs.Beneath.slot_arena.specs.declared.refs.Ref.{Ref}
use Rattle.proof_claims.specs.Beneath.slot_arena.specs.Heaps.{main_at, next_ref, node_at, taken, with_main, with_prev}
use Rattle.proof_claims.specs.Beneath.machine_model.specs.declared.actions.Action.{Action}
use Rattle.proof_claims.specs.Beneath.machine_model.specs.declared.actions.Action.TheVariants as act
use Rattle.proof_claims.specs.Beneath.machine_model.specs.declared.steps.Bounds.{Bounds}
use Rattle.proof_claims.specs.Beneath.machine_model.specs.declared.steps.Outcome.{Outcome}
use Rattle.proof_claims.specs.Beneath.machine_model.specs.declared.steps.Step.{Step}
use Rattle.proof_claims.specs.Beneath.machine_model.specs.Acting.{acted, decided, if_changed, new_root_taken, operation_after}
use Rattle.proof_claims.specs.Beneath.machine_model.specs.Calls.{handle_of}
use Rattle.proof_claims.specs.Beneath.machine_model.specs.Grown.{standing}
use Rattle.proof_claims.specs.Beneath.machine_model.specs.Machine.{AreBounds, begun_operation, pin_of, run}
use Rattle.proof_claims.specs.Beneath.machine_model.specs.Moves.{Begins, Ends, GivesUp, Goes, GoesOn, Moves, Sweeps}
use Rattle.proof_claims.specs.Beneath.machine_model.specs.Reading.{Commits, Fails, Overtaken, Verdict, verdict}
use Rattle.proof_claims.specs.Beneath.machine_model.specs.States.{State, with_operation}
use Rattle.proof_claims.specs.Beneath.machine_model.proofs.HeapMoves.{aborted_heap, begin_heap, completed_heap, offered_heap}
use Rattle.proof_claims.specs.Beneath.machine_model.proofs.InUse.{InUse}
use Rattle.proof_claims.specs.Beneath.machine_model.proofs.Slots.{ripe_in_use}
use Rattle.proof_claims.specs.Beneath.proof_memory.proofs.Claims.Uses.{meets_of, safe_of}
use Rattle.proof_claims.specs.Beneath.proof_memory.proofs.Heap.Moves.{sweep_goes}
use Rattle.proof_claims.specs.Beneath.proof_memory.proofs.Heap.Under.{none_taken, taken_all}
use Rattle.proof_claims.specs.Beneath.proof_memory.proofs.Safety.AtEachTime.{safe_along}
use Rattle.proof_claims.specs.Beneath.proof_memory.proofs.Safety.States.{stands_in_use}
use Rattle.proof_claims.specs.Beneath.proof_memory.specs.Laws.{IsInUse}
use Rattle.proof_claims.specs.Beneath.proof_memory.specs.Vocabulary.{ripe}
use Rattle.proof_claims.proofs.Acted.{acted_after, wants}
use Rattle.proof_claims.proofs.ChangeKinds.{Acting}
use Rattle.proof_claims.proofs.Standing.{node_same, node_still, node_still_main, used_after_main}

pub data NodeMoves (state : State) (s : Step) (after : State) (r : Ref) : Type 0 where
  same_node : node_at after.heap r ≡ node_at state.heap r → NodeMoves state s after r
  swaps_there : (a f : Ref) → Acting state s (act.Publish r a f) → NodeMoves state s after r
  restores_there : (q p : Ref) → Acting state s (act.Restore r q p) → main_at state.heap r ≡ q → NodeMoves state s after r

module _ (limits : Bounds) (ok : AreBounds limits) (xs : List Step) (s : Step) (o : Outcome) (after : State) (m : Moves (run limits xs) s o after)
    (is_after : run limits (xs ++ s ∷ []) ≡ after) where
  abbrev state : State
  state = run limits xs

  by_decide : (i f p : Ref) (told : Option ℕ) → Acting state s (act.Decide i f p told) → (r : Ref) → IsInUse state.heap r → (v : Verdict) → verdict state.heap i f p told ≡ v →
      NodeMoves state s after r
  by_decide i f p told a r used v e = same_node (ap (λ h. node_at h r) heap ∙ by v)
    where
      heap : after.heap ≡ decided state.heap f p v
      heap = ap (λ (z : State). z.heap) (acted_after state s o after m (act.Decide i f p told) a tt) ∙ ap (decided state.heap f p) e

      used_f : IsInUse state.heap f
      used_f = safe_of (wants limits ok xs s o after m is_after (act.Decide i f p told) a).1.0

      by : (v : Verdict) → node_at (decided state.heap f p v) r ≡ node_at state.heap r
      by Commits = node_still state.heap f prev.None used_f r used
      by Fails = node_still state.heap f (prev.Failed p) used_f r used
      by (Overtaken licensed) = refl

  by_publish : (i a f : Ref) → (its : Acting state s (act.Publish i a f)) → (r : Ref) → IsInUse state.heap r → (b : Bool) → (main_at state.heap i == a) ≡ b → NodeMoves state s after r
  by_publish i a f its r used false hit =
      same_node (ap (λ (z : State). node_at z.heap r) (acted_after state s o after m (act.Publish i a f) its tt)
      ∙ ap (λ b. node_at (if_changed b (with_prev (with_main state.heap i f) f (prev.Pending a)) state.heap) r) hit)
  by_publish i a f its r used true hit =
      let claims = wants limits ok xs s o after m is_after (act.Publish i a f) its in
      let used_i = safe_of claims.0 in
      let between = used_after_main state.heap i f used_i (meets_of claims.0) in
      let heap : after.heap ≡ with_prev (with_main state.heap i f) f (prev.Pending a) =
      ap (λ (z : State). z.heap) (acted_after state s o after m (act.Publish i a f) its tt)
      ∙ ap (λ b. if_changed b (with_prev (with_main state.heap i f) f (prev.Pending a)) state.heap) hit in
      elim (cases_eq r i) [
        | inl same ↦ subst (NodeMoves state s after) (sym same) (swaps_there a f its)
        | inr other ↦
            same_node (ap (λ h. node_at h r) heap ∙ node_still (with_main state.heap i f) f (prev.Pending a) (between f (safe_of claims.1.1.0)) r (between r used)
            ∙ node_still_main state.heap i f used_i (meets_of claims.0) r other used)
      ]

  by_restore : (i q p : Ref) → (its : Acting state s (act.Restore i q p)) → (r : Ref) → IsInUse state.heap r → (b : Bool) → (main_at state.heap i == q) ≡ b → NodeMoves state s after r
  by_restore i q p its r used false hit =
      same_node (ap (λ (z : State). node_at z.heap r) (acted_after state s o after m (act.Restore i q p) its tt) ∙ ap (λ b. node_at (if_changed b (with_main state.heap i p) state.heap) r) hit)
  by_restore i q p its r used true hit =
      let claims = wants limits ok xs s o after m is_after (act.Restore i q p) its in
      elim (cases_eq r i) [
        | inl same ↦ subst (NodeMoves state s after) (sym same) (restores_there q p its (eqb-true (main_at state.heap i) q hit))
        | inr other ↦
            same_node (ap (λ (z : State). node_at z.heap r) (acted_after state s o after m (act.Restore i q p) its tt)
            ∙ ap (λ b. node_at (if_changed b (with_main state.heap i p) state.heap) r) hit ∙ node_still_main state.heap i p (safe_of claims.0) (meets_of claims.0) r other used)
      ]

  by_taken : (node : Node) (r : Ref) → IsInUse state.heap r → after.heap ≡ taken state.heap node → (n : Option Ref) → next_ref state.heap ≡ n → NodeMoves state s after r
  by_taken node r used heap None drawn = same_node (ap (λ h. node_at h r) (heap ∙ none_taken state.heap node drawn))
  by_taken node r used heap (Some x) drawn =
      let all = taken_all state.limits.slots state.heap ((safe_along limits ok xs).sound.heap) node x drawn in
      let other : r ≡ x → ⊥ = λ same. none-some used.0 (sym all.1 ∙ ap (standing state.heap) (sym same) ∙ used.1) in
      same_node (ap (λ h. node_at h r) heap ∙ node_same state.heap (taken state.heap node) r (all.2 r other) used)

  by_root : (main : Ref) → (its : Acting state s (act.MakeRoot main)) → (r : Ref) → IsInUse state.heap r → (n : Option Ref) → next_ref state.heap ≡ n → NodeMoves state s after r
  by_root main its r used None drawn =
      same_node (ap (λ (z : State). node_at z.heap r) (acted_after state s o after m (act.MakeRoot main) its tt)
      ∙ ap (λ n. node_at (new_root_taken (with_operation state its.actor (Some (operation_after state its.operation))) main n).heap r) drawn)
  by_root main its r used (Some x) drawn =
      by_taken (Indirection state.generations main) r used
      (ap (λ (z : State). z.heap) (acted_after state s o after m (act.MakeRoot main) its tt)
      ∙ ap (λ n. (new_root_taken (with_operation state its.actor (Some (operation_after state its.operation))) main n).heap) drawn) (Some x) drawn

  quiet : (action : Action) → (its : Acting state s action) → GoesOn action → (r : Ref) →
      (acted (with_operation state its.actor (Some (operation_after state its.operation))) (handle_of its.operation.call) action).heap ≡ state.heap → NodeMoves state s after r
  quiet action its g r heap = same_node (ap (λ (z : State). node_at z.heap r) (acted_after state s o after m action its g) ∙ ap (λ h. node_at h r) heap)

  by_action : (action : Action) → Acting state s action → GoesOn action → (r : Ref) → IsInUse state.heap r → NodeMoves state s after r
  by_action (act.Make node) its g r used = by_taken node r used (ap (λ (z : State). z.heap) (acted_after state s o after m (act.Make node) its tt)) (next_ref state.heap) refl
  by_action (act.MakeRoot main) its g r used = by_root main its r used (next_ref state.heap) refl
  by_action (act.Publish i a f) its g r used = by_publish i a f its r used (main_at state.heap i == a) refl
  by_action (act.Restore i q p) its g r used = by_restore i q p its r used (main_at state.heap i == q) refl
  by_action (act.Decide i f p told) its g r used = by_decide i f p told its r used (verdict state.heap i f p told) refl
  by_action (act.Abort offer) its g r used = quiet (act.Abort offer) its g r (aborted_heap _ (handle_of its.operation.call) offer)
  by_action (act.Offer offer) its g r used = quiet (act.Offer offer) its g r (offered_heap _ (handle_of its.operation.call) offer)
  by_action (act.Complete offer main) its g r used = quiet (act.Complete offer main) its g r (completed_heap _ (handle_of its.operation.call) offer main)
  by_action act.ReadRoot its g r used = quiet act.ReadRoot its g r refl
  by_action (act.ReadMain i) its g r used = quiet (act.ReadMain i) its g r refl
  by_action (act.ReadPrev q) its g r used = quiet (act.ReadPrev q) its g r refl
  by_action (act.Look at) its g r used = quiet (act.Look at) its g r refl
  by_action (act.End answer) its g r used = absurd g

pub node_moves : (limits : Bounds) → AreBounds limits → (xs : List Step) (s : Step) (o : Outcome) (after : State) → Moves (run limits xs) s o after → run limits (xs ++ s ∷ []) ≡ after → (r : Ref) →
    IsInUse (run limits xs).heap r → IsInUse after.heap r → NodeMoves (run limits xs) s after r
node_moves limits ok xs s o after (Begins {actor} {call} {number} d) is r used now =
    same_node (ap (λ h. node_at h r) (begin_heap (run limits xs) actor call (begun_operation (run limits xs) call number)))
node_moves limits ok xs s o after (Goes {actor} {operation} {action} d runs acts g) is r used now =
    by_action limits ok xs s o after (Goes d runs acts g) is action (record { actor = actor; operation = operation; is_step = refl; runs = runs; acts = acts }) g r used
node_moves limits ok xs s o after (Ends d runs acts) is r used now = same_node refl
node_moves limits ok xs s o after (GivesUp d runs may) is r used now = same_node refl
node_moves limits ok xs s o after (Sweeps spent) is r used now =
    let state = run limits xs in
    elim (sweep_goes state (safe_along limits ok xs) (map pin_of state.actors) (ripe state.epoch state.limbo)
    (λ q due. stands_in_use state.heap q (ripe_in_use (InUse state.heap) state.epoch state.limbo ((safe_along limits ok xs).sound.limbo) q due)) r) [
      | inl same ↦ same_node (node_same state.heap after.heap r same used)
      | inr gone_now ↦ absurd (none-some now.0 (sym gone_now ∙ now.1))
    ]

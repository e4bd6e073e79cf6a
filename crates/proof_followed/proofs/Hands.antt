-- What operations that count follow after a step was followed before it, or wasn't in use.
use Rattle.std.proofs.Common.{◌≡◌, ℕ, zero, suc, [], ◌∷◌, ◌++◌, Contains, get_or, Option, Some, None, is_some, true, refl, sym, subst, ◌⊎◌, inl, inr, arith}
use Rattle.std.proofs.lemmas.Bool.{or_cases}
use Rattle.std.proofs.lemmas.Option.{none-some}
use Rattle.proof_followed.specs.Beneath.history.specs.declared.calls.Call.{Call}
use Rattle.proof_followed.specs.Beneath.history.specs.declared.calls.Call.TheVariants.{Close, Entries, Count}
use Rattle.proof_followed.specs.Beneath.history.specs.declared.replies.Reply.{Reply}
use Rattle.proof_followed.specs.Beneath.slot_arena.specs.declared.refs.Ref.{Ref}
use Rattle.proof_followed.specs.Beneath.slot_arena.specs.declared.nodes.Node.{Node}
use Rattle.proof_followed.specs.Beneath.slot_arena.specs.declared.nodes.Node.TheVariants.{Single}
use Rattle.proof_followed.specs.Beneath.slot_arena.specs.declared.nodes.Slot.{Slot}
use Rattle.proof_followed.specs.Beneath.slot_arena.specs.Heaps.{node_at, next_ref, refs_of_slot}
use Rattle.proof_followed.specs.Beneath.machine_model.specs.declared.actions.Action.{Action}
use Rattle.proof_followed.specs.Beneath.machine_model.specs.declared.actions.Action.TheVariants as act
use Rattle.proof_followed.specs.Beneath.machine_model.specs.declared.operations.Operation.{Operation}
use Rattle.proof_followed.specs.Beneath.machine_model.specs.declared.roots.Root.{Root}
use Rattle.proof_followed.specs.Beneath.machine_model.specs.declared.steps.Bounds.{Bounds}
use Rattle.proof_followed.specs.Beneath.machine_model.specs.declared.steps.Outcome.{Outcome}
use Rattle.proof_followed.specs.Beneath.machine_model.specs.declared.steps.Step.{Step}
use Rattle.proof_followed.specs.Beneath.machine_model.specs.Acting.{acted, gone, operation_after, private_after, with_made}
use Rattle.proof_followed.specs.Beneath.machine_model.specs.Calls.{handle_of}
use Rattle.proof_followed.specs.Beneath.machine_model.specs.Counting.{settled}
use Rattle.proof_followed.specs.Beneath.machine_model.specs.GivingUp.{gave_up, given_up}
use Rattle.proof_followed.specs.Beneath.machine_model.specs.Grown.{standing}
use Rattle.proof_followed.specs.Beneath.machine_model.specs.Machine.{begin_denial, with_begin}
use Rattle.proof_followed.specs.Beneath.machine_model.specs.Moves.{Moves, GoesOn, begun_operation}
use Rattle.proof_followed.specs.Beneath.machine_model.specs.Operations.{action_of, line_after}
use Rattle.proof_followed.specs.Beneath.machine_model.specs.States.{State, operation_of, root_at, with_operation}
use Rattle.proof_followed.specs.Beneath.machine_model.proofs.Actors.{IsOf, mark_one, mark_only, marks_in, marks_by}
use Rattle.proof_followed.specs.Beneath.machine_model.proofs.Frames.{acted_framed, limits_kept}
use Rattle.proof_followed.specs.Beneath.machine_model.proofs.Grown.{node_standing}
use Rattle.proof_followed.specs.Beneath.machine_model.proofs.HeapMoves.{aborted_heap, offered_heap, completed_heap}
use Rattle.proof_followed.specs.Beneath.proof_memory.specs.Laws.{SameNode}
use Rattle.proof_followed.specs.Beneath.proof_memory.specs.Wants.{AllHold}
use Rattle.proof_followed.specs.Beneath.proof_memory.proofs.Claims.Uses.{Carries}
use Rattle.proof_followed.specs.Beneath.proof_memory.proofs.Heap.Effects.{Effect, stays, same_as, acted_effect}
use Rattle.proof_followed.specs.Beneath.proof_memory.proofs.Heap.Under.{taken_all}
use Rattle.proof_followed.specs.Beneath.proof_memory.proofs.Safety.Base.{goes_no_end}
use Rattle.proof_followed.specs.Beneath.proof_memory.proofs.Safety.EachStep.{each_after}
use Rattle.proof_followed.specs.Beneath.proof_memory.proofs.Safety.Guards.{Safe}
use Rattle.proof_followed.specs.Beneath.proof_memory.proofs.Safety.States.{IsSafe}
use Rattle.proof_followed.specs.Beneath.proof_memory.proofs.Safety.Steps.{gone_effect, made_fresh}
use Rattle.proof_garbage.specs.Live.{refs_of_claims}
use Rattle.proof_garbage.proofs.Claims.{Are, none_in, one_in, both_in, refs_held}
use Rattle.proof_garbage.proofs.Closed.{slot_closed, heaped_closed}
use Rattle.proof_garbage.proofs.Step.{slots_by}
use Rattle.proof_followed.specs.Followed.{IsFollowed, from_operation, followed_by, followed_claims, followed_wants, followed_action_wants}
use Rattle.proof_followed.proofs.InUse.{followed_used, closed, root_followed, line_followed, privates_followed, action_followed}
use Rattle.proof_followed.proofs.Next.{followed_next}

module _ (state : State) (I : IsSafe state) (P : ℕ → Type 0) where
  abbrev K : Ref → Type 0
  K = IsFollowed state P

  -- followed before, or not in use
  abbrev pub WasFollowed : Ref → Type 0
  WasFollowed r = IsFollowed state P r ⊎ (standing state.heap r ≡ None)

  -- ---- an operation's own step

  module _ (actor k : ℕ) (operation : Operation) (running : operation_of state actor ≡ Some operation) (found : get_or state.actors k None ≡ Some operation) (p : P operation.id) where
    abbrev next : State
    next = settled state (gone state actor operation)

    abbrev put : State
    put = with_operation state actor (Some (operation_after state operation))

    its_carries : Carries K state.heap WasFollowed next.heap
    its_carries r known =
        let (was, stands) = followed_used state I P known in
        let (now, stands_now, same) =
        stays (AllHold (Safe state operation.epoch) state.heap) (standing state.heap) (standing next.heap) state.heap.births next.heap.births None
        (gone_effect state I actor k operation found) r was stands (λ e. none-some r e) in (
          inl known,
          subst (λ n. SameNode n (node_at next.heap r)) (sym (node_standing state.heap r was stands)) (subst (λ n. SameNode was.node n) (sym (node_standing next.heap r now stands_now)) same.0),
        )

    open_by : (o : Option Root) → root_at state (handle_of operation.call) ≡ o → is_some o ≡ true → (root : Root) × (root_at state (handle_of operation.call) ≡ Some root)
    open_by None e h = let wrong : ⊥ = cc in absurd wrong
    open_by (Some root) e h = (root, e)

    pub handle_open : GoesOn (action_of state operation) → (root : Root) × (root_at state (handle_of operation.call) ≡ Some root)
    handle_open g = open_by (root_at state (handle_of operation.call)) refl (elim (or_cases _ _ (I.handles k operation found)) [
      | inl ends ↦ absurd (goes_no_end state operation operation.line g ends)
      | inr is_open ↦ is_open
    ])

    not_standing : (node : Node) (made : Ref) → next_ref state.heap ≡ Some made → standing state.heap made ≡ None
    not_standing node made e = (taken_all state.limits.slots state.heap (I.sound.heap) node made e).1

    its_line : GoesOn (action_of state operation) → AllHold WasFollowed next.heap (followed_wants state.limits.hash operation.call operation.access (line_after state operation operation.line))
    its_line g =
        let (root, is_open) = handle_open g in
        followed_next state operation K (heaped_closed state I K (closed state I P)) WasFollowed next.heap its_carries (I.fits k operation found) root is_open
        (root_followed state I P (handle_of operation.call) root is_open) operation.line (line_followed state I P actor operation running p)
        (λ node made is e. (inr (not_standing node made e), (made_fresh state I actor k operation found node made is e).1))

    kept_private : Are WasFollowed operation.private
    kept_private r c = inl (privates_followed state I P actor operation running p r c)

    made_private : (o : Option Ref) → next_ref state.heap ≡ o → Are WasFollowed (with_made operation.private o)
    made_private None e r c = none_in r c
    made_private (Some made) e r c = both_in WasFollowed operation.private (made ∷ []) kept_private (one_in WasFollowed made (inr (not_standing (Single 0 0) made e))) r c

    its_private : (action : Action) → Are WasFollowed (private_after state operation.private action)
    its_private (act.Make node) r c = made_private (next_ref state.heap) refl r c
    its_private (act.MakeRoot main) r c = made_private (next_ref state.heap) refl r c
    its_private (act.Publish indirection replaced fresh) r c = none_in r c
    its_private (act.Offer offer) r c = none_in r c
    its_private action r c = kept_private r c

    its_hand : GoesOn (action_of state operation) → Are WasFollowed (followed_by state (operation_after state operation))
    its_hand g = both_in WasFollowed (refs_of_claims (followed_claims state (operation_after state operation))) (private_after state operation.private (action_of state operation))
        (refs_held WasFollowed next.heap (followed_wants state.limits.hash operation.call operation.access (line_after state operation operation.line)) (its_line g))
        (its_private (action_of state operation))

    -- what its action writes is followed
    effect_by : (action : Action) → AllHold K state.heap (followed_action_wants action) →
        Effect (AllHold K state.heap) (standing state.heap) (standing (acted put (handle_of operation.call) action).heap) state.heap.births
        (acted put (handle_of operation.call) action).heap.births None
    effect_by (act.Abort offer) h = same_as K state.heap None (λ r c. followed_used state I P c) _ (aborted_heap put (handle_of operation.call) offer)
    effect_by (act.Offer offer) h = same_as K state.heap None (λ r c. followed_used state I P c) _ (offered_heap put (handle_of operation.call) offer)
    effect_by (act.Complete offer main) h = same_as K state.heap None (λ r c. followed_used state I P c) _ (completed_heap put (handle_of operation.call) offer main)
    effect_by action h = acted_effect K put None (λ r c. followed_used state I P c) state.limits.slots (I.sound.heap) (handle_of operation.call) action h

    pub its_slots : (q : Ref) (slot : Slot) → WasFollowed q → standing next.heap q ≡ Some slot → Are K (refs_of_slot (Some slot))
    its_slots =
        slots_by K state.heap (standing state.heap) (standing next.heap) state.heap.births next.heap.births (slot_closed state I K (closed state I P))
        (effect_by (action_of state operation) (action_followed state I P actor operation running p))

  -- ---- all that an operation follows after a step

  abbrev HandAfter : State → ℕ → Operation → Type 0
  HandAfter after k operation = P operation.id → Are WasFollowed (followed_by after operation)

  first_refs : (call : Call) (number : Option ℕ) → Are WasFollowed (refs_of_claims (followed_claims state (begun_operation state call number)))
  first_refs call number r c = none_in r (subst (λ rs. Contains rs r) (first_none call number) c)
    where
      first_none : (call : Call) (number : Option ℕ) → refs_of_claims (followed_claims state (begun_operation state call number)) ≡ []
      first_none (Close h) number = refl
      first_none (Entries h) number = refl
      first_none (Count h) number = refl
      first_none call number = refl

  begun_hand : (actor : ℕ) (call : Call) (number : Option ℕ) (k : ℕ) → actor ≡ suc k → begin_denial state actor call number ≡ None →
      HandAfter (settled state (with_begin state actor call (begun_operation state call number))) k (begun_operation state call number)
  begun_hand actor call number k own d p =
      rw (limits_begun actor call number) (both_in WasFollowed (refs_of_claims (followed_claims state (begun_operation state call number))) [] (first_refs call number) (λ r c. none_in r c))
    where
      limits_begun : (actor : ℕ) (call : Call) (number : Option ℕ) → (with_begin state actor call (begun_operation state call number)).limits ≡ state.limits
      limits_begun actor call number = grind arith

  own_hand : (actor : ℕ) (operation : Operation) (k : ℕ) → actor ≡ suc k →
      operation_of state actor ≡ Some operation → GoesOn (action_of state operation) → get_or state.actors k None ≡ Some operation →
      HandAfter (settled state (gone state actor operation)) k (mark_one (marks_by state (Some operation)) (operation_after state operation))
  own_hand actor operation k own is g found =
      rw (mark_only (marks_by state (Some operation)) (operation_after state operation))
      (λ p.
      subst
      (λ (l : Bounds). Are WasFollowed (refs_of_claims (followed_wants l.hash operation.call operation.access (line_after state operation operation.line))
      ++ private_after state operation.private (action_of state operation)))
      (sym (acted_framed _ (handle_of operation.call) (action_of state operation)).limits) (its_hand actor k operation is found p g))

  other_hand : (s : Step) (o : Outcome) (after : State) → Moves state s o after → (k : ℕ) → (IsOf (suc k) s → ⊥) → (operation : Operation) → get_or state.actors k None ≡ Some operation →
      get_or state.actors k None ≡ Some operation → HandAfter after k (mark_one (marks_in state s) operation)
  other_hand s o after m k other operation found e =
      rw (mark_only (marks_in state s) operation)
      (λ p.
      subst (λ (l : Bounds). Are WasFollowed (refs_of_claims (followed_wants l.hash operation.call operation.access operation.line) ++ operation.private))
      (sym (limits_kept state s o after m)) (λ r c. inl (from_operation (suc k) operation r found p c)))

  gave_hand : (actor : ℕ) (operation : Operation) (answer : Reply) (k : ℕ) → actor ≡ suc k → operation_of state actor ≡ Some operation → given_up operation.call operation.line ≡ Some answer →
      get_or state.actors k None ≡ Some operation → HandAfter (settled state (with_operation state actor (Some (gave_up operation answer)))) k (gave_up operation answer)
  gave_hand actor operation answer k own is a found p r c = none_in r c

  hands_after : (s : Step) (o : Outcome) (after : State) → Moves state s o after → (k : ℕ) (operation : Operation) → get_or after.actors k None ≡ Some operation → HandAfter after k operation
  hands_after = each_after state (λ k operation. get_or state.actors k None ≡ Some operation) HandAfter (λ k operation e. e) begun_hand own_hand gave_hand other_hand

  pub actors_hands : (s : Step) (o : Outcome) (after : State) → Moves state s o after → (actor : ℕ) (operation : Operation) → operation_of after actor ≡ Some operation → P operation.id →
      Are WasFollowed (followed_by after operation)
  actors_hands s o after m zero operation e p = absurd (none-some operation e)
  actors_hands s o after m (suc k) operation e p = hands_after s o after m k operation e p

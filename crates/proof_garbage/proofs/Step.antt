-- What is known after a step was known before it, or wasn't in use: where the step is of an operation that counts, or of none.
use Rattle.std.proofs.Common.{◌≡◌, ℕ, zero, suc, [], ◌∷◌, ◌++◌, Contains, map, get_or, Option, Some, None, is_some, true, refl, sym, ap, ◌∙◌, subst, arith, ◌⊎◌, inl, inr}
use Rattle.std.proofs.lemmas.Bool.{cases_eq, or_cases}
use Rattle.std.proofs.lemmas.Option.{none-some, same_Some}
use Rattle.proof_garbage.specs.Beneath.history.specs.declared.calls.Call.{Call}
use Rattle.proof_garbage.specs.Beneath.history.specs.declared.calls.Call.TheVariants.{Close, Entries, Count}
use Rattle.proof_garbage.specs.Beneath.slot_arena.specs.declared.refs.Ref.{Ref}
use Rattle.proof_garbage.specs.Beneath.slot_arena.specs.declared.nodes.Node.{Node}
use Rattle.proof_garbage.specs.Beneath.slot_arena.specs.declared.nodes.Node.TheVariants.{Indirection, Branch, Single, Tomb, List as Listed}
use Rattle.proof_garbage.specs.Beneath.slot_arena.specs.declared.nodes.Prev.{Prev}
use Rattle.proof_garbage.specs.Beneath.slot_arena.specs.declared.nodes.Prev.TheVariants as prev
use Rattle.proof_garbage.specs.Beneath.slot_arena.specs.declared.nodes.Slot.{Slot}
use Rattle.proof_garbage.specs.Beneath.slot_arena.specs.Heaps.{Heap, node_at, next_ref, with_main_word, main_changed, prev_changed, refs_of_node, refs_of_prev, refs_of_slot}
use Rattle.proof_garbage.specs.Beneath.machine_model.specs.declared.actions.Action.{Action}
use Rattle.proof_garbage.specs.Beneath.machine_model.specs.declared.actions.Action.TheVariants as act
use Rattle.proof_garbage.specs.Beneath.machine_model.specs.declared.operations.Operation.{Operation}
use Rattle.proof_garbage.specs.Beneath.machine_model.specs.declared.roots.Root.{Root}
use Rattle.proof_garbage.specs.Beneath.machine_model.specs.declared.steps.Bounds.{Bounds}
use Rattle.proof_garbage.specs.Beneath.machine_model.specs.declared.steps.Outcome.{Outcome}
use Rattle.proof_garbage.specs.Beneath.machine_model.specs.declared.steps.Step.{Step}
use Rattle.proof_garbage.specs.Beneath.machine_model.specs.declared.steps.Step.TheVariants as step
use Rattle.proof_garbage.specs.Beneath.machine_model.specs.Calls.{handle_of}
use Rattle.proof_garbage.specs.Beneath.machine_model.specs.States.{State, root_at, word_of, word_at, operation_of, with_operation}
use Rattle.proof_garbage.specs.Beneath.history.specs.declared.replies.Reply.{Reply}
use Rattle.proof_garbage.specs.Beneath.machine_model.specs.GivingUp.{given_up, gave_up}
use Rattle.proof_garbage.specs.Beneath.machine_model.specs.Counting.{settled, refs_of_root, refs_of_word}
use Rattle.proof_garbage.specs.Beneath.machine_model.specs.Operations.{action_of, line_after}
use Rattle.proof_garbage.specs.Beneath.machine_model.specs.Acting.{gone, operation_after, private_after, with_made}
use Rattle.proof_garbage.specs.Beneath.machine_model.specs.Machine.{begin_denial, with_begin, pin_of}
use Rattle.proof_garbage.specs.Beneath.machine_model.specs.Moves.{Moves, GoesOn, begun_operation, Begins, Goes, Ends, Sweeps, GivesUp}
use Rattle.proof_garbage.specs.Beneath.machine_model.specs.Grown.{standing}
use Rattle.proof_garbage.specs.Beneath.machine_model.proofs.Actors.{IsOf, mark_one, mark_only, marks_in, marks_by}
use Rattle.proof_garbage.specs.Beneath.machine_model.proofs.Frames.{acted_framed, limits_kept}
use Rattle.proof_garbage.specs.Beneath.machine_model.proofs.Grown.{standing_parts, node_standing}
use Rattle.proof_garbage.specs.Beneath.machine_model.proofs.HeapMoves.{begin_heap}
use Rattle.proof_garbage.specs.Beneath.machine_model.proofs.InUse.{InUse}
use Rattle.proof_garbage.specs.Beneath.machine_model.proofs.Slots.{ripe_in_use}
use Rattle.proof_garbage.specs.Beneath.epochs.specs.Sweeping.{ripe}
use Rattle.proof_garbage.specs.Beneath.proof_memory.specs.Wants.{AllHold, node_wants, prev_wants, word_wants, line_wants}
use Rattle.proof_garbage.specs.Beneath.proof_memory.specs.Laws.{SameNode}
use Rattle.proof_garbage.specs.Beneath.proof_memory.proofs.Claims.Uses.{safe_of, Carries}
use Rattle.proof_garbage.specs.Beneath.proof_memory.proofs.Heap.Under.{taken_all}
use Rattle.proof_garbage.specs.Beneath.proof_memory.proofs.Heap.Effects.{Effect, Keeps, Makes, Publishes, Restores, Decides, Frees, stays, acted_effect}
use Rattle.proof_garbage.specs.Beneath.proof_memory.proofs.Heap.Moves.{sweep_goes}
use Rattle.proof_garbage.specs.Beneath.proof_memory.proofs.Heap.RootWords.{WordsHold, acted_words, begun_words}
use Rattle.proof_garbage.specs.Beneath.proof_memory.proofs.Lines.Next.{line_next}
use Rattle.proof_garbage.specs.Beneath.proof_memory.proofs.Safety.Base.{goes_no_end}
use Rattle.proof_garbage.specs.Beneath.proof_memory.proofs.Safety.EachStep.{each_after}
use Rattle.proof_garbage.specs.Beneath.proof_memory.proofs.Safety.Held.{word_refs}
use Rattle.proof_garbage.specs.Beneath.proof_memory.proofs.Safety.States.{IsSafe, stands_in_use}
use Rattle.proof_garbage.specs.Beneath.proof_memory.proofs.Safety.Steps.{made_fresh, of_actor, safe_after}
use Rattle.proof_garbage.specs.Live.{refs_of_claims, line_claims, at_hand, IsKnown, from_root, from_operation, from_slot}
use Rattle.proof_garbage.proofs.Claims.{Are, none_in, one_in, both_in, first_of, last_of, from_all, refs_claimed, refs_held}
use Rattle.proof_garbage.proofs.Known.{known_used, slot_known, heaped_known, words_known, line_known, privates_known, action_known}

-- ---- what stands in slots after an effect

module _ (K : Ref → Type 0) (heap : Heap) (f g : Ref → Option Slot) (b c : ℕ) (old : (q : Ref) (slot : Slot) → K q → f q ≡ Some slot → Are K (refs_of_slot (Some slot))) where
  -- known before, or not in use
  abbrev Was : Ref → Type 0
  Was q = K q ⊎ (f q ≡ None)

  pub old_slot : (q : Ref) (slot : Slot) → Was q → f q ≡ Some slot → Are K (refs_of_slot (Some slot))
  old_slot q slot (inl k) e = old q slot k e
  old_slot q slot (inr none) e = absurd (none-some slot (sym none ∙ e))

  main_refs : (m : Ref) (node : Node) → Are K (refs_of_node node) → K m → Are K (refs_of_node (with_main_word m node))
  main_refs m (Indirection generation main) h k = one_in K m k
  main_refs m (Branch bitmap entries) h k = h
  main_refs m (Single key value) h k = h
  main_refs m (Tomb single) h k = h
  main_refs m (Listed singles) h k = h

  pub main_slot : (m : Ref) (slot : Slot) → Are K (refs_of_slot (Some slot)) → K m → Are K (refs_of_slot (Some (main_changed m slot)))
  main_slot m slot h k =
      both_in K (refs_of_node (with_main_word m slot.node)) (refs_of_prev slot.prev)
      (main_refs m slot.node (first_of K (refs_of_node slot.node) (refs_of_prev slot.prev) h) k) (last_of K (refs_of_node slot.node) (refs_of_prev slot.prev) h)

  pub prev_slot : (p : Prev) (slot : Slot) → Are K (refs_of_slot (Some slot)) → Are K (refs_of_prev p) → Are K (refs_of_slot (Some (prev_changed p slot)))
  prev_slot p slot h k = both_in K (refs_of_node slot.node) (refs_of_prev p) (first_of K (refs_of_node slot.node) (refs_of_prev slot.prev) h) k

  prev_refs_of : (p : Prev) → Are K (refs_of_claims (prev_wants p)) → Are K (refs_of_prev p)
  prev_refs_of prev.None h = h
  prev_refs_of (prev.Pending p) h = h
  prev_refs_of (prev.Failed p) h = h

  fresh_refs : (slot : Slot) → AllHold K heap (node_wants slot.node) → slot.prev ≡ prev.None → Are K (refs_of_slot (Some slot))
  fresh_refs slot h e =
      both_in K (refs_of_node slot.node) (refs_of_prev slot.prev) (refs_claimed K slot.node (refs_held K heap (node_wants slot.node) h)) (subst (λ p. Are K (refs_of_prev p)) (sym e)
      (λ r c. none_in r c))

  pub slots_by : Effect (AllHold K heap) f g b c None → (q : Ref) (slot : Slot) → Was q → g q ≡ Some slot → Are K (refs_of_slot (Some slot))
  slots_by (Keeps e k) q slot t h = old_slot q slot t (sym (k q) ∙ h)
  slots_by (Makes made new e e' w p none at_made others) q slot t h =
      elim (cases_eq q made) [
        | inl s ↦ subst (λ x. Are K (refs_of_slot (Some x))) (same_Some _ _ (sym at_made ∙ ap g (sym s) ∙ h)) (fresh_refs new w.1 p)
        | inr other ↦ old_slot q slot t (sym (others q other) ∙ h)
      ]
  slots_by (Publishes i replaced fresh at_i at_fresh e w differ f_i m f_fresh g_i g_fresh others) q slot t h =
      elim (cases_eq q i) [
        | inl s ↦ subst (λ x. Are K (refs_of_slot (Some x))) (same_Some _ _ (sym g_i ∙ ap g (sym s) ∙ h)) (main_slot fresh at_i (old i at_i (safe_of w.0) f_i) (safe_of w.1.1.0))
        | inr other ↦ elim (cases_eq q fresh) [
          | inl s ↦ subst (λ x. Are K (refs_of_slot (Some x))) (same_Some _ _ (sym g_fresh ∙ ap g (sym s) ∙ h))
              (prev_slot (prev.Pending replaced) at_fresh (old fresh at_fresh (safe_of w.1.1.0) f_fresh) (one_in K replaced (safe_of w.1.0)))
          | inr another ↦ old_slot q slot t (sym (others q other another) ∙ h)
        ]
      ]
  slots_by (Restores i main previous at_i e w f_i m g_i others) q slot t h =
      elim (cases_eq q i) [
        | inl s ↦ subst (λ x. Are K (refs_of_slot (Some x))) (same_Some _ _ (sym g_i ∙ ap g (sym s) ∙ h)) (main_slot previous at_i (old i at_i (safe_of w.0) f_i) (safe_of w.1.1.0))
        | inr other ↦ old_slot q slot t (sym (others q other) ∙ h)
      ]
  slots_by (Decides main p at_main e w f_main g_main others) q slot t h =
      elim (cases_eq q main) [
        | inl s ↦ subst (λ x. Are K (refs_of_slot (Some x))) (same_Some _ _ (sym g_main ∙ ap g (sym s) ∙ h))
            (prev_slot p at_main (old main at_main (safe_of w.0) f_main) (prev_refs_of p (refs_held K heap (prev_wants p) w.1)))
        | inr other ↦ old_slot q slot t (sym (others q other) ∙ h)
      ]
  slots_by (Frees q' e is_due none others) q slot t h = absurd (none-some q' is_due)

-- ---- a step

module _ (state : State) (I : IsSafe state) (P : ℕ → Type 0) where
  abbrev K : Ref → Type 0
  K = IsKnown state P

  -- known before, or not in use
  abbrev pub WasKnown : Ref → Type 0
  WasKnown r = IsKnown state P r ⊎ (standing state.heap r ≡ None)

  -- what is known after it, where words, lines and slots are so
  module _ (after : State) (J : IsSafe after) (roots : (handle : ℕ) (root : Root) → root_at after handle ≡ Some root → Are K (refs_of_word root.word))
      (hands : (actor : ℕ) (operation : Operation) → operation_of after actor ≡ Some operation → P operation.id → Are WasKnown (at_hand after operation))
      (slots : (q : Ref) (slot : Slot) → WasKnown q → standing after.heap q ≡ Some slot → Are K (refs_of_slot (Some slot))) where
    by_root : (handle : ℕ) (r : Ref) (o : Option Root) → root_at after handle ≡ o → Contains (refs_of_root o) r → WasKnown r
    by_root handle r None e c = none_in r c
    by_root handle r (Some root) e c = inl (roots handle root e r c)

    pub known_after : {r : Ref} → IsKnown after P r → WasKnown r
    known_after (from_root handle r c) = by_root handle r (root_at after handle) refl c
    known_after (from_operation actor operation r e p c) = hands actor operation e p r c
    known_after (from_slot q r k c) =
        let (slot, stands) = known_used after J P k in
        inl (slots q slot (known_after k) stands r (subst (λ o. Contains (refs_of_slot o) r) ((standing_parts after.heap q slot stands).0) c))

  -- ---- an operation's own step

  module _ (actor k : ℕ) (operation : Operation) (running : operation_of state actor ≡ Some operation) (found : get_or state.actors k None ≡ Some operation) (p : P operation.id) where
    abbrev next : State
    next = settled state (gone state actor operation)

    its_effect : Effect (AllHold K state.heap) (standing state.heap) (standing next.heap) state.heap.births next.heap.births None
    its_effect =
        acted_effect K _ None (λ r k. known_used state I P k) state.limits.slots (I.sound.heap) (handle_of operation.call) (action_of state operation)
        (action_known state I P actor operation running p)

    its_carries : Carries K state.heap WasKnown next.heap
    its_carries r known =
        let (was, stands) = known_used state I P known in
        let (now, stands_now, same) = stays (AllHold K state.heap) (standing state.heap) (standing next.heap) state.heap.births next.heap.births None its_effect r was stands (λ e. none-some r e) in (
          inl known,
          subst (λ n. SameNode n (node_at next.heap r)) (sym (node_standing state.heap r was stands)) (subst (λ n. SameNode was.node n) (sym (node_standing next.heap r now stands_now)) same.0),
        )

    word_by : (o : Option Root) → root_at state (handle_of operation.call) ≡ o → is_some o ≡ true → AllHold K state.heap (word_wants (word_of o))
    word_by None e h = let wrong : ⊥ = cc in absurd wrong
    word_by (Some root) e h = words_known state I P (handle_of operation.call) root e

    its_word : GoesOn (action_of state operation) → AllHold K state.heap (word_wants (word_at state (handle_of operation.call)))
    its_word g = word_by (root_at state (handle_of operation.call)) refl (elim (or_cases _ _ (I.handles k operation found)) [
      | inl ends ↦ absurd (goes_no_end state operation operation.line g ends)
      | inr is_open ↦ is_open
    ])

    not_standing : (node : Node) (made : Ref) → next_ref state.heap ≡ Some made → standing state.heap made ≡ None
    not_standing node made e = (taken_all state.limits.slots state.heap (I.sound.heap) node made e).1

    its_line : GoesOn (action_of state operation) → AllHold WasKnown next.heap (line_wants state.limits.hash operation.call operation.access (line_after state operation operation.line))
    its_line g =
        line_next state operation K (heaped_known state I P) WasKnown next.heap its_carries (I.fits k operation found) (its_word g) operation.line
        (line_known state I P actor operation running p)
        (λ node made is e. (inr (not_standing node made e), (made_fresh state I actor k operation found node made is e).1))

    kept_private : Are WasKnown operation.private
    kept_private r c = inl (privates_known state I P actor operation running p r c)

    made_private : (o : Option Ref) → next_ref state.heap ≡ o → Are WasKnown (with_made operation.private o)
    made_private None e r c = none_in r c
    made_private (Some made) e r c =
        both_in WasKnown operation.private (made ∷ []) kept_private (one_in WasKnown made (inr (not_standing (Single 0 0) made e))) r c

    its_private : (action : Action) → Are WasKnown (private_after state operation.private action)
    its_private (act.Make node) r c = made_private (next_ref state.heap) refl r c
    its_private (act.MakeRoot main) r c = made_private (next_ref state.heap) refl r c
    its_private (act.Publish indirection replaced fresh) r c = none_in r c
    its_private (act.Offer offer) r c = none_in r c
    its_private action r c = kept_private r c

    its_hand : GoesOn (action_of state operation) → Are WasKnown (at_hand state (operation_after state operation))
    its_hand g = both_in WasKnown (refs_of_claims (line_claims state (operation_after state operation))) (private_after state operation.private (action_of state operation))
        (refs_held WasKnown next.heap (line_wants state.limits.hash operation.call operation.access (line_after state operation operation.line)) (its_line g)) (its_private (action_of state operation))

  -- ---- all that an operation has at hand after a step

  abbrev HandAfter : State → ℕ → Operation → Type 0
  HandAfter after k operation = P operation.id → Are WasKnown (at_hand after operation)

  first_refs : (call : Call) (number : Option ℕ) → Are WasKnown (refs_of_claims (line_claims state (begun_operation state call number)))
  first_refs call number r c = none_in r (subst (λ rs. Contains rs r) (first_none call number) c)
    where
      first_none : (call : Call) (number : Option ℕ) → refs_of_claims (line_claims state (begun_operation state call number)) ≡ []
      first_none (Close h) number = refl
      first_none (Entries h) number = refl
      first_none (Count h) number = refl
      first_none call number = refl

  begun_hand : (actor : ℕ) (call : Call) (number : Option ℕ) (k : ℕ) → actor ≡ suc k → begin_denial state actor call number ≡ None →
      HandAfter (settled state (with_begin state actor call (begun_operation state call number))) k (begun_operation state call number)
  begun_hand actor call number k own d p =
      rw (limits_begun actor call number) (both_in WasKnown (refs_of_claims (line_claims state (begun_operation state call number))) [] (first_refs call number) (λ r c. none_in r c))
    where
      limits_begun : (actor : ℕ) (call : Call) (number : Option ℕ) → (with_begin state actor call (begun_operation state call number)).limits ≡ state.limits
      limits_begun actor call number = grind arith

  own_hand : (actor : ℕ) (operation : Operation) (k : ℕ) → actor ≡ suc k →
      operation_of state actor ≡ Some operation → GoesOn (action_of state operation) → get_or state.actors k None ≡ Some operation →
      HandAfter (settled state (gone state actor operation)) k (mark_one (marks_by state (Some operation)) (operation_after state operation))
  own_hand actor operation k own is g found =
      rw (mark_only (marks_by state (Some operation)) (operation_after state operation))
      (λ p.
      subst
      (λ (l : Bounds). Are WasKnown (refs_of_claims (line_wants l.hash operation.call operation.access (line_after state operation operation.line))
      ++ private_after state operation.private (action_of state operation)))
      (sym (acted_framed _ (handle_of operation.call) (action_of state operation)).limits) (its_hand actor k operation is found p g))

  other_hand : (s : Step) (o : Outcome) (after : State) → Moves state s o after → (k : ℕ) → (IsOf (suc k) s → ⊥) → (operation : Operation) → get_or state.actors k None ≡ Some operation →
      get_or state.actors k None ≡ Some operation → HandAfter after k (mark_one (marks_in state s) operation)
  other_hand s o after m k other operation found e =
      rw (mark_only (marks_in state s) operation)
      (λ p.
      subst (λ (l : Bounds). Are WasKnown (refs_of_claims (line_wants l.hash operation.call operation.access operation.line) ++ operation.private))
      (sym (limits_kept state s o after m)) (λ r c. inl (from_operation (suc k) operation r found p c)))

  gave_hand : (actor : ℕ) (operation : Operation) (answer : Reply) (k : ℕ) → actor ≡ suc k → operation_of state actor ≡ Some operation → given_up operation.call operation.line ≡ Some answer →
      get_or state.actors k None ≡ Some operation → HandAfter (settled state (with_operation state actor (Some (gave_up operation answer)))) k (gave_up operation answer)
  gave_hand actor operation answer k own is a found p r c = none_in r c

  hands_after : (s : Step) (o : Outcome) (after : State) → Moves state s o after → (k : ℕ) (operation : Operation) → get_or after.actors k None ≡ Some operation → HandAfter after k operation
  hands_after = each_after state (λ k operation. get_or state.actors k None ≡ Some operation) HandAfter (λ k operation e. e) begun_hand own_hand gave_hand other_hand

  pub actors_hands : (s : Step) (o : Outcome) (after : State) → Moves state s o after → (actor : ℕ) (operation : Operation) → operation_of after actor ≡ Some operation → P operation.id →
      Are WasKnown (at_hand after operation)
  actors_hands s o after m zero operation e p = absurd (none-some operation e)
  actors_hands s o after m (suc k) operation e p = hands_after s o after m k operation e p

  -- ---- any step

  old_slots : (q : Ref) (slot : Slot) → WasKnown q → standing state.heap q ≡ Some slot → Are K (refs_of_slot (Some slot))
  old_slots = old_slot K state.heap (standing state.heap) (standing state.heap) 0 0 (slot_known state I P)

  word_refs_known : (after : State) → WordsHold K state.heap after → (handle : ℕ) (root : Root) → root_at after handle ≡ Some root → Are K (refs_of_word root.word)
  word_refs_known after words handle root e = from_all K (refs_of_word root.word) (word_refs K state.heap root.word (words handle root e))

  stood : (heap : Heap) → (q : Ref) → (standing heap q ≡ standing state.heap q) ⊎ (standing heap q ≡ None) → (slot : Slot) → standing heap q ≡ Some slot → standing state.heap q ≡ Some slot
  stood heap q (inl same) slot e = sym same ∙ e
  stood heap q (inr none) slot e = absurd (none-some slot (sym none ∙ e))

  -- the step is none of an operation that doesn't count
  abbrev pub Counts : Step → Type 0
  Counts (step.Go actor) = (operation : Operation) → operation_of state actor ≡ Some operation → GoesOn (action_of state operation) → P operation.id
  Counts s = Unit {0}

  pub step_known : (s : Step) (o : Outcome) (after : State) (m : Moves state s o after) → Counts s → {r : Ref} → IsKnown after P r → WasKnown r
  step_known s o after (Begins {actor} {call} {number} d) counts =
      known_after after (safe_after state I s o after (Begins d))
      (word_refs_known after (begun_words K state.heap state call (words_known state I P)))
      (actors_hands s o after (Begins d))
      (λ q slot t e. old_slots q slot t (sym (ap (λ h. standing h q) (begin_heap state actor call (begun_operation state call number))) ∙ e))
  step_known s o after (Goes {actor} {operation} d is a g) counts =
      let (k, found) = of_actor state (λ k operation. get_or state.actors k None ≡ Some operation) (λ k operation e. e) actor operation is in
      known_after after (safe_after state I s o after (Goes d is a g))
      (word_refs_known after (acted_words K state.heap _ (handle_of operation.call) (action_of state operation) (words_known state I P)
      (action_known state I P actor operation is (counts operation is (rw a g)))))
      (actors_hands s o after (Goes d is a g))
      (slots_by K state.heap (standing state.heap) (standing after.heap) state.heap.births after.heap.births (slot_known state I P)
      (its_effect actor k operation is found (counts operation is (rw a g))))
  step_known s o after (Ends {actor} d is a) counts =
      known_after after (safe_after state I s o after (Ends d is a))
      (word_refs_known after (words_known state I P))
      (actors_hands s o after (Ends d is a)) old_slots
  step_known s o after (GivesUp {actor} d is a) counts =
      known_after after (safe_after state I s o after (GivesUp d is a))
      (word_refs_known after (words_known state I P))
      (actors_hands s o after (GivesUp d is a)) old_slots
  step_known s o after (Sweeps spent) counts =
      known_after after (safe_after state I s o after (Sweeps spent))
      (word_refs_known after (words_known state I P))
      (actors_hands s o after (Sweeps spent))
      (λ q slot t e. old_slots q slot t (stood after.heap q (sweep_goes state I (map pin_of state.actors) (ripe state.epoch state.limbo)
      (λ q due. stands_in_use state.heap q (ripe_in_use (InUse state.heap) state.epoch state.limbo (I.sound.limbo) q due)) q) slot e))

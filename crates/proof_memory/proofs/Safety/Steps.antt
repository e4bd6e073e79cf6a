-- Each step keeps memory safe, and the first state's memory is.
use Rattle.std.proofs.Common.{◌≡◌, ℕ, zero, suc, ◌+◌, ◌≤◌, true, nat_le, List, ◌++◌, map, All, length, get_or, Option, Some, None, refl, sym, ap, ◌∙◌, subst, inl, inr, arith}
use Rattle.std.proofs.lemmas.Bool.{cond_both, or_cases}
use Rattle.std.proofs.lemmas.Option.{none-some, same_Some}
use Rattle.std.proofs.lemmas.List.Elements.{All-weaker, All-push, All-nil}
use Rattle.proof_memory.specs.Vocabulary.{HashKind, Access, Call, Close, Entries, Ref, Node, Slot, Heap, node_at, next_ref, taken, Swept, limbo_after, is_zero, Reclaimer, ripe, sweep_by, Operation}
use Rattle.proof_memory.specs.Vocabulary.{Action, Bounds, Outcome, Step, handle_of, State, word_at, operation_of, action_of, line_after, first_line, gone, acted, operation_after, private_after}
use Rattle.proof_memory.specs.Vocabulary.{with_made, new_root_taken, outside, settled, begin_denial, with_begin, pin_of, reclaimer_of, Begins, Ends, Sweeps, GivesUp, Moves, GoesOn, begun_operation}
use Rattle.proof_memory.specs.Vocabulary.{standing}
use Rattle.machine_model.specs.declared.actions.Action.TheVariants as act
use Rattle.machine_model.specs.declared.steps.Step.TheVariants as step
use Rattle.machine_model.specs.Moves.{Goes}
use Rattle.machine_model.proofs.Actors.{IsOf, mark_one, mark_only, marks_in, marks_by}
use Rattle.machine_model.proofs.Frames.{acted_framed, limits_kept}
use Rattle.machine_model.proofs.HeapMoves.{begin_heap}
use Rattle.machine_model.proofs.Slots.{IsSound, sound_after, ripe_in_use}
use Rattle.machine_model.proofs.InUse.{InUse}
use Rattle.proof_memory.specs.Wants.{is_formed, AllHold, node_wants, prev_wants, word_wants, action_wants, line_wants}
use Rattle.proof_memory.specs.Laws.{IsInUse}
use Rattle.proof_memory.proofs.Claims.Uses.{Carries, all_carried, both_hold}
use Rattle.proof_memory.proofs.Heap.Under.{fresh_slot, taken_all}
use Rattle.proof_memory.proofs.Safety.Guards.{Safe, zero_after, AllZero}
use Rattle.proof_memory.proofs.Heap.Effects.{Effect, Does, same, same_as, frees, acted_effect}
use Rattle.proof_memory.proofs.Safety.EachStep.{each_after}
use Rattle.proof_memory.proofs.Safety.Base.{IsRecent, handles_after, fits_after, recent_after, goes_no_end, begin_times}
use Rattle.proof_memory.proofs.Safety.Started.{known_after}
use Rattle.proof_memory.proofs.Heap.RootWords.{WordsHold, acted_words, begun_words}
use Rattle.proof_memory.proofs.Lines.Acts.{line_acts}
use Rattle.proof_memory.proofs.Lines.Next.{line_next}
use Rattle.proof_memory.specs.Making.{made_node}
use Rattle.proof_memory.proofs.Safety.States.{IsSafe, heaped, word_in, open_word, in_private, node_in, prev_in, stands_in_use, carries, made_safe, used_of, slots_after, births_after}
use Rattle.machine_model.proofs.Grown.{node_standing}
use Rattle.proof_memory.specs.Beneath.epochs.proofs.Running.{sweep_rises}

-- ---- what a step does at its end

pub limbo_is : (state : State) (s : Step) (o : Outcome) (after : State) → Moves state s o after → after.limbo ≡ limbo_after after.heap (outside after) after.epoch state.limbo
limbo_is state s o after (Begins d) = refl
limbo_is state s o after (Goes d is a g) = refl
limbo_is state s o after (Ends d is a) = refl
limbo_is state s o after (GivesUp d is a) = refl
limbo_is state s o after (Sweeps spent) = refl

pub gone_epoch : (state : State) (actor : ℕ) (operation : Operation) → (gone state actor operation).epoch ≡ state.epoch
gone_epoch state actor operation = (acted_framed _ (handle_of operation.call) (action_of state operation)).epoch

pub epoch_grows : (state : State) (s : Step) (o : Outcome) (after : State) → Moves state s o after → state.epoch ≤ after.epoch
epoch_grows state s o after (Begins {actor} {call} {number} d) = omega (arith, ap (λ (p : ℕ × ℕ). p.0) (begin_times state actor call (begun_operation state call number)))
epoch_grows state s o after (Goes {actor} {operation} d is a g) = omega (arith, gone_epoch state actor operation)
epoch_grows state s o after (Ends d is a) = omega arith
epoch_grows state s o after (GivesUp d is a) = omega arith
epoch_grows state s o after (Sweeps spent) = sweep_rises (map pin_of state.actors) (reclaimer_of state) (ripe state.epoch state.limbo)

-- ---- the effect of a step

-- the claims of the lines of what runs
pub of_actor : (state : State) (P : ℕ → Operation → Type 0) → ((k : ℕ) (operation : Operation) → get_or state.actors k None ≡ Some operation → P k operation) →
    (actor : ℕ) (operation : Operation) → operation_of state actor ≡ Some operation → (k : ℕ) × P k operation
of_actor state P all zero operation e = absurd (none-some operation e)
of_actor state P all (suc k) operation e = (k, all k operation e)

-- the heap after a node was made
pub made_heap : (state : State) (handle : ℕ) (action : Action) (node : Node) (made : Ref) → made_node state action ≡ Some node → next_ref state.heap ≡ Some made →
    (acted state handle action).heap ≡ taken state.heap node
made_heap state handle (act.Make other) node made is e = ap (taken state.heap) (same_Some _ _ is)
made_heap state handle (act.MakeRoot main) node made is e =
    ap (λ o. (new_root_taken state main o).heap) e ∙ ap (taken state.heap) (same_Some _ _ is)
made_heap state handle action node made is e = absurd (none-some node is)

-- an operation that begins wants nothing
first_wants : (S : Ref → Type 0) (heap : Heap) (kind : HashKind) (access : Access) (call : Call) → AllHold S heap (line_wants kind call access (first_line call))
first_wants S heap kind access (Close h) = tt
first_wants S heap kind access (Entries h) = tt
first_wants S heap kind access call = tt

-- the slot that a step is to free, if it is: only the sweep frees one
abbrev pub due_in : State → Step → Option Ref
due_in state step.Sweep = ripe state.epoch state.limbo
due_in state s = None

pub due_ripe : (state : State) (s : Step) (r : Ref) → due_in state s ≡ Some r → ripe state.epoch state.limbo ≡ Some r
due_ripe state step.Sweep r e = e
due_ripe state (step.Begin actor call number) r e = absurd (none-some r e)
due_ripe state (step.Go actor) r e = absurd (none-some r e)
due_ripe state (step.GiveUp actor) r e = absurd (none-some r e)

module _ (state : State) (I : IsSafe state) where
  abbrev Effects : ℕ → Option Ref → State → Type 0
  Effects epoch due after = Effect (AllHold (Safe state epoch) state.heap) (standing state.heap) (standing after.heap) state.heap.births after.heap.births due

  -- with the epoch of who takes it
  abbrev pub IsEffect : Step → State → Type 0
  IsEffect s after = (epoch : ℕ) × (epoch ≤ state.epoch) × (state.epoch ≤ epoch + 1) × Effects epoch (due_in state s) after

  -- what an operation's step wants
  pub step_claims : (k : ℕ) (operation : Operation) → get_or state.actors k None ≡ Some operation →
      AllHold (Safe state operation.epoch) state.heap (action_wants (action_of state operation))
  step_claims k operation e = line_acts state operation (Safe state operation.epoch) (heaped state I operation.epoch) operation.line (I.lines k operation e)

  pub gone_effect : (actor k : ℕ) (operation : Operation) → get_or state.actors k None ≡ Some operation → Effects operation.epoch None (settled state (gone state actor operation))
  gone_effect actor k operation e =
      acted_effect (Safe state operation.epoch) _ None (used_of state operation.epoch) state.limits.slots (I.sound.heap) (handle_of operation.call)
      (action_of state operation) (step_claims k operation e)

  sweep_effect : (pins : List (Option ℕ)) (due : Option Ref) → ripe state.epoch state.limbo ≡ due →
      Effect (AllHold (Safe state state.epoch) state.heap) (standing state.heap) (standing (sweep_by pins (reclaimer_of state) due).1.heap) state.heap.births
      (sweep_by pins (reclaimer_of state) due).1.heap.births
      (ripe state.epoch state.limbo)
  sweep_effect pins None e =
      cond_both (nat_le state.cursor (length pins)) _ _ (λ (done : Swept × Reclaimer). Does (Safe state state.epoch) state.heap (ripe state.epoch state.limbo) (used_of state state.epoch) done.1.heap)
      (λ b. same (Safe state state.epoch) state.heap (ripe state.epoch state.limbo) (used_of state state.epoch))
      (λ b. same (Safe state state.epoch) state.heap (ripe state.epoch state.limbo) (used_of state state.epoch))
  sweep_effect pins (Some q) e =
      frees (Safe state state.epoch) state.heap (ripe state.epoch state.limbo) (used_of state state.epoch) q e
      (stands_in_use state.heap q (ripe_in_use (InUse state.heap) state.epoch state.limbo (I.sound.limbo) q e))

  pub step_effect : (s : Step) (o : Outcome) (after : State) → Moves state s o after → IsEffect s after
  step_effect s o after (Begins {actor} {call} {number} d) =
      (state.epoch, omega arith, omega arith, same_as (Safe state state.epoch) state.heap None (used_of state state.epoch) _ (begin_heap state actor call (begun_operation state call number)))
  step_effect s o after (Goes {actor} {operation} d is a g) =
      let (k, recent) = of_actor state (λ k operation. IsRecent state k operation × (get_or state.actors k None ≡ Some operation)) (λ k operation e. (I.recent k operation e, e)) actor operation is in
      (operation.epoch, recent.0.0, recent.0.1, gone_effect actor k operation recent.1)
  step_effect s o after (Ends d is a) = (state.epoch, omega arith, omega arith, same (Safe state state.epoch) state.heap None (used_of state state.epoch))
  step_effect s o after (GivesUp d is a) = (state.epoch, omega arith, omega arith, same (Safe state state.epoch) state.heap None (used_of state state.epoch))
  step_effect s o after (Sweeps spent) = (state.epoch, omega arith, omega arith, sweep_effect (map pin_of state.actors) (ripe state.epoch state.limbo) refl)

  -- ---- what a step carries over

  module _ (s : Step) (o : Outcome) (after : State) (m : Moves state s o after) where
    -- for any recent epoch
    pub step_carries : (epoch : ℕ) → epoch ≤ state.epoch → state.epoch ≤ epoch + 1 → Carries (Safe state epoch) state.heap (Safe after epoch) after.heap
    step_carries epoch low high =
        carries state after epoch low high (epoch_grows state s o after m) (limbo_is state s o after m) (due_in state s) (due_ripe state s) _ ((step_effect s o after m).3)

    used_carries : (epoch : ℕ) → epoch ≤ state.epoch → state.epoch ≤ epoch + 1 → Carries (Safe state epoch) state.heap (IsInUse after.heap) after.heap
    used_carries epoch low high r h = let x = step_carries epoch low high r h in (x.0.used, x.1)

    -- nodes
    nodes_after : (r : Ref) (slot : Slot) → standing after.heap r ≡ Some slot → AllHold (IsInUse after.heap) after.heap (node_wants slot.node ++ prev_wants slot.prev) × (is_formed slot.node ≡ true)
    nodes_after r slot h =
        let (epoch, low, high, effect) = step_effect s o after m in
        let (claims, formed) = slots_after (Safe state epoch) state.heap _ _ _ _ _ effect
        (λ q was e.
        (both_hold (Safe state epoch) state.heap (node_wants was.node) (prev_wants was.prev) (node_in state I epoch q was e) (prev_in state I epoch q was e), (I.nodes q was e).1)) r slot h in
        (all_carried (Safe state epoch) state.heap (IsInUse after.heap) after.heap (used_carries epoch low high) (node_wants slot.node ++ prev_wants slot.prev) claims, formed)

  -- root words, where what they want is still said of the state before
  words_between : (s : Step) (o : Outcome) (after : State) → Moves state s o after → (epoch : ℕ) × (epoch ≤ state.epoch) × (state.epoch ≤ epoch + 1) × WordsHold (Safe state epoch) state.heap after
  words_between s o after (Begins {actor} {call} {number} d) =
      (state.epoch, omega arith, omega arith, begun_words (Safe state state.epoch) state.heap state call (word_in state I state.epoch))
  words_between s o after (Goes {actor} {operation} d is a g) =
      let (k, recent) = of_actor state (λ k operation. IsRecent state k operation × (get_or state.actors k None ≡ Some operation))
      (λ k operation e. (I.recent k operation e, e)) actor operation is in (
        operation.epoch,
        recent.0.0,
        recent.0.1,
        acted_words (Safe state operation.epoch) state.heap _ (handle_of operation.call) (action_of state operation) (word_in state I operation.epoch) (step_claims k operation recent.1),
      )
  words_between s o after (Ends d is a) = (state.epoch, omega arith, omega arith, word_in state I state.epoch)
  words_between s o after (GivesUp d is a) = (state.epoch, omega arith, omega arith, word_in state I state.epoch)
  words_between s o after (Sweeps spent) = (state.epoch, omega arith, omega arith, word_in state I state.epoch)

  words_after : (s : Step) (o : Outcome) (after : State) → Moves state s o after → WordsHold (IsInUse after.heap) after.heap after
  words_after s o after m handle root e =
      let (epoch, low, high, words) = words_between s o after m in
      all_carried (Safe state epoch) state.heap (IsInUse after.heap) after.heap (used_carries s o after m epoch low high) (word_wants root.word) (words handle root e)

  -- ---- an operation's own step

  module _ (actor k : ℕ) (operation : Operation) (found : get_or state.actors k None ≡ Some operation) where
    abbrev next : State
    next = settled state (gone state actor operation)

    its_epoch : IsRecent state k operation
    its_epoch = I.recent k operation found

    grows : state.epoch ≤ next.epoch
    grows = omega (arith, gone_epoch state actor operation)

    pub gone_carries : Carries (Safe state operation.epoch) state.heap (Safe next operation.epoch) next.heap
    gone_carries = carries state next operation.epoch its_epoch.0 its_epoch.1 grows refl None (λ r e. absurd (none-some r e)) _ (gone_effect actor k operation found)

    -- what it makes is safe
    pub made_fresh : (node : Node) (made : Ref) → made_node state (action_of state operation) ≡ Some node → next_ref state.heap ≡ Some made →
        Safe next operation.epoch made × (node_at next.heap made ≡ node)
    made_fresh node made is e =
        let (here, none, others, birth) = taken_all state.limits.slots state.heap (I.sound.heap) node made e in
        let stood = ap (λ heap. standing heap made) (made_heap _ (handle_of operation.call) (action_of state operation) node made is e) ∙ here in (
          made_safe state next operation.epoch its_epoch.0 its_epoch.1 grows refl None (λ r e. absurd (none-some r e)) _ (gone_effect actor k operation found)
              (I.sound) made (fresh_slot state.heap node) none stood,
          node_standing next.heap made (fresh_slot state.heap node) stood,
        )

    pub its_word : GoesOn (action_of state operation) → AllHold (Safe state operation.epoch) state.heap (word_wants (word_at state (handle_of operation.call)))
    its_word g = open_word state I operation.epoch (handle_of operation.call) (elim (or_cases _ _ (I.handles k operation found)) [
      | inl ends ↦ absurd (goes_no_end state operation operation.line g ends)
      | inr is_open ↦ is_open
    ])

    gone_line : GoesOn (action_of state operation) →
        AllHold (Safe next operation.epoch) next.heap (line_wants state.limits.hash operation.call operation.access (line_after state operation operation.line))
    gone_line g =
        line_next state operation (Safe state operation.epoch) (heaped state I operation.epoch) (Safe next operation.epoch) next.heap gone_carries
        (I.fits k operation found) (its_word g) operation.line
        (I.lines k operation found) made_fresh

    -- its private list
    kept_private : All (IsInUse next.heap) operation.private
    kept_private = All-weaker (Safe state operation.epoch) (IsInUse next.heap) (λ r h. (gone_carries r h).0.used) operation.private (in_private state I operation.epoch k operation found)

    gone_private_by : (o : Option Ref) → next_ref state.heap ≡ o → (node : Node) → made_node state (action_of state operation) ≡ Some node → All (IsInUse next.heap) (with_made operation.private o)
    gone_private_by None e node is = All-nil (IsInUse next.heap)
    gone_private_by (Some made) e node is = All-push (IsInUse next.heap) operation.private made kept_private ((made_fresh node made is e).0.used)

    gone_private : (action : Action) → action_of state operation ≡ action → All (IsInUse next.heap) (private_after state operation.private action)
    gone_private (act.Make node) e = gone_private_by (next_ref state.heap) refl node (ap (made_node state) e)
    gone_private (act.MakeRoot main) e = gone_private_by (next_ref state.heap) refl _ (ap (made_node state) e)
    gone_private (act.Publish indirection replaced fresh) e = All-nil (IsInUse next.heap)
    gone_private (act.Offer offer) e = All-nil (IsInUse next.heap)
    gone_private action e = kept_private

  -- ---- lines and private lists

  abbrev Lines : State → ℕ → Operation → Type 0
  Lines after k operation = AllHold (Safe after operation.epoch) after.heap (line_wants after.limits.hash operation.call operation.access operation.line)

  begun_line : (actor : ℕ) (call : Call) (number : Option ℕ) (k : ℕ) → actor ≡ suc k → begin_denial state actor call number ≡ None →
      Lines (settled state (with_begin state actor call (begun_operation state call number))) k (begun_operation state call number)
  begun_line actor call number k own d = first_wants _ _ _ _ call

  own_line : (actor : ℕ) (operation : Operation) (k : ℕ) → actor ≡ suc k → operation_of state actor ≡ Some operation → GoesOn (action_of state operation) →
      get_or state.actors k None ≡ Some operation → Lines (settled state (gone state actor operation)) k (mark_one (marks_by state (Some operation)) (operation_after state operation))
  own_line actor operation k own is g found =
      rw (mark_only (marks_by state (Some operation)) (operation_after state operation))
      (subst (λ (l : Bounds). AllHold (Safe (settled state (gone state actor operation)) operation.epoch) (gone state actor operation).heap
      (line_wants l.hash operation.call operation.access (line_after state operation operation.line)))
      (sym (acted_framed _ (handle_of operation.call) (action_of state operation)).limits) (gone_line actor k operation found g))

  other_line : (s : Step) (o : Outcome) (after : State) → Moves state s o after → (k : ℕ) → (IsOf (suc k) s → ⊥) → (operation : Operation) → get_or state.actors k None ≡ Some operation →
      get_or state.actors k None ≡ Some operation → Lines after k (mark_one (marks_in state s) operation)
  other_line s o after m k other operation found e =
      rw (mark_only (marks_in state s) operation)
      (all_carried (Safe state operation.epoch) state.heap (Safe after operation.epoch) after.heap
      (step_carries s o after m operation.epoch (I.recent k operation found).0 (I.recent k operation found).1) _
      (subst (λ (l : Bounds). AllHold (Safe state operation.epoch) state.heap (line_wants l.hash operation.call operation.access operation.line))
      (sym (limits_kept state s o after m)) (I.lines k operation found)))

  lines_after : (s : Step) (o : Outcome) (after : State) → Moves state s o after → (k : ℕ) (operation : Operation) → get_or after.actors k None ≡ Some operation → Lines after k operation
  lines_after = each_after state (λ k operation. get_or state.actors k None ≡ Some operation) Lines (λ k operation e. e) begun_line own_line (λ actor operation answer k own is a e. tt) other_line

  abbrev Privates : State → ℕ → Operation → Type 0
  Privates after k operation = All (IsInUse after.heap) operation.private

  own_private : (actor : ℕ) (operation : Operation) (k : ℕ) → actor ≡ suc k → operation_of state actor ≡ Some operation → GoesOn (action_of state operation) →
      get_or state.actors k None ≡ Some operation → Privates (settled state (gone state actor operation)) k (mark_one (marks_by state (Some operation)) (operation_after state operation))
  own_private actor operation k own is g found =
      rw (mark_only (marks_by state (Some operation)) (operation_after state operation)) (gone_private actor k operation found (action_of state operation) refl)

  other_private : (s : Step) (o : Outcome) (after : State) → Moves state s o after → (k : ℕ) → (IsOf (suc k) s → ⊥) → (operation : Operation) → get_or state.actors k None ≡ Some operation →
      get_or state.actors k None ≡ Some operation → Privates after k (mark_one (marks_in state s) operation)
  other_private s o after m k other operation found e =
      rw (mark_only (marks_in state s) operation)
      (All-weaker (Safe state operation.epoch) (IsInUse after.heap)
      (λ r h. (step_carries s o after m operation.epoch (I.recent k operation found).0 (I.recent k operation found).1 r h).0.used) operation.private
      (in_private state I operation.epoch k operation found))

  privates_after : (s : Step) (o : Outcome) (after : State) → Moves state s o after → (k : ℕ) (operation : Operation) → get_or after.actors k None ≡ Some operation → Privates after k operation
  privates_after =
      each_after state (λ k operation. get_or state.actors k None ≡ Some operation) Privates (λ k operation e. e) (λ actor call number k own d. All-nil _) own_private
      (λ actor operation answer k own is a e. All-nil _) other_private

  -- ---- all of it

  zeros_after : (s : Step) (o : Outcome) (after : State) → Moves state s o after → AllZero after
  zeros_after s o after m =
      subst (λ l. All (λ z. is_zero after.heap (outside after) z.at ≡ true) l) (sym (limbo_is state s o after m)) (zero_after after.heap (outside after) after.epoch state.limbo)

  pub safe_after : (s : Step) (o : Outcome) (after : State) → Moves state s o after → IsSafe after
  safe_after s o after m = record {
    sound = subst (λ (l : Bounds). IsSound l.slots after) (sym (limits_kept state s o after m)) (sound_after state.limits.slots state s (I.sound) o after m);
    births = births_after _ _ _ _ _ _ ((step_effect s o after m).3) (I.births);
    zeros = zeros_after s o after m;
    recent = recent_after state (I.recent) s o after m;
    handles = handles_after state (I.handles) s o after m;
    fits = fits_after state (I.fits) s o after m;
    known = known_after state (I.known) s o after m;
    nodes = nodes_after s o after m;
    words = words_after s o after m;
    lines = lines_after s o after m;
    privates = privates_after s o after m;
  }

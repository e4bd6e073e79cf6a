-- What a step of a run does to the heap that only grows: one kind of move for each word or node that a step writes, tied to the action of the operation that takes it.
-- The layers above cite `word_move`, and for two times `grown_stays`, `grown_in_use`, `not_yet_drawn` and `used_before`.
use Rattle.std.proofs.Common.{◌≡◌, ℕ, zero, suc, ◌+◌, ◌<◌, ◌≤◌, ◌==◌, Bool, true, false, nat_le, List, [], ◌∷◌, map, length, Option, Some, None, get_or, refl, sym, ap, ◌∙◌, subst}
use Rattle.std.proofs.Common.{◌⊎◌, inl, inr, eqb-true, arith}
use Rattle.std.proofs.lemmas.Bool.{cases_eq, cond_both}
use Rattle.std.proofs.lemmas.Option.{none-some, same_Some}
use Rattle.proof_memory.specs.Vocabulary.{Swept, Reclaimer, ripe, sweep_by, birth_of, Ref, Node, Indirection, Slot, Heap, main_at, main_of, with_main, with_prev, main_changed, prev_changed, taken}
use Rattle.proof_memory.specs.Vocabulary.{freed, next_ref, Action, Operation, Bounds, Outcome, Step, handle_of, State, operation_of, Verdict, Commits, Fails, Overtaken, verdict, action_of, acted}
use Rattle.proof_memory.specs.Vocabulary.{gone, published, restored, decided, new_root_taken, if_changed, settled, Begins, Ends, Sweeps, GivesUp, Moves, begun_operation, pin_of, reclaimer_of, turns}
use Rattle.proof_memory.specs.Vocabulary.{IsRun, Turn, standing, grown, or_before}
use Rattle.proof_memory.specs.Beneath.slot_arena.specs.declared.nodes.Prev.TheVariants as prev
use Rattle.machine_model.specs.declared.actions.Action.TheVariants as act
use Rattle.machine_model.specs.Moves.{Goes}
use Rattle.machine_model.proofs.HeapMoves.{begin_heap, aborted_heap, offered_heap, completed_heap}
use Rattle.machine_model.proofs.InUse.{InUse}
use Rattle.machine_model.proofs.Slots.{ripe_in_use}
use Rattle.proof_memory.specs.Wants.{AllHold, action_wants}
use Rattle.proof_memory.specs.Laws.{IsInUse}
use Rattle.proof_memory.proofs.Claims.Uses.{safe_of}
use Rattle.proof_memory.proofs.Claims.Named.{third_claim}
use Rattle.proof_memory.proofs.Heap.Under.{main_here, main_other, prev_here, prev_other, freed_here, freed_other, fresh_slot, taken_all, none_taken}
use Rattle.proof_memory.proofs.Safety.Guards.{Safe}
use Rattle.proof_memory.proofs.Heap.Effects.{SameSlot, same_slot, slots_joined, apart, main_is}
use Rattle.proof_memory.specs.Making.{made_node}
use Rattle.proof_memory.proofs.Safety.States.{IsSafe, used_of, births_grow, stood_or_made, stands_in_use}
use Rattle.proof_memory.proofs.Safety.Steps.{of_actor, step_claims, step_effect}
use Rattle.proof_memory.proofs.Safety.AtEachTime.{safe_at}
use Rattle.machine_model.proofs.Grown.{stands_in, grown_in_use}

-- the operation of this actor takes a step that does this
abbrev pub Takes : State → ℕ → Operation → Action → Type 0
Takes state actor operation action = (operation_of state actor ≡ Some operation) × (action_of state operation ≡ action)

-- nothing changes but under these references
abbrev pub OthersStay : (Ref → Option Slot) → (Ref → Option Slot) → List Ref → Type 0
OthersStay f g [] = (r : Ref) → g r ≡ f r
OthersStay f g (q ∷ []) = (r : Ref) → (r ≡ q → ⊥) → g r ≡ f r
OthersStay f g (q ∷ p ∷ rs) = (r : Ref) → (r ≡ q → ⊥) → (r ≡ p → ⊥) → g r ≡ f r

-- f says what stands under a reference before a step that is taken in this state, g what stands there after it
pub data WordMove (state : State) (f g : Ref → Option Slot) : Type 0 where
  -- no word or node is written
  keeps : OthersStay f g [] → WordMove state f g
  -- a node is made
  makes : (actor : ℕ) (operation : Operation) (node : Node) (made : Ref) → operation_of state actor ≡ Some operation → made_node state (action_of state operation) ≡ Some node →
      next_ref state.heap ≡ Some made → f made ≡ None → g made ≡ Some (fresh_slot state.heap node) → OthersStay f g (made ∷ []) → WordMove state f g
  -- a fresh main node is swapped in, pending over the replaced one
  publishes : (actor : ℕ) (operation : Operation) (indirection replaced fresh : Ref) (was new : Slot) → Takes state actor operation (act.Publish indirection replaced fresh) →
      (indirection ≡ fresh → ⊥) → f indirection ≡ Some was → main_of was.node ≡ replaced → f fresh ≡ Some new → g indirection ≡ Some (main_changed fresh was) →
      g fresh ≡ Some (prev_changed (prev.Pending replaced) new) → OthersStay f g (indirection ∷ fresh ∷ []) → WordMove state f g
  -- the node before is put in the place of a failed one
  restores : (actor : ℕ) (operation : Operation) (indirection main previous : Ref) (was : Slot) → Takes state actor operation (act.Restore indirection main previous) →
      f indirection ≡ Some was → main_of was.node ≡ main → g indirection ≡ Some (main_changed previous was) → OthersStay f g (indirection ∷ []) → WordMove state f g
  -- a pending node is committed
  commits : (actor : ℕ) (operation : Operation) (indirection main previous : Ref) (told : Option ℕ) (was : Slot) → Takes state actor operation (act.Decide indirection main previous told) →
      verdict state.heap indirection main previous told ≡ Commits → f main ≡ Some was → g main ≡ Some (prev_changed prev.None was) → OthersStay f g (main ∷ []) → WordMove state f g
  -- a pending node fails
  fails : (actor : ℕ) (operation : Operation) (indirection main previous : Ref) (told : Option ℕ) (was : Slot) → Takes state actor operation (act.Decide indirection main previous told) →
      verdict state.heap indirection main previous told ≡ Fails → f main ≡ Some was → g main ≡ Some (prev_changed (prev.Failed previous) was) → OthersStay f g (main ∷ []) → WordMove state f g

-- ---- in the machine's own heap, for a step of an operation

module _ (state : State) (I : IsSafe state) (actor k : ℕ) (operation : Operation) (running : operation_of state actor ≡ Some operation) (found : get_or state.actors k None ≡ Some operation) where
  abbrev S : Ref → Type 0
  S = Safe state operation.epoch

  abbrev Moved : Heap → Type 0
  Moved heap = WordMove state (standing state.heap) (standing heap)

  same_heap : (heap : Heap) → heap ≡ state.heap → Moved heap
  same_heap heap e = keeps (λ r. ap (λ h. standing h r) e)

  made_by : (o : Option Ref) → next_ref state.heap ≡ o → (node : Node) → made_node state (action_of state operation) ≡ Some node → (heap : Heap) → heap ≡ taken state.heap node → Moved heap
  made_by None e node is heap same = same_heap heap (same ∙ none_taken state.heap node e)
  made_by (Some made) e node is heap same =
      let (here, none, others, birth) = taken_all state.limits.slots state.heap (I.sound.heap) node made e in
      makes actor operation node made running is e none (ap (λ h. standing h made) same ∙ here) (λ r other. ap (λ h. standing h r) same ∙ others r other)

  published_by : (i replaced fresh : Ref) → action_of state operation ≡ act.Publish i replaced fresh → AllHold S state.heap (action_wants (act.Publish i replaced fresh)) →
      (b : Bool) → (main_at state.heap i == replaced) ≡ b → Moved (if_changed b (with_prev (with_main state.heap i fresh) fresh (prev.Pending replaced)) state.heap)
  published_by i replaced fresh a h false e = same_heap state.heap refl
  published_by i replaced fresh a h true e =
      let (was, at_i) = used_of state operation.epoch i (safe_of h.0) in
      let (new, at_fresh) = used_of state operation.epoch fresh (safe_of (third_claim h)) in
      let differ = apart S state.heap None (used_of state operation.epoch) h.0 (third_claim h) in
      let between = with_main state.heap i fresh in
      let fresh_between = main_other state.heap i fresh was at_i fresh (λ same. differ (sym same)) ∙ at_fresh in
      publishes actor operation i replaced fresh was new (running, a) differ at_i (main_is S state.heap None (used_of state operation.epoch) i was at_i ∙ eqb-true _ _ e) at_fresh
      (prev_other between fresh (prev.Pending replaced) new fresh_between i differ ∙ main_here state.heap i fresh was at_i) (prev_here between fresh (prev.Pending replaced) new fresh_between)
      (λ r x y. prev_other between fresh (prev.Pending replaced) new fresh_between r y ∙ main_other state.heap i fresh was at_i r x)

  restored_by : (i main previous : Ref) → action_of state operation ≡ act.Restore i main previous → AllHold S state.heap (action_wants (act.Restore i main previous)) →
      (b : Bool) → (main_at state.heap i == main) ≡ b → Moved (if_changed b (with_main state.heap i previous) state.heap)
  restored_by i main previous a h false e = same_heap state.heap refl
  restored_by i main previous a h true e =
      let (was, at_i) = used_of state operation.epoch i (safe_of h.0) in
      restores actor operation i main previous was (running, a) at_i (main_is S state.heap None (used_of state operation.epoch) i was at_i ∙ eqb-true _ _ e) (main_here state.heap i previous was at_i)
      (main_other state.heap i previous was at_i)

  decided_by : (i main previous : Ref) (told : Option ℕ) → action_of state operation ≡ act.Decide i main previous told → AllHold S state.heap (action_wants (act.Decide i main previous told)) →
      (v : Verdict) → verdict state.heap i main previous told ≡ v → Moved (decided state.heap main previous v)
  decided_by i main previous told a h Commits e =
      let (was, at_main) = used_of state operation.epoch main (safe_of h.1.0) in
      commits actor operation i main previous told was (running, a) e at_main (prev_here state.heap main prev.None was at_main) (prev_other state.heap main prev.None was at_main)
  decided_by i main previous told a h Fails e =
      let (was, at_main) = used_of state operation.epoch main (safe_of h.1.0) in
      fails actor operation i main previous told was (running, a) e at_main (prev_here state.heap main (prev.Failed previous) was at_main)
      (prev_other state.heap main (prev.Failed previous) was at_main)
  decided_by i main previous told a h (Overtaken licensed) e = same_heap state.heap refl

  -- by the action, in a state with this heap and as many generations
  module _ (st : State) (heap : st.heap ≡ state.heap) (generations : st.generations ≡ state.generations) where
    root_by : (main : Ref) → action_of state operation ≡ act.MakeRoot main → (o : Option Ref) → next_ref st.heap ≡ o → Moved (new_root_taken st main o).heap
    root_by main a None e = same_heap st.heap heap
    root_by main a (Some made) e =
        made_by (next_ref state.heap) refl (Indirection state.generations main) (ap (made_node state) a) (taken st.heap (Indirection st.generations main))
        (ap (λ h. taken h (Indirection st.generations main)) heap ∙ ap (λ n. taken state.heap (Indirection n main)) generations)

    acted_by : (action : Action) → action_of state operation ≡ action → AllHold S state.heap (action_wants action) → Moved (acted st (handle_of operation.call) action).heap
    acted_by (act.Abort offer) a h = same_heap _ (aborted_heap st (handle_of operation.call) offer ∙ heap)
    acted_by (act.Offer offer) a h = same_heap _ (offered_heap st (handle_of operation.call) offer ∙ heap)
    acted_by (act.Complete offer main) a h = same_heap _ (completed_heap st (handle_of operation.call) offer main ∙ heap)
    acted_by (act.Publish i replaced fresh) a h =
        subst (λ x. Moved (published x i replaced fresh)) (sym heap) (published_by i replaced fresh a h (main_at state.heap i == replaced) refl)
    acted_by (act.Restore i main previous) a h =
        subst (λ x. Moved (restored x i main previous)) (sym heap) (restored_by i main previous a h (main_at state.heap i == main) refl)
    acted_by (act.Decide i main previous told) a h =
        subst (λ x. Moved (decided x main previous (verdict x i main previous told))) (sym heap) (decided_by i main previous told a h (verdict state.heap i main previous told) refl)
    acted_by (act.Make node) a h = made_by (next_ref state.heap) refl node (ap (made_node state) a) _ (ap (λ x. taken x node) heap)
    acted_by (act.MakeRoot main) a h = root_by main a (next_ref st.heap) refl
    acted_by action a h = same_heap st.heap heap

  gone_move : Moved (settled state (gone state actor operation)).heap
  gone_move = acted_by _ refl refl (action_of state operation) refl (step_claims state I k operation found)

-- ---- in the heap that only grows

stands_not : (now before : Option Slot) → now ≡ None → or_before now before ≡ before
stands_not now before e = ap (λ o. or_before o before) e

-- by what stands before and after a step
grown_same_by : (states : ℕ → State) (t : ℕ) (r : Ref) (o : Option Slot) → standing (states t).heap r ≡ o → standing (states (suc t)).heap r ≡ o → grown states (suc t) r ≡ grown states t r
unfolding grown
grown_same_by states t r None e e' = stands_not _ (grown states t r) e'
grown_same_by states t r (Some slot) e e' = stands_in _ (grown states t r) slot e' ∙ sym (grown_in_use states t r slot e)

module _ (states : ℕ → State) (t : ℕ) where
  pub grown_same : (r : Ref) → standing (states (suc t)).heap r ≡ standing (states t).heap r → grown states (suc t) r ≡ grown states t r
  grown_same r e = grown_same_by states t r (standing (states t).heap r) refl e

  grown_freed : (r : Ref) → standing (states (suc t)).heap r ≡ None → grown states (suc t) r ≡ grown states t r
  unfolding grown
  grown_freed r e = stands_not _ (grown states t r) e

-- ---- along a run

-- a step that is no operation's: what stands stays as it is, or goes
abbrev OnlyGoes : (Ref → Option Slot) → (Ref → Option Slot) → Type 0
OnlyGoes f g = (r : Ref) → (g r ≡ f r) ⊎ (g r ≡ None)

pub sweep_goes : (state : State) (I : IsSafe state) (pins : List (Option ℕ)) (due : Option Ref) → ((q : Ref) → due ≡ Some q → IsInUse state.heap q) →
    OnlyGoes (standing state.heap) (standing (sweep_by pins (reclaimer_of state) due).1.heap)
sweep_goes state I pins None used r =
    cond_both (nat_le state.cursor (length pins)) _ _ (λ (done : Swept × Reclaimer). (standing done.1.heap r ≡ standing state.heap r) ⊎ (standing done.1.heap r ≡ None)) (λ e. inl refl) (λ e. inl refl)
sweep_goes state I pins (Some q) used r =
    let (was, found) = used q refl in
    elim (cases_eq r q) [ inl same ↦ inr (ap (standing (freed state.heap q)) same ∙ freed_here state.heap q was found) | inr other ↦ inl (freed_other state.heap q was found r other) ]

abbrev StandingMove : State → State → Type 0
StandingMove state after = WordMove state (standing state.heap) (standing after.heap) ⊎ OnlyGoes (standing state.heap) (standing after.heap)

pub standing_move : (state : State) → IsSafe state → (s : Step) (o : Outcome) (after : State) → Moves state s o after → StandingMove state after
standing_move state I s o after (Begins {actor} {call} {number} d) = inl (keeps (λ r. ap (λ h. standing h r) (begin_heap state actor call (begun_operation state call number))))
standing_move state I s o after (Goes {actor} {operation} d is a g) =
    let (k, found) = of_actor state (λ k operation. get_or state.actors k None ≡ Some operation) (λ k operation e. e) actor operation is in
    inl (gone_move state I actor k operation is found)
standing_move state I s o after (Ends d is a) = inl (keeps (λ r. refl))
standing_move state I s o after (GivesUp d is a) = inl (keeps (λ r. refl))
standing_move state I s o after (Sweeps spent) =
    inr (sweep_goes state I (map pin_of state.actors) (ripe state.epoch state.limbo)
    (λ q due. stands_in_use state.heap q (ripe_in_use (InUse state.heap) state.epoch state.limbo (I.sound.limbo) q due)))

-- what stood stands after a move, with its node but for the main word
pub moved_stays : (state : State) (f g : Ref → Option Slot) → WordMove state f g → (r : Ref) (was : Slot) → f r ≡ Some was → (now : Slot) × (g r ≡ Some now) × SameSlot was now
moved_stays state f g (keeps k) r was h = (was, k r ∙ h, same_slot was)
moved_stays state f g (makes actor operation node made is a e none new others) r was h = elim (cases_eq r made) [
  | inl s ↦ absurd (none-some was (sym none ∙ ap f (sym s) ∙ h))
  | inr other ↦ (was, others r other ∙ h, same_slot was)
]
moved_stays state f g (publishes actor operation i replaced fresh at_i at_fresh takes differ f_i m f_fresh g_i g_fresh others) r was h = elim (cases_eq r i) [
  | inl s ↦ (main_changed fresh was, ap g s ∙ g_i ∙ ap (λ x. Some (main_changed fresh x)) (same_Some _ _ (sym f_i ∙ ap f (sym s) ∙ h)), ((fresh, refl), refl))
  | inr other ↦ elim (cases_eq r fresh) [
    | inl s ↦ (prev_changed (prev.Pending replaced) was, ap g s ∙ g_fresh ∙ ap (λ x. Some (prev_changed (prev.Pending replaced) x)) (same_Some _ _ (sym f_fresh ∙ ap f (sym s) ∙ h)), same_slot was)
    | inr another ↦ (was, others r other another ∙ h, same_slot was)
  ]
]
moved_stays state f g (restores actor operation i main previous at_i takes f_i m g_i others) r was h = elim (cases_eq r i) [
  | inl s ↦ (main_changed previous was, ap g s ∙ g_i ∙ ap (λ x. Some (main_changed previous x)) (same_Some _ _ (sym f_i ∙ ap f (sym s) ∙ h)), ((previous, refl), refl))
  | inr other ↦ (was, others r other ∙ h, same_slot was)
]
moved_stays state f g (commits actor operation i main previous told at_main takes v f_main g_main others) r was h = elim (cases_eq r main) [
  | inl s ↦ (prev_changed prev.None was, ap g s ∙ g_main ∙ ap (λ x. Some (prev_changed prev.None x)) (same_Some _ _ (sym f_main ∙ ap f (sym s) ∙ h)), same_slot was)
  | inr other ↦ (was, others r other ∙ h, same_slot was)
]
moved_stays state f g (fails actor operation i main previous told at_main takes v f_main g_main others) r was h = elim (cases_eq r main) [
  | inl s ↦ (prev_changed (prev.Failed previous) was, ap g s ∙ g_main ∙ ap (λ x. Some (prev_changed (prev.Failed previous) x)) (same_Some _ _ (sym f_main ∙ ap f (sym s) ∙ h)), same_slot was)
  | inr other ↦ (was, others r other ∙ h, same_slot was)
]

module _ {limits : Bounds} {states : ℕ → State} {last : ℕ} (run : IsRun limits states last) where
  -- births
  births_so_far : (t : ℕ) → t < last → (states t).heap.births ≤ (states (suc t)).heap.births
  births_so_far t h = by_turn (states t) (states (suc t)) (safe_at run t (omega arith)) (run.turn t h)
    where
      by_turn : (before after : State) → IsSafe before → Turn before after → before.heap.births ≤ after.heap.births
      by_turn before after I (turns s o m) = births_grow _ _ _ _ _ _ ((step_effect before I s o after m).3)

  -- what was once made has a birth that was drawn
  pub born : (t : ℕ) → t ≤ last → (r : Ref) (slot : Slot) → grown states t r ≡ Some slot → birth_of r ≤ (states t).heap.births
  unfolding grown
  born zero h r slot e = (safe_at run zero h).births r slot e
  born (suc t) h r slot e = by_standing (born t (omega arith) r slot) (standing (states (suc t)).heap r) refl
    where
      le_more : (states t).heap.births ≤ (states (suc t)).heap.births → birth_of r ≤ (states t).heap.births → birth_of r ≤ (states (suc t)).heap.births
      le_more a b = omega arith

      by_standing : (grown states t r ≡ Some slot → birth_of r ≤ (states t).heap.births) → (o : Option Slot) → standing (states (suc t)).heap r ≡ o → birth_of r ≤ (states (suc t)).heap.births
      by_standing before None none = le_more (births_so_far t h) (before (sym (grown_freed states t r none) ∙ e))
      by_standing before (Some now) found = (safe_at run (suc t) h).births r now found

  -- what is drawn next was never made
  pub not_yet_drawn : (t : ℕ) → t ≤ last → (made : Ref) → next_ref (states t).heap ≡ Some made → grown states t made ≡ None
  not_yet_drawn t h made e = by_grown (grown states t made) refl
    where
      I : IsSafe (states t)
      I = safe_at run t h

      its_birth : birth_of made ≡ (states t).heap.births + 1
      its_birth = (taken_all (states t).limits.slots (states t).heap (I.sound.heap) (Indirection 0 0) made e).3

      by_grown : (o : Option Slot) → grown states t made ≡ o → grown states t made ≡ None
      by_grown None g = g
      by_grown (Some slot) g = absurd (too_late its_birth (born t h made slot g))
        where
          too_late : birth_of made ≡ (states t).heap.births + 1 → birth_of made ≤ (states t).heap.births → ⊥
          too_late a b = omega arith

  -- each step is a move of words in the heap that only grows
  lifted : (t : ℕ) → t < last → StandingMove (states t) (states (suc t)) → WordMove (states t) (grown states t) (grown states (suc t))
  lifted t h (inr goes) = keeps (λ r. elim (goes r) [ inl same ↦ grown_same states t r same | inr none ↦ grown_freed states t r none ])
  lifted t h (inl (keeps k)) = keeps (λ r. grown_same states t r (k r))
  lifted t h (inl (makes actor operation node made is a e none new others)) =
      makes actor operation node made is a e (not_yet_drawn t (omega arith) made e) (grown_in_use states (suc t) made _ new) (λ r other. grown_same states t r (others r other))
  lifted t h (inl (publishes actor operation i replaced fresh at_i at_fresh takes differ f_i m f_fresh g_i g_fresh others)) =
      publishes actor operation i replaced fresh at_i at_fresh takes differ (grown_in_use states t i _ f_i) m (grown_in_use states t fresh _ f_fresh)
      (grown_in_use states (suc t) i _ g_i) (grown_in_use states (suc t) fresh _ g_fresh)
      (λ r x y. grown_same states t r (others r x y))
  lifted t h (inl (restores actor operation i main previous at_i takes f_i m g_i others)) =
      restores actor operation i main previous at_i takes (grown_in_use states t i _ f_i) m (grown_in_use states (suc t) i _ g_i) (λ r x. grown_same states t r (others r x))
  lifted t h (inl (commits actor operation i main previous told at_main takes v f_main g_main others)) =
      commits actor operation i main previous told at_main takes v (grown_in_use states t main _ f_main) (grown_in_use states (suc t) main _ g_main) (λ r x. grown_same states t r (others r x))
  lifted t h (inl (fails actor operation i main previous told at_main takes v f_main g_main others)) =
      fails actor operation i main previous told at_main takes v (grown_in_use states t main _ f_main) (grown_in_use states (suc t) main _ g_main) (λ r x. grown_same states t r (others r x))

  pub word_move : (t : ℕ) → t < last → WordMove (states t) (grown states t) (grown states (suc t))
  word_move t h = lifted t h (by_turn (states t) (states (suc t)) (safe_at run t (omega arith)) (run.turn t h))
    where
      by_turn : (before after : State) → IsSafe before → Turn before after → StandingMove before after
      by_turn before after I (turns s o m) = standing_move before I s o after m

  -- what was once made stays made, with its node but for the main word
  pub grown_stays : (t u : ℕ) → t ≤ u → u ≤ last → (r : Ref) (was : Slot) → grown states t r ≡ Some was → (now : Slot) × (grown states u r ≡ Some now) × SameSlot was now
  grown_stays t zero below within r was e = (was, subst (λ x. grown states x r ≡ Some was) (nothing_below t below) e, same_slot was)
    where
      nothing_below : (t : ℕ) → t ≤ zero → t ≡ zero
      nothing_below t h = omega arith
  grown_stays t (suc u) below within r was e = elim (cases_eq t (suc u)) [
    | inl same ↦ (was, subst (λ x. grown states x r ≡ Some was) same e, same_slot was)
    | inr other ↦
        let (between, found, kept) = grown_stays t u (omega arith) (omega arith) r was e in
        let (now, found_now, kept_now) = moved_stays (states u) (grown states u) (grown states (suc u)) (word_move u within) r between found in
        (now, found_now, slots_joined was between now kept kept_now)
  ]

  -- what is made already and in use after a step was in use before it
  used_at_step : (t : ℕ) → t < last → (r : Ref) (was now : Slot) → grown states t r ≡ Some was → standing (states (suc t)).heap r ≡ Some now → IsInUse (states t).heap r
  used_at_step t h r was now made found =
      by_turn (states t) (states (suc t)) (safe_at run t (omega arith)) (run.turn t h) (born t (omega arith) r was made) found
    where
      too_late : (births : ℕ) → birth_of r ≡ births + 1 → birth_of r ≤ births → ⊥
      too_late births a b = omega arith

      by_turn : (before after : State) → IsSafe before → Turn before after → birth_of r ≤ before.heap.births → standing after.heap r ≡ Some now → IsInUse before.heap r
      by_turn before after I (turns s o m) drawn found = elim (stood_or_made _ _ _ _ _ _ ((step_effect before I s o after m).3) r now found) [
        | inl stood ↦ stood
        | inr made ↦ absurd (too_late before.heap.births made.0 drawn)
      ]

  -- what is made by some time and in use later is in use then
  pub used_before : (t u : ℕ) → t ≤ u → u ≤ last → (r : Ref) (was : Slot) → grown states t r ≡ Some was → IsInUse (states u).heap r → IsInUse (states t).heap r
  used_before t zero below within r was made used = subst (λ x. IsInUse (states x).heap r) (nothing_below t below) used
    where
      nothing_below : (t : ℕ) → t ≤ zero → zero ≡ t
      nothing_below t h = omega arith
  used_before t (suc u) below within r was made used = elim (cases_eq t (suc u)) [
    | inl same ↦ subst (λ x. IsInUse (states x).heap r) (sym same) used
    | inr other ↦
        let between = grown_stays t u (omega arith) (omega arith) r was made in
        used_before t u (omega arith) (omega arith) r was made (used_at_step u within r between.0 used.0 between.1 used.1)
  ]

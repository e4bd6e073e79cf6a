-- What holds later in a run; births never repeat.
use Rattle.std.proofs.Common.{◌≡◌, ℕ, ◌+◌, ◌≤◌, List, ◌∷◌, ◌++◌, Option, Some, None, sym, ap, ◌∙◌, subst, inl, inr, arith, []}
use Rattle.std.proofs.lemmas.Bool.{cases_eq}
use Rattle.std.proofs.lemmas.Option.{none-some, same_Some}
use Rattle.proof_memory.specs.Vocabulary.{birth_of, Ref, Indirection, Slot, next_ref, Bounds, Outcome, Step, State, first_state, AreBounds, run, run_from, next_state, Moves, standing}
use Rattle.machine_model.proofs.Along.{kept_by_moves, run-append}
use Rattle.proof_memory.specs.Wants.{Claim}
use Rattle.proof_memory.specs.Laws.{IsInUse, SameNode}
use Rattle.proof_memory.proofs.Heap.Under.{taken_all}
use Rattle.proof_memory.proofs.Heap.Effects.{Effect, Keeps, Makes, Publishes, Restores, Decides, Frees, SameSlot, same_slot, slots_joined, stays}
use Rattle.proof_memory.proofs.Safety.States.{IsSafe, births_grow, stood_or_made}
use Rattle.proof_memory.proofs.Safety.Steps.{step_effect}
use Rattle.proof_memory.proofs.Safety.AtEachTime.{safe_along, safe_next}

-- what each move keeps of a safe state holds later
pub onward : (Q : State → Type 0) → ((state : State) → IsSafe state → Q state → (s : Step) (o : Outcome) (after : State) → Moves state s o after → Q after) →
    (more : List Step) (state : State) → IsSafe state → Q state → Q (run_from state more)
unfolding run_from
onward Q keeps [] state I q = q
onward Q keeps (s ∷ more) state I q = onward Q keeps more (next_state state s) (safe_next state I s) (kept_by_moves Q state s q (λ o after m. keeps state I q s o after m))

-- ---- the same node

-- what stands before and after a step is the same but for the main word
same_there : (C : List Claim → Type 0) (f g : Ref → Option Slot) (b c : ℕ) (due : Option Ref) → Effect C f g b c due → (r : Ref) (was now : Slot) → f r ≡ Some was → g r ≡ Some now → SameSlot was now
same_there C f g b c due (Frees q e is_due none others) r was now h h' = elim (cases_eq r q) [
  | inl same ↦ absurd (none-some now (sym none ∙ ap g (sym same) ∙ h'))
  | inr other ↦ subst (SameSlot was) (same_Some _ _ (sym h ∙ sym (others r other) ∙ h')) (same_slot was)
]
same_there C f g b c due (Keeps e k) r was now h h' =
    let (found, is, same) = stays C f g b c None (Keeps e k) r was h (none-some r) in subst (SameSlot was) (same_Some _ _ (sym is ∙ h')) same
same_there C f g b c due (Makes made new e e' w p none at_made others) r was now h h' =
    let (found, is, same) = stays C f g b c None (Makes made new e e' w p none at_made others) r was h (none-some r) in subst (SameSlot was) (same_Some _ _ (sym is ∙ h')) same
same_there C f g b c due (Publishes i replaced fresh at_i at_fresh e w differ f_i m f_fresh g_i g_fresh others) r was now h h' =
    let (found, is, same) = stays C f g b c None (Publishes i replaced fresh at_i at_fresh e w differ f_i m f_fresh g_i g_fresh others) r was h (none-some r) in
    subst (SameSlot was) (same_Some _ _ (sym is ∙ h')) same
same_there C f g b c due (Restores i main previous at_i e w f_i m g_i others) r was now h h' =
    let (found, is, same) = stays C f g b c None (Restores i main previous at_i e w f_i m g_i others) r was h (none-some r) in subst (SameSlot was) (same_Some _ _ (sym is ∙ h')) same
same_there C f g b c due (Decides main p at_main e w f_main g_main others) r was now h h' =
    let (found, is, same) = stays C f g b c None (Decides main p at_main e w f_main g_main others) r was h (none-some r) in subst (SameSlot was) (same_Some _ _ (sym is ∙ h')) same

-- its birth was drawn, and whatever stands there is the same slot
abbrev IsStill : Ref → Slot → State → Type 0
IsStill r was state = (birth_of r ≤ state.heap.births) × ((now : Slot) → standing state.heap r ≡ Some now → SameSlot was now)

still_after : (r : Ref) (was : Slot) (state : State) → IsSafe state → IsStill r was state → (s : Step) (o : Outcome) (after : State) → Moves state s o after → IsStill r was after
still_after r was state I h s o after m =
    let (epoch, low, high, effect) = step_effect state I s o after m in
    let more = births_grow _ _ _ _ _ _ effect in (
      later more h.0,
      λ now found. elim (stood_or_made _ _ _ _ _ _ effect r now found) [
        | inl stood ↦ slots_joined was stood.0 now (h.1 stood.0 stood.1) (same_there _ _ _ _ _ _ effect r stood.0 now stood.1 found)
        | inr made ↦ absurd (too_late made.0 h.0)
      ],
    )
  where
    later : state.heap.births ≤ after.heap.births → birth_of r ≤ state.heap.births → birth_of r ≤ after.heap.births
    later a b = omega arith

    too_late : birth_of r ≡ state.heap.births + 1 → birth_of r ≤ state.heap.births → ⊥
    too_late a b = omega arith

pub one_node : (limits : Bounds) → AreBounds limits → (steps more : List Step) (r : Ref) (was now : Slot) → standing (run limits steps).heap r ≡ Some was →
    standing (run limits (steps ++ more)).heap r ≡ Some now → SameNode was.node now.node
one_node limits ok steps more r was now h h' =
    let I = safe_along limits ok steps in
    let still = onward (IsStill r was) (still_after r was) more (run limits steps) I
    (I.births r was h, λ found is. subst (SameSlot was) (same_Some _ _ (sym h ∙ is)) (same_slot was)) in
    (still.1 now (subst (λ state. standing state.heap r ≡ Some now) (run-append (first_state limits) steps more) h')).0

-- ---- births

-- no births are taken back
pub births_later : (b : ℕ) (state : State) → IsSafe state → b ≤ state.heap.births → (s : Step) (o : Outcome) (after : State) → Moves state s o after → b ≤ after.heap.births
births_later b state I h s o after m = later (births_grow _ _ _ _ _ _ ((step_effect state I s o after m).3)) h
  where
    later : state.heap.births ≤ after.heap.births → b ≤ state.heap.births → b ≤ after.heap.births
    later x y = omega arith

-- a reference that is drawn has a birth that none had
pub drawn_birth : (state : State) → IsSafe state → (r : Ref) → next_ref state.heap ≡ Some r → birth_of r ≡ state.heap.births + 1
drawn_birth state I r e = (taken_all state.limits.slots state.heap (I.sound.heap) (Indirection 0 0) r e).3

pub drawn_once : (limits : Bounds) → AreBounds limits → (before since : List Step) (r : Ref) → next_ref (run limits (before ++ since)).heap ≡ Some r → IsInUse (run limits before).heap r → ⊥
drawn_once limits ok before since r e (slot, found) =
    let I = safe_along limits ok before in
    let later = onward (λ state. (run limits before).heap.births ≤ state.heap.births) (births_later (run limits before).heap.births) since (run limits before) I (omega arith) in
    let joined = run-append (first_state limits) before since in
    apart (drawn_birth (run limits (before ++ since)) (safe_along limits ok (before ++ since)) r e)
    (subst (λ state. (run limits before).heap.births ≤ state.heap.births) (sym joined) later) (I.births r slot found)
  where
    apart : birth_of r ≡ (run limits (before ++ since)).heap.births + 1 → (run limits before).heap.births ≤ (run limits (before ++ since)).heap.births →
        birth_of r ≤ (run limits before).heap.births → ⊥
    apart x y z = omega arith

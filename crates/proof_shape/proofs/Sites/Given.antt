-- What a step makes is given its level and its path there, and keeps them; so nodes stand at their levels at each time.
use Rattle.proof_shape.specs.Vocabulary.{GivesUp, ref_to, Ref, Node, Slot, next_ref, list_depth, Bounds, Outcome, Step, handle_of, State, first_state, action_of, is_number, IsRun, grown, standing}
use Rattle.proof_shape.specs.Vocabulary.{Begins, Ends, Sweeps, Moves, made_node, AllHold, node_wants, prev_wants, IsInUse, WordLevel, EntryLevel, if_made, made_by, made_now, level_now, level_by}
use Rattle.std.proofs.Common.{◌≡◌, ℕ, zero, suc, ◌+◌, ◌<◌, ◌≤◌, cond, Option, Some, None, refl, sym, ap, ◌∙◌, subst, inl, inr, ◌++◌, eq-eqb, arith}
use Rattle.std.proofs.lemmas.Bool.{cases_eq, cond_both}
use Rattle.std.proofs.lemmas.Option.{none-some}
use Rattle.std.proofs.lemmas.List.Elements.{All-nil}
use Rattle.proof_shape.specs.Beneath.machine_model.specs.declared.steps.Step.TheVariants as step
use Rattle.proof_shape.specs.Beneath.machine_model.proofs.Found.{none_found}
use Rattle.proof_shape.specs.Beneath.machine_model.specs.Moves.{Goes}
use Rattle.proof_shape.specs.Beneath.proof_memory.proofs.Heap.Under.{fresh_slot, taken_all}
use Rattle.proof_shape.specs.Beneath.proof_memory.proofs.Safety.States.{IsSafe}
use Rattle.proof_shape.specs.Beneath.proof_memory.proofs.Safety.Steps.{made_heap}
use Rattle.proof_shape.specs.Beneath.proof_memory.proofs.Safety.AtEachTime.{safe_at}
use Rattle.proof_shape.specs.Beneath.proof_memory.proofs.Claims.Uses.{safe_of}
use Rattle.proof_shape.specs.Beneath.proof_memory.proofs.Safety.First.{first_words, first_stands, safe_at_first}
use Rattle.proof_shape.specs.Beneath.proof_memory.proofs.Heap.Moves.{grown_stays, not_yet_drawn}
use Rattle.proof_shape.specs.Beneath.proof_memory.proofs.Levels.States.{HasLevels, GivesLevel, SlotLevel, levels_after}
use Rattle.proof_shape.specs.Beneath.proof_memory.proofs.Levels.Runs.{made_next, number_is}
use Rattle.proof_shape.specs.Beneath.proof_memory.proofs.Levels.Shapes.{ShapeAt, deep_low}
use Rattle.proof_shape.specs.Beneath.proof_memory.proofs.Levels.ShapeStates.{HasShapes, shapes_after}
use Rattle.proof_shape.specs.Sites.Nodes.{path_to, depth_at, leads_now, level_until, path_until}
use Rattle.proof_shape.specs.Sites.At.{TakesSteps}
use Rattle.proof_shape.specs.Beneath.machine_model.proofs.Grown.{grown_in_use}

-- ---- what is made is drawn, and stands

made_stands : (state : State) → IsSafe state → (s : Step) (o : Outcome) (after : State) → Moves state s o after → (r : Ref) → made_now state s ≡ Some r →
    (slot : Slot) × (standing after.heap r ≡ Some slot)
made_stands state I s o after (Begins d) r e = absurd (none-some r e)
made_stands state I s o after (Goes {actor} {operation} d is a g) r e = by_node (made_node state (action_of state operation)) refl
  where
    next : next_ref state.heap ≡ Some r
    next = made_next state (step.Go actor) r e

    by_node : (n : Option Node) → made_node state (action_of state operation) ≡ n → (slot : Slot) × (standing after.heap r ≡ Some slot)
    by_node None n = absurd (none-some r (sym (ap (λ x. if_made x (next_ref state.heap)) n) ∙ sym (ap (made_by state) is) ∙ e))
    by_node (Some node) n = (
      fresh_slot state.heap node,
      ap (λ heap. standing heap r) (made_heap _ (handle_of operation.call) (action_of state operation) node r n next)
          ∙ (taken_all state.limits.slots state.heap (I.sound.heap) node r next).0,
    )
made_stands state I s o after (Ends {actor} {operation} d is a) r e =
    absurd (none-some r (sym (ap (λ x. if_made x (next_ref state.heap)) (ap (made_node state) a)) ∙ sym (ap (made_by state) is) ∙ e))
made_stands state I s o after (GivesUp d is a) r e = absurd (none-some r e)
made_stands state I s o after (Sweeps spent) r e = absurd (none-some r e)

module _ {limits : Bounds} {states : ℕ → State} (steps : ℕ → Step) {last : ℕ} (run : IsRun limits states last) (takes : TakesSteps states steps last) where
  -- ---- what is made keeps what it was given

  made_grows : (t : ℕ) → t < last → (r : Ref) → made_now (states t) (steps t) ≡ Some r → (slot : Slot) × (grown states (suc t) r ≡ Some slot)
  made_grows t h r e =
      let (o, m) = takes t h in
      let (slot, found) = made_stands (states t) (safe_at run t (omega arith)) (steps t) o (states (suc t)) m r e in
      (slot, grown_in_use states (suc t) r slot found)

  -- what is made isn't made again
  not_again : (t u : ℕ) → t ≤ u → u < last → (r : Ref) (slot : Slot) → grown states t r ≡ Some slot → made_now (states u) (steps u) ≡ Some r → ⊥
  not_again t u le lt r slot found e =
      let (now, found_now, same) = grown_stays run t u le (omega arith) r slot found in
      none-some now (sym (not_yet_drawn run u (omega arith) r (made_next (states u) (steps u) r e)) ∙ found_now)

  keeps_by : {A : Type 0} (r : Ref) (o : Option Ref) (x y : A) → (o ≡ Some r → ⊥) → cond (is_number r o) x y ≡ y
  keeps_by {A} r o x y other = cond_both (is_number r o) x y (λ z. z ≡ y) (λ e. absurd (other (number_is r o e))) (λ e. refl)

  gives_by : {A : Type 0} (r : Ref) (o : Option Ref) (x y : A) → o ≡ Some r → cond (is_number r o) x y ≡ x
  gives_by {A} r o x y e = ap (λ b. cond b x y) (ap (is_number r) e ∙ eq-eqb r r refl)

  pub level_stays : (t u : ℕ) → t ≤ u → u ≤ last → (r : Ref) (slot : Slot) → grown states t r ≡ Some slot → level_until states steps u r ≡ level_until states steps t r
  unfolding level_until
  level_stays t zero le within r slot found = let none : zero ≡ t = omega arith in ap (λ n. level_until states steps n r) none
  level_stays t (suc u) le within r slot found = elim (cases_eq t (suc u)) [
    | inl same ↦ ap (λ n. level_until states steps n r) (sym same)
    | inr other ↦
        keeps_by r (made_now (states u) (steps u)) (level_now (states u) (steps u)) (level_until states steps u r) (not_again t u (omega arith) within r slot found)
        ∙ level_stays t u (omega arith) (omega arith) r slot found
  ]

  pub path_stays : (t u : ℕ) → t ≤ u → u ≤ last → (r : Ref) (slot : Slot) → grown states t r ≡ Some slot → path_until states steps u r ≡ path_until states steps t r
  unfolding path_until
  path_stays t zero le within r slot found = let none : zero ≡ t = omega arith in ap (λ n. path_until states steps n r) none
  path_stays t (suc u) le within r slot found = elim (cases_eq t (suc u)) [
    | inl same ↦ ap (λ n. path_until states steps n r) (sym same)
    | inr other ↦
        keeps_by r (made_now (states u) (steps u)) _ (path_until states steps u r) (not_again t u (omega arith) within r slot found)
        ∙ path_stays t u (omega arith) (omega arith) r slot found
  ]

  pub level_given : (t : ℕ) → t < last → (r : Ref) → made_now (states t) (steps t) ≡ Some r → level_until states steps last r ≡ level_now (states t) (steps t)
  unfolding level_until
  level_given t h r e =
      let (slot, found) = made_grows t h r e in
      level_stays (suc t) last (omega arith) (omega arith) r slot found ∙ gives_by r (made_now (states t) (steps t)) (level_now (states t) (steps t)) (level_until states steps t r) e

  pub path_given : (t : ℕ) → t < last → (r : Ref) → made_now (states t) (steps t) ≡ Some r →
      path_until states steps last r ≡ path_to (leads_now (states t) (path_until states steps t) (steps t)) (depth_at (level_now (states t) (steps t)))
  unfolding path_until
  path_given t h r e =
      let (slot, found) = made_grows t h r e in
      path_stays (suc t) last (omega arith) (omega arith) r slot found ∙ gives_by r (made_now (states t) (steps t)) _ (path_until states steps t r) e

  -- ---- levels at each time

  abbrev pub level : Ref → ℕ
  level = level_until states steps last

  pub gives_level : (t : ℕ) → t < last → GivesLevel level (states t) (steps t)
  gives_level t h actor operation node made is running n e =
      level_given t h made (ap (made_now (states t)) is ∙ ap (made_by (states t)) running ∙ ap (λ x. if_made x (next_ref (states t).heap)) n ∙ e)
      ∙ ap (level_now (states t)) is ∙ ap level_by running

  -- what the first state has, has a root's level
  old_level : (r : Ref) (slot : Slot) → standing (first_state limits).heap r ≡ Some slot → level r ≡ 1
  unfolding level_until
  old_level r slot found = level_stays zero last (omega arith) (omega arith) r slot (grown_in_use states zero r slot (ap (λ (s : State). standing s.heap r) run.first ∙ found))

  pub root_old : level (ref_to 2 1) ≡ 1
  unfolding first_state
  root_old = let (slot, found) = safe_of ((safe_at_first limits run.limits_ok).words 0 _ refl).0 in old_level (ref_to 2 1) slot found

  pub branch_old : level (ref_to 1 0) ≡ 1
  unfolding first_state
  branch_old =
      let (root, at_root) = safe_of ((safe_at_first limits run.limits_ok).words 0 _ refl).0 in
      let held = ((safe_at_first limits run.limits_ok).nodes (ref_to 2 1) root at_root).0 in
      let (slot, found) =
      first_stands (λ r (slot : Slot). AllHold (IsInUse (first_state limits).heap) (first_state limits).heap (node_wants slot.node ++ prev_wants slot.prev) →
      r ≡ ref_to 2 1 → IsInUse (first_state limits).heap (ref_to 1 0)) limits.slots
      run.limits_ok.0 (λ birth h is. safe_of h.0) (λ birth h is. absurd (omega (arith, is))) (ref_to 2 1) root at_root held refl in
      old_level (ref_to 1 0) slot found

  positive : (r : Ref) → level r ≡ 1 → 1 ≤ level r
  positive r e = omega arith

  at_root : (n : ℕ) → n ≡ 1 → n ≤ list_depth limits.hash + 1
  at_root n e = omega arith

  at_branch : (n : ℕ) → n ≡ 1 → 1 ≤ list_depth limits.hash → n ≤ list_depth limits.hash
  at_branch n e low = omega arith

  first_levels : HasLevels level (first_state limits) × HasShapes level (first_state limits)
  unfolding first_state
  first_levels = (
    record {
      nodes = first_stands (SlotLevel level) limits.slots run.limits_ok.0 (λ birth. ((branch_old ∙ sym root_old, positive (ref_to 2 1) root_old), tt))
          (λ birth. ((All-nil (EntryLevel level (level (ref_to 1 0))), positive (ref_to 1 0) branch_old), tt));
      words = first_words (WordLevel level) _ root_old;
      lines = λ k operation found. absurd (none_found limits.actors k operation found);
    },
    record {
      nodes = first_stands (λ r slot. ShapeAt (list_depth limits.hash) (level r) slot.node) limits.slots run.limits_ok.0
          (λ birth. at_root (level (ref_to 2 1)) root_old) (λ birth. at_branch (level (ref_to 1 0)) branch_old (deep_low limits.hash));
      lines = λ k operation found. absurd (none_found limits.actors k operation found);
    },
  )

  -- nodes stand at their levels, and are of the kinds that may
  pub levels_there : (t : ℕ) → t ≤ last → HasLevels level (states t) × HasShapes level (states t)
  levels_there zero h = subst (λ s. HasLevels level s × HasShapes level s) (sym run.first) first_levels
  levels_there (suc t) h =
      let I = safe_at run t (omega arith) in
      let (o, m) = takes t (omega arith) in
      let (levels, shapes) = levels_there t (omega arith) in
      let gives = gives_level t (omega arith) in
      (levels_after level (states t) I levels (steps t) o (states (suc t)) m gives, shapes_after level (states t) I levels shapes (steps t) o (states (suc t)) m gives)

-- Every run gives each reference a level, once, where it is made.
use Rattle.std.proofs.Common.{zero, suc, ◌≡◌, ℕ, ◌+◌, ◌<◌, ◌≤◌, true, cond, List, ◌∷◌, Option, Some, None, Ok, Err, refl, sym, ap, ◌∙◌, eqb-true, eq-eqb, arith, []}
use Rattle.std.proofs.lemmas.Bool.{cond_both, false≢true}
use Rattle.std.proofs.lemmas.Option.{none-some}
use Rattle.std.proofs.lemmas.List.Elements.{All-nil}
use Rattle.proof_memory.specs.Vocabulary.{ref_to, birth_of, Ref, Node, Heap, next_ref, Operation, Bounds, Outcome, Step, handle_of, State, first_state, operation_of, action_of, gone, Answer}
use Rattle.proof_memory.specs.Vocabulary.{AreBounds, run, run_from, next, next_state, state_after, is_number, taken_steps, states_from, states_of, Begins, Ends, Sweeps, GivesUp, Moves, MovesIfTaken}
use Rattle.machine_model.specs.declared.steps.Step.TheVariants as step
use Rattle.machine_model.proofs.Found.{none_found}
use Rattle.machine_model.proofs.Moves.{moves}
use Rattle.machine_model.specs.Moves.{Goes}
use Rattle.proof_memory.proofs.Claims.Uses.{safe_of}
use Rattle.proof_memory.proofs.Heap.Under.{births_taken}
use Rattle.proof_memory.specs.Making.{made_node}
use Rattle.proof_memory.proofs.Safety.States.{IsSafe, births_grow}
use Rattle.proof_memory.proofs.Safety.Steps.{made_heap, step_effect, safe_after}
use Rattle.proof_memory.proofs.Safety.First.{safe_at_first, first_words, first_stands}
use Rattle.proof_memory.specs.Levels.{WordLevel, EntryLevel, made_level}
use Rattle.proof_memory.proofs.Levels.States.{HasLevels, GivesLevel, SlotLevel, levels_after}
use Rattle.proof_memory.proofs.Heap.Later.{drawn_birth}
use Rattle.proof_memory.specs.Making.{if_made, made_by, level_by, made_now, level_now}

-- ---- what a step makes, and its level

abbrev pub given : State → Step → Answer → ℕ → Ref → ℕ
given state s (Ok done) later r = cond (is_number r (made_now state s)) (level_now state s) later
given state s (Err why) later r = later

-- the level that these steps give a reference; what they don't make has level 1
unfoldable pub levels_from : State → List Step → Ref → ℕ
levels_from state [] r = 1
levels_from state (s ∷ steps) r = given state s (next state s) (levels_from (next_state state s) steps r) r

-- ---- what is made has the next birth

made_next_by : (o : Option Node) (next made : Option Ref) (r : Ref) → if_made o next ≡ Some r → next ≡ Some r
made_next_by None next made r e = absurd (none-some r e)
made_next_by (Some node) next made r e = e

made_next_of : (state : State) (o : Option Operation) (r : Ref) → made_by state o ≡ Some r → next_ref state.heap ≡ Some r
made_next_of state None r e = absurd (none-some r e)
made_next_of state (Some operation) r e = made_next_by (made_node state (action_of state operation)) (next_ref state.heap) None r e

pub made_next : (state : State) (s : Step) (r : Ref) → made_now state s ≡ Some r → next_ref state.heap ≡ Some r
made_next state (step.Go actor) r e = made_next_of state (operation_of state actor) r e
made_next state (step.Begin actor call number) r e = absurd (none-some r e)
made_next state step.Sweep r e = absurd (none-some r e)
made_next state (step.GiveUp actor) r e = absurd (none-some r e)

-- the number is that of the reference that is made
pub number_is : (r : Ref) (o : Option Ref) → is_number r o ≡ true → o ≡ Some r
number_is r None e = absurd (false≢true e)
number_is r (Some m) e = ap Some (eqb-true m r e)

-- a step that is taken draws the birth of what it makes
births_made : (state : State) → IsSafe state → (s : Step) (o : Outcome) (after : State) → Moves state s o after → (r : Ref) → made_now state s ≡ Some r → birth_of r ≤ after.heap.births
births_made state I s o after (Begins d) r e = absurd (none-some r e)
births_made state I s o after (Goes {actor} {operation} d is a g) r e = by_node (made_node state (action_of state operation)) refl (ap (made_by state) (sym is) ∙ e)
  where
    drawn : (node : Node) → made_node state (action_of state operation) ≡ Some node → next_ref state.heap ≡ Some r → (gone state actor operation).heap.births ≡ state.heap.births + 1
    drawn node n next =
        ap (λ (heap : Heap). heap.births) (made_heap _ (handle_of operation.call) (action_of state operation) node r n next) ∙ births_taken state.heap node r next

    enough : birth_of r ≡ state.heap.births + 1 → (gone state actor operation).heap.births ≡ state.heap.births + 1 → birth_of r ≤ (gone state actor operation).heap.births
    enough x y = omega arith

    by_node : (n : Option Node) → made_node state (action_of state operation) ≡ n → if_made (made_node state (action_of state operation)) (next_ref state.heap) ≡ Some r →
        birth_of r ≤ (gone state actor operation).heap.births
    by_node None n made = absurd (none-some r (sym (ap (λ x. if_made x (next_ref state.heap)) n) ∙ made))
    by_node (Some node) n made =
        let next = sym (ap (λ x. if_made x (next_ref state.heap)) n) ∙ made in enough (drawn_birth state I r next) (drawn node n next)
births_made state I s o after (Ends {actor} {operation} d is a) r e =
    absurd (none-some r (sym (ap (λ x. if_made x (next_ref state.heap)) (ap (made_node state) a)) ∙ ap (made_by state) (sym is) ∙ e))
births_made state I s o after (GivesUp d is a) r e = absurd (none-some r e)
births_made state I s o after (Sweeps spent) r e = absurd (none-some r e)

-- ---- a run from a safe state

-- the levels that the rest of a run gives are those of lv, where they are still to be given
abbrev Agrees : (Ref → ℕ) → State → List Step → Type 0
Agrees lv state steps = (r : Ref) → state.heap.births < birth_of r → lv r ≡ levels_from state steps r

module _ (lv : Ref → ℕ) (state : State) (I : IsSafe state) (s : Step) (steps : List Step) where
  -- of what this step makes
  given_here : (later : ℕ) (r : Ref) → made_now state s ≡ Some r → cond (is_number r (made_now state s)) (level_now state s) later ≡ level_now state s
  given_here later r e = ap (λ b. cond b (level_now state s) later) (ap (is_number r) e ∙ eq-eqb r r refl)

  -- of what it doesn't
  given_later : (later : ℕ) (r : Ref) → (made_now state s ≡ Some r → ⊥) → cond (is_number r (made_now state s)) (level_now state s) later ≡ later
  given_later later r other = cond_both (is_number r (made_now state s)) _ _ (λ n. n ≡ later) (λ e. absurd (other (number_is r (made_now state s) e))) (λ e. refl)

  agrees_by : (o : Outcome) (after : State) → Moves state s o after →
      ((r : Ref) → state.heap.births < birth_of r → lv r ≡ cond (is_number r (made_now state s)) (level_now state s) (levels_from after steps r)) →
      GivesLevel lv state s × Agrees lv after steps
  agrees_by o after m agrees = (
    (λ actor operation node made is running n e.
        let its = made_is actor operation node made is running n e in
        agrees made (above made (drawn_birth state I made e)) ∙ given_here (levels_from after steps made) made its ∙ level_is actor operation is running),
    (λ r high. agrees r (still_above r (births_grow _ _ _ _ _ _ ((step_effect state I s o after m).3)) high) ∙ given_later (levels_from after steps r) r
        (λ e. too_high r (births_made state I s o after m r e) high)),
  )
    where
      above : (made : Ref) → birth_of made ≡ state.heap.births + 1 → state.heap.births < birth_of made
      above made x = omega arith

      still_above : (r : Ref) → state.heap.births ≤ after.heap.births → after.heap.births < birth_of r → state.heap.births < birth_of r
      still_above r x y = omega arith

      too_high : (r : Ref) → birth_of r ≤ after.heap.births → after.heap.births < birth_of r → ⊥
      too_high r x y = omega arith

      made_is : (actor : ℕ) (operation : Operation) (node : Node) (made : Ref) → s ≡ step.Go actor → operation_of state actor ≡ Some operation →
          made_node state (action_of state operation) ≡ Some node →
          next_ref state.heap ≡ Some made → made_now state s ≡ Some made
      made_is actor operation node made is running n e =
          ap (made_now state) is ∙ ap (made_by state) running ∙ ap (λ x. if_made x (next_ref state.heap)) n ∙ e

      level_is : (actor : ℕ) (operation : Operation) → s ≡ step.Go actor → operation_of state actor ≡ Some operation → level_now state s ≡ made_level operation.line
      level_is actor operation is running = ap (level_now state) is ∙ ap level_by running

-- what is kept by each step that gives what it makes its level
module _ (lv : Ref → ℕ) (P : State → Type 0) (keeps : (state : State) → IsSafe state → P state → (s : Step) (o : Outcome) (after : State) → Moves state s o after →
    GivesLevel lv state s → P after) where
  -- one more step, taken or denied
  kept_by : (X : State → Type 0) (state : State) → IsSafe state → P state → (s : Step) (steps : List Step) (answer : Answer) → MovesIfTaken state s answer →
      ((r : Ref) → state.heap.births < birth_of r → lv r ≡ given state s answer (levels_from (state_after state answer) steps r) r) →
      ((after : State) → IsSafe after → P after → Agrees lv after steps → X after) → X (state_after state answer)
  kept_by X state I h s steps (Err why) m agrees go_on = go_on state I h agrees
  kept_by X state I h s steps (Ok done) m agrees go_on =
      let both = agrees_by lv state I s steps done.0 done.1 m agrees in go_on done.1 (safe_after state I s done.0 done.1 m) (keeps state I h s done.0 done.1 m both.0) both.1

  -- holds along a run
  pub kept_along : (steps : List Step) (state : State) → IsSafe state → P state → Agrees lv state steps → P (run_from state steps)
  unfolding run_from levels_from
  kept_along [] state I h agrees = h
  kept_along (s ∷ steps) state I h agrees =
      kept_by (λ after. P (run_from after steps)) state I h s steps (next state s) (moves state s) agrees (λ after J g later. kept_along steps after J g later)

  -- and at each time of it
  pub kept_at : (steps : List Step) (state : State) → IsSafe state → P state → Agrees lv state steps → (t : ℕ) → P (states_from state steps t)
  unfolding states_from levels_from
  kept_at [] state I h agrees t = h
  kept_at (s ∷ steps) state I h agrees zero = h
  kept_at (s ∷ steps) state I h agrees (suc t) =
      kept_by (λ after. P (states_from after steps t)) state I h s steps (next state s) (moves state s) agrees (λ after J g later. kept_at steps after J g later t)

-- ---- from the first state

old_by : (state : State) → IsSafe state → (s : Step) (steps : List Step) (answer : Answer) → MovesIfTaken state s answer → (r : Ref) → birth_of r ≤ state.heap.births →
    ((after : State) → IsSafe after → birth_of r ≤ after.heap.births → levels_from after steps r ≡ 1) → given state s answer (levels_from (state_after state answer) steps r) r ≡ 1
old_by state I s steps (Err why) m r low go_on = go_on state I low
old_by state I s steps (Ok done) m r low go_on =
    given_later (λ r. 1) state I s steps (levels_from done.1 steps r) r (λ e. too_low (drawn_birth state I r (made_next state s r e)) low)
    ∙ go_on done.1 (safe_after state I s done.0 done.1 m) (still (births_grow _ _ _ _ _ _ ((step_effect state I s done.0 done.1 m).3)) low)
  where
    too_low : birth_of r ≡ state.heap.births + 1 → birth_of r ≤ state.heap.births → ⊥
    too_low x y = omega arith

    still : state.heap.births ≤ done.1.heap.births → birth_of r ≤ state.heap.births → birth_of r ≤ done.1.heap.births
    still x y = omega arith

-- what was drawn before has level 1
pub old_level : (steps : List Step) (state : State) → IsSafe state → (r : Ref) → birth_of r ≤ state.heap.births → levels_from state steps r ≡ 1
unfolding levels_from
old_level [] state I r low = refl
old_level (s ∷ steps) state I r low = old_by state I s steps (next state s) (moves state s) r low (λ after J still. old_level steps after J r still)

module _ (limits : Bounds) (ok : AreBounds limits) (lv : Ref → ℕ) (old : (r : Ref) → birth_of r ≤ (first_state limits).heap.births → lv r ≡ 1) where
  root_old : birth_of (ref_to 2 1) ≤ (first_state limits).heap.births
  unfolding first_state
  root_old = let (slot, found) = safe_of ((safe_at_first limits ok).words 0 _ refl).0 in (safe_at_first limits ok).births (ref_to 2 1) slot found

  pub root_level : lv (ref_to 2 1) ≡ 1
  root_level = old (ref_to 2 1) root_old

  pub branch_level : lv (ref_to 1 0) ≡ 1
  branch_level = old (ref_to 1 0) (lower root_old)
    where
      lower : birth_of (ref_to 2 1) ≤ (first_state limits).heap.births → birth_of (ref_to 1 0) ≤ (first_state limits).heap.births
      lower h = omega arith

  positive : (r : Ref) → lv r ≡ 1 → 1 ≤ lv r
  positive r e = omega arith

  first_levels : HasLevels lv (first_state limits)
  unfolding first_state
  first_levels = record {
    nodes = first_stands (SlotLevel lv) limits.slots ok.0 (λ birth. ((branch_level ∙ sym root_level, positive (ref_to 2 1) root_level), tt))
        (λ birth. ((All-nil (EntryLevel lv (lv (ref_to 1 0))), positive (ref_to 1 0) branch_level), tt));
    words = first_words (WordLevel lv) _ root_level;
    lines = λ k operation found. absurd (none_found limits.actors k operation found);
  }

-- the levels of a run
abbrev pub levels_of : Bounds → List Step → Ref → ℕ
levels_of limits steps = levels_from (first_state limits) steps

-- what the first state has, and each step keeps that gives what it makes its level
pub along_levels : (limits : Bounds) (ok : AreBounds limits) (steps : List Step) (P : State → Type 0) → P (first_state limits) →
    ((state : State) → IsSafe state → P state → (s : Step) (o : Outcome) (after : State) → Moves state s o after → GivesLevel (levels_of limits steps) state s → P after) → P (run limits steps)
along_levels limits ok steps P first keeps = kept_along (levels_of limits steps) P keeps steps (first_state limits) (safe_at_first limits ok) first (λ r high. refl)

-- the same at each time of the steps that are taken, where one function gives the levels for all times
pub levels_at : (limits : Bounds) (ok : AreBounds limits) (steps : List Step) (P : State → Type 0) → P (first_state limits) →
    ((state : State) → IsSafe state → P state → (s : Step) (o : Outcome) (after : State) → Moves state s o after → GivesLevel (levels_of limits (taken_steps limits steps)) state s → P after) →
    (t : ℕ) → P (states_of limits steps t)
levels_at limits ok steps P first keeps =
    kept_at (levels_of limits (taken_steps limits steps)) P keeps (taken_steps limits steps) (first_state limits) (safe_at_first limits ok) first (λ r high. refl)

pub levels_at_first : (limits : Bounds) (ok : AreBounds limits) (steps : List Step) → HasLevels (levels_of limits steps) (first_state limits)
levels_at_first limits ok steps = first_levels limits ok (levels_of limits steps) (old_level steps (first_state limits) (safe_at_first limits ok))

pub has_levels : (limits : Bounds) → AreBounds limits → (steps : List Step) → HasLevels (levels_of limits steps) (run limits steps)
has_levels limits ok steps =
    along_levels limits ok steps (HasLevels (levels_of limits steps)) (levels_at_first limits ok steps)
    (λ state I h s o after m gives. levels_after (levels_of limits steps) state I h s o after m gives)

-- One step of a call that runs alone: the state in which it stands, and what a step makes of that.
use Rattle.std.proofs.Common.{◌≡◌, ℕ, zero, suc, ◌+◌, ◌-◌, ◌<◌, ◌≤◌, Bool, true, false, not, is_some, List, [], ◌∷◌, ◌++◌, flat_map, length, set, Option, Some, None, Ok}
use Rattle.std.proofs.Common.{refl, sym, ap, ◌∙◌, arith}
use Rattle.std.specs.List.{list_any}
use Rattle.std.proofs.lemmas.Bool.{false≢true, true≢false, lt-leb}
use Rattle.std.proofs.lemmas.List.{set-set, append-nil, get_or-set_same}
use Rattle.proof_straight.specs.Beneath.ctrie_base.specs.declared.refusals.Refusal.TheVariants as refuse
use Rattle.proof_straight.specs.Vocabulary.{Reply, Ref, Heap, taken, limbo_after, Action, Line, Operation, handle_of, GoesOn, verdict, State, operation_of, with_operation, action_of, kind_of, acted}
use Rattle.proof_straight.specs.Vocabulary.{published, decided, operation_after, outside, refs_of_root, refs_of_operation, settled, next, first_reason, go_denial, go_unless, go_on, step_by, is_busy}
use Rattle.proof_straight.specs.Vocabulary.{entrant_of, progress_of, told_by, told_in, told_of}
use Rattle.machine_model.specs.declared.actions.Action.TheVariants as act
use Rattle.machine_model.specs.declared.steps.Outcome.TheVariants as outcome
use Rattle.machine_model.specs.declared.steps.Step.TheVariants as step
use Rattle.machine_model.specs.declared.records.Told.TheVariants as told
use Rattle.machine_model.proofs.Actors.{actor_by}
use Rattle.proof_straight.specs.Drafts.{Draft, held_with, redrafted}

-- ---- lists of what actors run

none_held : (xs : List (Option Operation)) → list_any is_some xs ≡ false → flat_map refs_of_operation xs ≡ []
none_held [] rest = refl
none_held (None ∷ xs) rest = none_held xs rest
none_held (Some other ∷ xs) rest = absurd (true≢false rest)

-- where nobody else runs only the call's own slots are held
held_alone : (xs : List (Option Operation)) (k : ℕ) (operation : Operation) → list_any is_some xs ≡ false → k < length xs →
    flat_map refs_of_operation (set xs k (Some operation)) ≡ operation.private
held_alone [] k operation rest within = absurd (omega (arith, within))
held_alone (Some other ∷ xs) k operation rest within = absurd (true≢false rest)
held_alone (None ∷ xs) zero operation rest within = ap (λ rs. operation.private ++ rs) (none_held xs rest) ∙ append-nil operation.private
held_alone (None ∷ xs) (suc k) operation rest within = held_alone xs k operation rest (omega (arith, within))

-- where nobody ran, who ended leaves all as it was
none_again : (xs : List (Option Operation)) (k : ℕ) → list_any is_some xs ≡ false → set xs k None ≡ xs
none_again [] k rest = refl
none_again (Some other ∷ xs) k rest = absurd (true≢false rest)
none_again (None ∷ xs) zero rest = refl
none_again (None ∷ xs) (suc k) rest = ap (λ l. None ∷ l) (none_again xs k rest)

-- ---- the state of a call that runs alone

-- the actor is one of the machine's, and nobody runs
pub record Alone (base : State) (k : ℕ) : Type 0 where
  pub actor : suc k ≤ base.limits.actors
  pub within : k < length base.actors
  pub rest : is_busy base ≡ false

-- the operation, with the slots of this draft, on this line
abbrev pub on_line : Operation → Draft → Line → Operation
on_line operation draft l = record operation { private = draft.private; line = l }

-- the state in which it runs alone, over one at rest, before the step of this number
abbrev pub stand : State → ℕ → Draft → Operation → ℕ → State
stand base k draft operation n =
    record base { heap = draft.heap; limbo = draft.limbo; actors = set base.actors k (Some operation); begun = base.begun + 1; steps = n }

-- limbo is up to date
abbrev pub IsCalm : State → Draft → Type 0
IsCalm base draft = limbo_after draft.heap (held_with base draft.private) base.epoch draft.limbo ≡ draft.limbo

no_reason : (a b c : Bool) → a ≡ true → b ≡ true → c ≡ false → first_reason ((not a, refuse.NoActor) ∷ (not b, refuse.Idle) ∷ (c, refuse.Spent) ∷ []) ≡ None
no_reason true true false ea eb ec = refl
no_reason true true true ea eb ec = absurd (true≢false ec)
no_reason true false c ea eb ec = absurd (false≢true eb)
no_reason false b c ea eb ec = absurd (false≢true ea)

-- what an action makes of the heap, where it changes nothing else
abbrev pub heap_by : Heap → Action → Heap
heap_by heap (act.Make node) = taken heap node
heap_by heap (act.Publish indirection replaced fresh) = published heap indirection replaced fresh
heap_by heap (act.Decide indirection main previous told) = decided heap main previous (verdict heap indirection main previous told)
heap_by heap action = heap

-- it changes the heap alone
abbrev pub IsPlain : Action → Type 0
IsPlain act.ReadRoot = Unit {0}
IsPlain (act.ReadMain indirection) = Unit {0}
IsPlain (act.ReadPrev main) = Unit {0}
IsPlain (act.Look at) = Unit {0}
IsPlain (act.Make node) = Unit {0}
IsPlain (act.Publish indirection replaced fresh) = Unit {0}
IsPlain (act.Decide indirection main previous told) = Unit {0}
IsPlain action = ⊥

acted_plain : (state : State) (handle : ℕ) (action : Action) → IsPlain action → acted state handle action ≡ record state { heap = heap_by state.heap action }
acted_plain state handle act.ReadRoot plain = refl
acted_plain state handle (act.ReadMain indirection) plain = refl
acted_plain state handle (act.ReadPrev main) plain = refl
acted_plain state handle (act.Look at) plain = refl
acted_plain state handle (act.Make node) plain = refl
acted_plain state handle (act.Publish indirection replaced fresh) plain = refl
acted_plain state handle (act.Decide indirection main previous told) plain = refl
acted_plain state handle action plain = absurd plain

-- what a step of an action that isn't the end comes to
pub goes_by : (state : State) (actor : ℕ) (operation after : Operation) (action : Action) → GoesOn action → action_of state operation ≡ action → operation_after state operation ≡ after →
    step_by state actor operation action
    ≡ Ok (outcome.Went (kind_of action), settled state (acted (with_operation state actor (Some after)) (handle_of operation.call) action))
goes_by state actor operation after (act.End answer) on is becomes = absurd on
goes_by state actor operation after action on is becomes =
    ap (λ o. Ok (outcome.Went (kind_of action), settled state (acted (with_operation state actor (Some o)) (handle_of operation.call) (action_of state operation)))) becomes
    ∙ ap (λ a. Ok (outcome.Went (kind_of action), settled state (acted (with_operation state actor (Some after)) (handle_of operation.call) a))) is

pub plain_goes : (action : Action) → IsPlain action → GoesOn action
plain_goes (act.End answer) plain = plain
plain_goes action plain = tt

-- what a step of an action that isn't the end tells
tells_by : (state : State) (actor : ℕ) (operation : Operation) (action : Action) → GoesOn action → told_by state actor operation action ≡ told.Went actor (progress_of state operation)
tells_by state actor operation (act.End answer) on = absurd on
tells_by state actor operation action on = refl

module _ (base : State) (k : ℕ) (alone : Alone base k) where
  pub held_standing : (draft : Draft) (operation : Operation) (n : ℕ) → outside (stand base k draft operation n) ≡ held_with base operation.private
  held_standing draft operation n =
      ap (λ rs. flat_map refs_of_root base.roots ++ rs) (held_alone base.actors k operation alone.rest alone.within)
      ∙ ap (λ rs. rs ++ operation.private) (sym (append-nil _) ∙ ap (λ rs. flat_map refs_of_root base.roots ++ rs) (sym (none_held base.actors alone.rest)))

  runs : (draft : Draft) (operation : Operation) (n : ℕ) → operation_of (stand base k draft operation n) (suc k) ≡ Some operation
  runs draft operation n = get_or-set_same base.actors k (Some operation) None alone.within

  allowed : (draft : Draft) (operation : Operation) (n : ℕ) → n < base.limits.steps → go_denial (stand base k draft operation n) (suc k) ≡ None
  allowed draft operation n left =
      no_reason _ _ _ (actor_by (suc k) base.limits.actors (omega arith) alone.actor) (ap is_some (runs draft operation n)) (lt-leb base.limits.steps n left)

  -- its next step is what its action does
  pub steps_by : (draft : Draft) (operation : Operation) (n : ℕ) → n < base.limits.steps → (action : Action) → action_of (stand base k draft operation n) operation ≡ action →
      next (stand base k draft operation n) (step.Go (suc k)) ≡ step_by (stand base k draft operation n) (suc k) operation action
  unfolding next
  steps_by draft operation n left action is =
      ap (λ d. go_unless (stand base k draft operation n) (suc k) d) (allowed draft operation n left)
      ∙ ap (λ o. go_on (stand base k draft operation n) (suc k) o) (runs draft operation n) ∙ ap (λ a. step_by (stand base k draft operation n) (suc k) operation a) is

  -- what its next step tells
  pub tells_so : (draft : Draft) (operation : Operation) (n : ℕ) (action : Action) → GoesOn action → action_of (stand base k draft operation n) operation ≡ action →
      told_in (stand base k draft operation n) (step.Go (suc k)) ≡ told.Went (suc k) (progress_of (stand base k draft operation n) operation)
  tells_so draft operation n action on is =
      let state = stand base k draft operation n in
      ap (λ o. told_of state (suc k) o) (runs draft operation n) ∙ ap (λ a. told_by state (suc k) operation a) is ∙ tells_by state (suc k) operation action on

  pub tells_end : (draft : Draft) (operation : Operation) (n : ℕ) (answer : Reply) → action_of (stand base k draft operation n) operation ≡ act.End answer →
      told_in (stand base k draft operation n) (step.Go (suc k)) ≡ told.Ended (suc k) (entrant_of operation) answer
  tells_end draft operation n answer is =
      let state = stand base k draft operation n in
      ap (λ o. told_of state (suc k) o) (runs draft operation n) ∙ ap (λ a. told_by state (suc k) operation a) is

  -- the state behind a step that leaves this heap and this operation
  settles : (draft : Draft) (operation after : Operation) (n : ℕ) (heap : Heap) (newest : Ref) →
      settled (stand base k draft operation n) (record (with_operation (stand base k draft operation n) (suc k) (Some after)) { heap = heap })
      ≡ stand base k (redrafted base draft heap after.private newest) after (n + 1)
  settles draft operation after n heap newest =
      ap (λ xs. left_by xs (flat_map refs_of_root base.roots ++ flat_map refs_of_operation xs)) again
      ∙ ap (λ held. left_by (set base.actors k (Some after)) held) (held_standing draft after n)
    where
      left_by : List (Option Operation) → List Ref → State
      left_by xs held = record base { heap = heap; limbo = limbo_after heap held base.epoch draft.limbo; actors = xs; begun = base.begun + 1; steps = n + 1 }

      index : suc k - 1 ≡ k
      index = omega arith

      again : set (set base.actors k (Some operation)) (suc k - 1) (Some after) ≡ set base.actors k (Some after)
      again = ap (λ i. set (set base.actors k (Some operation)) i (Some after)) index ∙ set-set base.actors k (Some operation) (Some after)

  -- a step that changes the heap alone
  pub steps_plainly : (draft : Draft) (operation after : Operation) (n : ℕ) (newest : Ref) → n < base.limits.steps → (action : Action) → IsPlain action →
      action_of (stand base k draft operation n) operation ≡ action → operation_after (stand base k draft operation n) operation ≡ after →
      next (stand base k draft operation n) (step.Go (suc k))
      ≡ Ok (outcome.Went (kind_of action), stand base k (redrafted base draft (heap_by draft.heap action) after.private newest) after (n + 1))
  steps_plainly draft operation after n newest left action plain is becomes =
      let state = stand base k draft operation n in
      steps_by draft operation n left action is ∙ goes_by state (suc k) operation after action (plain_goes action plain) is becomes
      ∙ ap (λ s. Ok (outcome.Went (kind_of action), settled state s)) (acted_plain (with_operation state (suc k) (Some after)) (handle_of operation.call) action plain)
      ∙ ap (λ s. Ok (outcome.Went (kind_of action), s)) (settles draft operation after n (heap_by draft.heap action) newest)

  -- the end leaves the state at rest, with this draft
  pub ends_by : (draft : Draft) (operation : Operation) (n : ℕ) (answer : Reply) → n < base.limits.steps → draft.private ≡ [] → operation.private ≡ [] → IsCalm base draft →
      action_of (stand base k draft operation n) operation ≡ act.End answer →
      next (stand base k draft operation n) (step.Go (suc k))
      ≡ Ok (outcome.Ended operation.id answer, record base { heap = draft.heap; limbo = draft.limbo; begun = base.begun + 1; steps = n + 1 })
  ends_by draft operation n answer left none own calm is =
      steps_by draft operation n left (act.End answer) is ∙ ap (λ xs. Ok (outcome.Ended operation.id answer, left_by xs)) at_rest
      ∙ ap (λ l. Ok (outcome.Ended operation.id answer, record base { heap = draft.heap; limbo = l; begun = base.begun + 1; steps = n + 1 })) (held_so ∙ calm)
    where
      left_by : List (Option Operation) → State
      left_by xs = record base {
        heap = draft.heap;
        limbo = limbo_after draft.heap (flat_map refs_of_root base.roots ++ flat_map refs_of_operation xs) base.epoch draft.limbo;
        actors = xs;
        begun = base.begun + 1;
        steps = n + 1;
      }

      index : suc k - 1 ≡ k
      index = omega arith

      at_rest : set (set base.actors k (Some operation)) (suc k - 1) None ≡ base.actors
      at_rest = ap (λ i. set (set base.actors k (Some operation)) i None) index ∙ set-set base.actors k (Some operation) None ∙ none_again base.actors k alone.rest

      held_so : limbo_after draft.heap (outside base) base.epoch draft.limbo ≡ limbo_after draft.heap (held_with base draft.private) base.epoch draft.limbo
      held_so = ap (λ held. limbo_after draft.heap held base.epoch draft.limbo) (sym (append-nil (outside base)) ∙ ap (λ p. outside base ++ p) (sym none))

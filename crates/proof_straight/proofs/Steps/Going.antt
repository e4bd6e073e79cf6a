-- A call that runs alone, from its begin to its end, by what its steps do to its draft.
use Rattle.std.proofs.Common.{length-set, ◌≡◌, ℕ, suc, ◌+◌, ◌-◌, ◌≤◌, false, cond, List, [], set, Option, Some, None, Ok, refl, ap, ◌∙◌, subst, arith, length, ◌<◌}
use Rattle.proof_straight.specs.Vocabulary.{Call, Reply, Node, Ref, next_ref, limbo_after, Action, Line, Operation, handle_of, is_close, State, with_operation, with_root, action_of}
use Rattle.proof_straight.specs.Vocabulary.{generation_after, line_after, operation_after, private_after, attempt_after, mark_after, outside, settled, next, begin_denial, begin_unless}
use Rattle.proof_straight.specs.Vocabulary.{begun_operation, with_begin, Progress, Record, no_moment, noted, noted_end, noted_progress, entrant_of, progress_of, told_in}
use Rattle.machine_model.specs.declared.actions.Action.TheVariants as act
use Rattle.machine_model.specs.declared.lines.Line.TheVariants as line
use Rattle.machine_model.specs.declared.steps.Outcome.TheVariants as outcome
use Rattle.machine_model.specs.declared.steps.Step.TheVariants as step
use Rattle.proof_straight.specs.Drafts.{Draft, first_draft, held_with, redrafted, with_made, next_made}
use Rattle.proof_straight.specs.Recorded.{moment_of}
use Rattle.proof_straight.specs.Running.{GoesAlone, begins, goes, ComesTo}
use Rattle.proof_straight.proofs.Steps.Alone.{Alone, IsCalm, IsPlain, heap_by, on_line, stand, ends_by, held_standing, plain_goes, steps_plainly, tells_end, tells_so}
use Rattle.proof_straight.proofs.Steps.Noting.{noted_quiet, quiet, with_read}

-- it leaves the heap as it is
abbrev pub IsStill : Action → Type 0
IsStill act.ReadRoot = Unit {0}
IsStill (act.ReadMain indirection) = Unit {0}
IsStill (act.ReadPrev main) = Unit {0}
IsStill (act.Look at) = Unit {0}
IsStill action = ⊥

still_plain : (action : Action) → IsStill action → IsPlain action
still_plain act.ReadRoot still = tt
still_plain (act.ReadMain indirection) still = tt
still_plain (act.ReadPrev main) still = tt
still_plain (act.Look at) still = tt
still_plain action still = absurd still

-- such a step changes nothing of the operation but its line, and the generation of its root
abbrev pub carried_on : State → Operation → Action → Operation
carried_on state operation action = record operation {
  private = private_after state operation.private action;
  attempt = attempt_after operation.attempt action;
  is_marked = mark_after operation.is_marked action;
  generation = generation_after state operation;
  line = line_after state operation operation.line;
}

carries_on : (state : State) (operation : Operation) (action : Action) → IsStill action →
    carried_on state operation action ≡ record operation { generation = generation_after state operation; line = line_after state operation operation.line }
carries_on state operation act.ReadRoot still = refl
carries_on state operation (act.ReadMain indirection) still = refl
carries_on state operation (act.ReadPrev main) still = refl
carries_on state operation (act.Look at) still = refl
carries_on state operation action still = absurd still

-- what is recorded behind the begin
abbrev pub begun_record : State → Record → ℕ → Call → Record
begun_record state past k call = noted past state.steps (told_in state (step.Begin (suc k) call None))

-- it has a place for what the actor reads
pub read_fits : (state : State) (past : Record) (k : ℕ) (call : Call) (step : ℕ) (main : Ref) → k < length past.moments →
    k < length (with_read (begun_record state past k call) k step main).moments
read_fits state past k call step main fits =
    omega (arith, fits, length-set past.moments (suc k - 1) no_moment, length-set (begun_record state past k call).moments k (moment_of (begun_record state past k call) step main))

module _ (state : State) (past : Record) (k : ℕ) (call : Call) where
  -- The call has gone on alone for so many steps, if the machine takes them: then the operation is this one, with this draft, over this state, and this is
  -- recorded.
  abbrev pub Stands : Record → State → Draft → Operation → ℕ → Type 0
  Stands so_far base draft operation c = state.steps + suc c ≤ base.limits.steps → GoesAlone state past (suc k) call c (stand base k draft operation (state.steps + suc c)) so_far

  module _ (base : State) (alone : Alone base k) where
    -- a step that changes the heap alone, and tells this
    pub changes : {so_far : Record} (draft : Draft) (operation after : Operation) (c : ℕ) (newest : Ref) (action : Action) (p : Progress) → IsPlain action → Stands so_far base draft operation c →
        action_of (stand base k draft operation (state.steps + suc c)) operation ≡ action →
        progress_of (stand base k draft operation (state.steps + suc c)) operation ≡ p →
        operation_after (stand base k draft operation (state.steps + suc c)) operation ≡ after →
        Stands (noted_progress so_far (state.steps + suc c) (suc k) p) base (redrafted base draft (heap_by draft.heap action) after.private newest) after (suc c)
    changes {so_far} draft operation after c newest action p plain before is tells becomes left =
        subst (λ r. GoesAlone state past (suc k) call (suc c) (stand base k (redrafted base draft (heap_by draft.heap action) after.private newest) after (state.steps + suc (suc c))) r)
        (ap (λ t. noted so_far (state.steps + suc c) t) (tells_so base k alone draft operation (state.steps + suc c) action (plain_goes action plain) is)
        ∙ ap (λ q. noted_progress so_far (state.steps + suc c) (suc k) q) tells)
        (subst (λ n. GoesAlone state past (suc k) call (suc c) (stand base k (redrafted base draft (heap_by draft.heap action) after.private newest) after n)
        (noted so_far (state.steps + suc c) (told_in (stand base k draft operation (state.steps + suc c)) (step.Go (suc k))))) one_more
        (goes (before (omega (arith, left))) (steps_plainly base k alone draft operation after (state.steps + suc c) newest (omega (arith, left)) action plain is becomes)))
      where
        one_more : state.steps + suc c + 1 ≡ state.steps + suc (suc c)
        one_more = omega arith

    -- a step that changes nothing but the line
    pub stays : {so_far : Record} (draft : Draft) (operation after : Operation) (l m : Line) (c : ℕ) (action : Action) (p : Progress) → IsStill action → IsCalm base draft →
        Stands so_far base draft (on_line operation draft l) c →
        action_of (stand base k draft (on_line operation draft l) (state.steps + suc c)) (on_line operation draft l) ≡ action →
        progress_of (stand base k draft (on_line operation draft l) (state.steps + suc c)) (on_line operation draft l) ≡ p →
        operation_after (stand base k draft (on_line operation draft l) (state.steps + suc c)) (on_line operation draft l) ≡ on_line after draft m →
        Stands (noted_progress so_far (state.steps + suc c) (suc k) p) base draft (on_line after draft m) (suc c)
    stays {so_far} draft operation after l m c action p still calm before is tells becomes =
        subst (λ d. Stands (noted_progress so_far (state.steps + suc c) (suc k) p) base d (on_line after draft m) (suc c)) (same action still)
        (changes draft (on_line operation draft l) (on_line after draft m) c draft.newest action p (still_plain action still) before is tells becomes)
      where
        same : (action : Action) → IsStill action → redrafted base draft (heap_by draft.heap action) draft.private draft.newest ≡ draft
        same act.ReadRoot still = ap (λ l. record draft { limbo = l }) calm
        same (act.ReadMain indirection) still = ap (λ l. record draft { limbo = l }) calm
        same (act.ReadPrev main) still = ap (λ l. record draft { limbo = l }) calm
        same (act.Look at) still = ap (λ l. record draft { limbo = l }) calm
        same action still = absurd still

    -- the same, by the line that comes after it
    pub reads : {so_far : Record} (draft : Draft) (operation : Operation) (l m : Line) (c : ℕ) (p : Progress) → IsCalm base draft → Stands so_far base draft (on_line operation draft l) c →
        IsStill (action_of (stand base k draft (on_line operation draft l) (state.steps + suc c)) (on_line operation draft l)) →
        progress_of (stand base k draft (on_line operation draft l) (state.steps + suc c)) (on_line operation draft l) ≡ p →
        generation_after (stand base k draft (on_line operation draft l) (state.steps + suc c)) (on_line operation draft l) ≡ operation.generation →
        line_after (stand base k draft (on_line operation draft l) (state.steps + suc c)) (on_line operation draft l) l ≡ m →
        Stands (noted_progress so_far (state.steps + suc c) (suc k) p) base draft (on_line operation draft m) (suc c)
    reads draft operation l m c p calm before still tells generation leads =
        stays draft operation operation l m c _ p still calm before refl tells
        (carries_on (stand base k draft (on_line operation draft l) (state.steps + suc c)) (on_line operation draft l) _ still
        ∙ ap (λ (g : Option ℕ). record (on_line operation draft l) {
          generation = g;
          line = line_after (stand base k draft (on_line operation draft l) (state.steps + suc c))
              (on_line operation draft l) l;
        }) generation
        ∙ ap (λ l. on_line operation draft l) leads)

    -- of a step that tells nothing nothing is recorded
    pub unnoted : {so_far : Record} (draft : Draft) (operation : Operation) (c n : ℕ) → Stands (noted_progress so_far n (suc k) quiet) base draft operation c → Stands so_far base draft operation c
    unnoted {so_far} draft operation c n h = subst (λ r. Stands r base draft operation c) (noted_quiet so_far n k) h

    -- a step that looks at something
    pub looks : {so_far : Record} (draft : Draft) (operation : Operation) (l m : Line) (c : ℕ) → IsCalm base draft → Stands so_far base draft (on_line operation draft l) c →
        IsStill (action_of (stand base k draft (on_line operation draft l) (state.steps + suc c)) (on_line operation draft l)) →
        progress_of (stand base k draft (on_line operation draft l) (state.steps + suc c)) (on_line operation draft l) ≡ quiet →
        generation_after (stand base k draft (on_line operation draft l) (state.steps + suc c)) (on_line operation draft l) ≡ operation.generation →
        line_after (stand base k draft (on_line operation draft l) (state.steps + suc c)) (on_line operation draft l) l ≡ m →
        Stands so_far base draft (on_line operation draft m) (suc c)
    looks draft operation l m c calm before still tells generation leads =
        unnoted draft (on_line operation draft m) (suc c) (state.steps + suc c) (reads draft operation l m c quiet calm before still tells generation leads)

    -- a step that makes a node
    pub makes : {so_far : Record} (draft : Draft) (operation after : Operation) (l m : Line) (c : ℕ) (node : Node) → next_ref draft.heap ≡ Some (next_made draft.heap) →
        Stands so_far base draft (on_line operation draft l) c →
        action_of (stand base k draft (on_line operation draft l) (state.steps + suc c)) (on_line operation draft l) ≡ act.Make node →
        progress_of (stand base k draft (on_line operation draft l) (state.steps + suc c)) (on_line operation draft l) ≡ quiet →
        operation_after (stand base k draft (on_line operation draft l) (state.steps + suc c)) (on_line operation draft l) ≡ on_line after (with_made base draft node) m →
        Stands so_far base (with_made base draft node) (on_line after (with_made base draft node) m) (suc c)
    makes draft operation after l m c node drawn before is tells becomes =
        unnoted (with_made base draft node) (on_line after (with_made base draft node) m) (suc c) (state.steps + suc c)
        (changes draft (on_line operation draft l) (on_line after (with_made base draft node) m) c (next_made draft.heap) (act.Make node) quiet tt before is tells becomes)

    -- the end
    pub ends_so : {so_far : Record} (draft : Draft) (operation : Operation) (c : ℕ) (answer : Reply) → Stands so_far base draft (on_line operation draft (line.End answer)) c → draft.private ≡ [] →
        IsCalm base draft → state.steps + c + 2 ≤ base.limits.steps → operation.id ≡ state.begun →
        ComesTo state past (suc k) call c answer (record base { heap = draft.heap; limbo = draft.limbo; begun = base.begun + 1; steps = state.steps + (c + 2) })
        (noted_end so_far (suc k) (entrant_of operation) answer)
    ends_so {so_far} draft operation c answer before none calm lasts id = record {
      last = stand base k draft (on_line operation draft (line.End answer)) (state.steps + suc c);
      so_far = so_far;
      goes = before (omega (arith, lasts));
      ends =
          ends_by base k alone draft (on_line operation draft (line.End answer)) (state.steps + suc c) answer (omega (arith, lasts)) none none calm refl
          ∙ ap (λ i. Ok (outcome.Ended i answer, record base { heap = draft.heap; limbo = draft.limbo; begun = base.begun + 1; steps = state.steps + suc c + 1 })) id
          ∙ ap (λ n. Ok (outcome.Ended state.begun answer, record base { heap = draft.heap; limbo = draft.limbo; begun = base.begun + 1; steps = n })) all_steps;
      records = ap (λ t. noted so_far (state.steps + suc c) t) (tells_end base k alone draft (on_line operation draft (line.End answer)) (state.steps + suc c) answer refl);
    }
      where
        all_steps : state.steps + suc c + 1 ≡ state.steps + (c + 2)
        all_steps = omega arith

  -- the begin
  pub begins_so : Alone state k → IsCalm state (first_draft state) → begin_denial state (suc k) call None ≡ None → is_close call ≡ false →
      Stands (begun_record state past k call) state (first_draft state) (begun_operation state call None) 0
  unfolding next
  begins_so alone calm allowed stays_open left = begins (
      ap (λ d. begin_unless state (suc k) call None d) allowed ∙ ap (λ s. Ok (outcome.Began state.begun, settled state s)) opened ∙ ap (λ held. Ok (outcome.Began state.begun, left_by held)) held
      ∙ ap (λ l. Ok (outcome.Began state.begun, stand state k (record (first_draft state) { limbo = l }) operation (state.steps + 1))) calm)
    where
      operation : Operation
      operation = begun_operation state call None

      left_by : List Ref → State
      left_by held = record state {
        limbo = limbo_after state.heap held state.epoch state.limbo;
        actors = set state.actors k (Some operation);
        begun = state.begun + 1;
        steps = state.steps + 1;
      }

      index : suc k - 1 ≡ k
      index = omega arith

      opened : with_begin state (suc k) call operation ≡ record state { actors = set state.actors k (Some operation); begun = state.begun + 1 }
      opened =
          ap (λ b. record (with_operation (cond b (with_root state (handle_of call) None) state) (suc k) (Some operation)) { begun = state.begun + 1 }) stays_open
          ∙ ap (λ i. record state { actors = set state.actors i (Some operation); begun = state.begun + 1 }) index

      held : outside (record state { actors = set state.actors k (Some operation) }) ≡ held_with state []
      held = held_standing state k alone (first_draft state) operation 0

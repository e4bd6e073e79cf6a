-- The numbers of a machine are bounded along each run.
use Rattle.std.proofs.Common.{◌≡◌, ℕ, ◌+◌, ◌*◌, ◌≤◌, false, length, List, [], ◌∷◌, ◌++◌, Option, Some, None, Ok, refl, sym, ap, ◌∙◌, subst, arith, leb-false, map}
use Rattle.proof_core.specs.Vocabulary.{Call, Ref, Node, Action, Operation, Bounds, Outcome, Step, handle_of, Heap, empty_branch, with_main, with_prev, taken, take_from, freed, ref_to, Indirection}
use Rattle.proof_core.specs.Vocabulary.{State, empty_heap, first_state, action_of, Prev, Reclaimer, ripe, sweep_by, acted, new_root_taken, attempt_after, operation_after, next, next_state}
use Rattle.proof_core.specs.Vocabulary.{state_after, is_spent, begin_denial, go_denial, with_begin, pin_of, reclaimer_of, run, run_from, AreBounds, longest_life, most_actors, most_slots, Begins}
use Rattle.proof_core.specs.Vocabulary.{Ends, Sweeps, Moves, begun_operation, FitsKey, GivesUp, IsOfRun}
use Rattle.proof_core.specs.Beneath.machine_model.specs.declared.actions.Action.TheVariants as act
use Rattle.proof_core.specs.Beneath.machine_model.specs.declared.steps.Step.TheVariants as step
use Rattle.std.proofs.lemmas.List.FromFn.{length-range_with_len}
use Rattle.proof_core.specs.Beneath.slot_arena.specs.declared.nodes.Prev.TheVariants as prev
use Rattle.proof_core.specs.Beneath.machine_model.proofs.Along.{along, run_push, kept_by_moves}
use Rattle.proof_core.specs.Beneath.machine_model.proofs.Actors.{mark_one, mark_only, marks_by, marks_in}
use Rattle.proof_core.specs.Beneath.machine_model.proofs.EachOperation.{OfEach, of_each_along, of_running}
use Rattle.proof_core.specs.Beneath.machine_model.proofs.Frames.{acted_framed, limits_kept, steps_counted}
use Rattle.proof_core.specs.Beneath.machine_model.proofs.HeapMoves.{HeapMoves, Stays, Takes, Publishes, Restores, Commit, Fail, Frees, heap_moves}
use Rattle.proof_core.specs.Beneath.machine_model.specs.Moves.{Goes}
use Rattle.proof_core.specs.Beneath.machine_model.proofs.Slots.{sound_along}
use Rattle.proof_core.specs.Beneath.proof_memory.proofs.Safety.Steps.{gone_epoch}
use Rattle.proof_core.specs.Beneath.proof_generations.proofs.Counter.Drawn.{aborted_generations, completed_generations, offered_generations}
use Rattle.proof_core.specs.Bounds.{IsBounded, AreInRange}
use Rattle.std.proofs.lemmas.List.Elements.{All-nil, All-push}

-- ---- steps

-- a begin that isn't denied is of a machine that isn't spent
begin_unspent : (state : State) (actor : ℕ) (call : Call) (number : Option ℕ) → begin_denial state actor call number ≡ None → is_spent state ≡ false
begin_unspent state actor call number d = grind arith

-- so is a step that goes on
go_unspent : (state : State) (actor : ℕ) → go_denial state actor ≡ None → is_spent state ≡ false
go_unspent state actor d = grind arith

-- a step is taken only where the machine isn't spent
unspent : (state : State) (s : Step) (o : Outcome) (after : State) → Moves state s o after → is_spent state ≡ false
unspent state s o after (Begins {actor} {call} {number} d) = begin_unspent state actor call number d
unspent state s o after (Goes {actor} d is a g) = go_unspent state actor d
unspent state s o after (Ends {actor} d is a) = go_unspent state actor d
unspent state s o after (GivesUp {actor} d is a) = go_unspent state actor d
unspent state s o after (Sweeps spent) = spent

-- then one step more is within the limit
steps_after : (state : State) (s : Step) (o : Outcome) (after : State) → Moves state s o after → after.steps ≤ after.limits.steps
steps_after state s o after m =
    omega (arith, leb-false, unspent state s o after m, steps_counted state s o after m, ap (λ (l : Bounds). l.steps) (limits_kept state s o after m))

-- ---- births

-- taking a slot draws at most one
take_births : (heap : Heap) (node : Node) (free : List ℕ) → (take_from heap node free).births ≤ heap.births + 1
take_births heap node [] = omega arith
take_births heap node (slot ∷ free) = omega arith

pub taken_births : (heap : Heap) (node : Node) → (taken heap node).births ≤ heap.births + 1
unfolding taken
taken_births heap node = take_births heap node heap.free

pub taken_most : (before after : Heap) (node : Node) → after ≡ taken before node → after.births ≤ before.births + 1
taken_most before after node is = omega (arith, ap (λ (h : Heap). h.births) is, taken_births before node)

-- what a step that draws a birth adds to, and one that frees a slot
abbrev turnover : Heap → ℕ
turnover heap = 2 * heap.births + length heap.free

main_turnover : (heap : Heap) (r m : Ref) → turnover (with_main heap r m) ≡ turnover heap
unfolding with_main
main_turnover heap r m = refl

prev_turnover : (heap : Heap) (r : Ref) (p : Prev) → turnover (with_prev heap r p) ≡ turnover heap
unfolding with_prev
prev_turnover heap r p = refl

freed_turnover : (heap : Heap) (r : Ref) → turnover (freed heap r) ≡ turnover heap + 1
unfolding freed
freed_turnover heap r = omega arith

take_turnover : (heap : Heap) (node : Node) (free : List ℕ) → heap.free ≡ free → turnover (take_from heap node free) ≤ turnover heap + 1
take_turnover heap node [] is = omega arith
take_turnover heap node (slot ∷ free) is = omega (arith, ap length is)

taken_turnover : (heap : Heap) (node : Node) → turnover (taken heap node) ≤ turnover heap + 1
unfolding taken
taken_turnover heap node = take_turnover heap node heap.free refl

-- a step draws a birth, and takes a slot for it, or frees a slot, or does neither
heap_turnover : (heap : Heap) (due : Option Ref) (after : Heap) → HeapMoves heap due after → turnover after ≤ turnover heap + 1
heap_turnover heap due after Stays = omega arith
heap_turnover heap due after (Takes node) = taken_turnover heap node
heap_turnover heap due after (Publishes indirection replaced fresh e) =
    omega (arith, prev_turnover (with_main heap indirection fresh) fresh (prev.Pending replaced), main_turnover heap indirection fresh)
heap_turnover heap due after (Restores indirection main previous e) = omega (arith, main_turnover heap indirection previous)
heap_turnover heap due after (Commit indirection main previous told e) = omega (arith, prev_turnover heap main prev.None)
heap_turnover heap due after (Fail indirection main previous told e) = omega (arith, prev_turnover heap main (prev.Failed previous))
heap_turnover heap due after (Frees r e) = omega (arith, freed_turnover heap r)

-- ---- generations

root_taken_generations : (state : State) (main : Ref) (made : Option Ref) → (new_root_taken state main made).generations ≤ state.generations + 1
root_taken_generations state main None = omega arith
root_taken_generations state main (Some made) = omega arith

-- an action draws at most one
acted_generations : (state : State) (handle : ℕ) (action : Action) → (acted state handle action).generations ≤ state.generations + 1
acted_generations state handle (act.Abort offer) = omega (arith, aborted_generations state handle offer)
acted_generations state handle (act.Offer offer) = omega (arith, offered_generations state handle offer)
acted_generations state handle (act.Complete offer main) = omega (arith, completed_generations state handle offer main)
acted_generations state handle (act.MakeRoot main) = root_taken_generations state main _
acted_generations state handle action = omega arith

begin_generations : (state : State) (actor : ℕ) (call : Call) (operation : Operation) → (with_begin state actor call operation).generations ≡ state.generations
begin_generations state actor call operation = grind arith

generations_after : (state : State) (s : Step) (o : Outcome) (after : State) → Moves state s o after → after.generations ≤ state.generations + 1
generations_after state s o after (Begins {actor} {call} {number} d) = omega (arith, begin_generations state actor call (begun_operation state call number))
generations_after state s o after (Goes {actor} {operation} d is a g) = acted_generations _ (handle_of operation.call) (action_of state operation)
generations_after state s o after (Ends d is a) = omega arith
generations_after state s o after (GivesUp d is a) = omega arith
generations_after state s o after (Sweeps spent) = omega arith

-- ---- the epoch

begin_epoch : (state : State) (actor : ℕ) (call : Call) (operation : Operation) → (with_begin state actor call operation).epoch ≡ state.epoch
begin_epoch state actor call operation = grind arith

sweep_epoch : (pins : List (Option ℕ)) (r : Reclaimer) (due : Option Ref) → (sweep_by pins r due).1.epoch ≤ r.epoch + 1
sweep_epoch pins r due = grind arith

epoch_after : (state : State) (s : Step) (o : Outcome) (after : State) → Moves state s o after → after.epoch ≤ state.epoch + 1
epoch_after state s o after (Begins {actor} {call} {number} d) = omega (arith, begin_epoch state actor call (begun_operation state call number))
epoch_after state s o after (Goes {actor} {operation} d is a g) = omega (arith, gone_epoch state actor operation)
epoch_after state s o after (Ends d is a) = omega arith
epoch_after state s o after (GivesUp d is a) = omega arith
epoch_after state s o after (Sweeps spent) = sweep_epoch (map pin_of state.actors) (reclaimer_of state) (ripe state.epoch state.limbo)

-- ---- begins

-- whether a step begins an operation
abbrev pub one_if_begin : Step → ℕ
one_if_begin (step.Begin actor call number) = 1
one_if_begin (step.Go actor) = 0
one_if_begin (step.GiveUp actor) = 0
one_if_begin step.Sweep = 0

-- a begin is one more, and nothing else is
begins_after : (state : State) (s : Step) (o : Outcome) (after : State) → Moves state s o after → after.begun ≡ state.begun + one_if_begin s
begins_after state s o after (Begins {actor} {call} {number} d) = omega arith
begins_after state s o after (Goes {actor} {operation} d is a g) =
    (acted_framed _ (handle_of operation.call) (action_of state operation)).begun ∙ (let none : state.begun ≡ state.begun + 0 = omega arith in none)
begins_after state s o after (Ends d is a) = omega arith
begins_after state s o after (GivesUp d is a) = omega arith
begins_after state s o after (Sweeps spent) = omega arith

-- at most one
one_if_begin_most : (s : Step) → one_if_begin s ≤ 1
one_if_begin_most (step.Begin actor call number) = omega arith
one_if_begin_most (step.Go actor) = omega arith
one_if_begin_most (step.GiveUp actor) = omega arith
one_if_begin_most step.Sweep = omega arith

-- ---- attempts

-- the operation hasn't offered more often than steps were taken
abbrev FewAttempts : State → Operation → Type 0
FewAttempts state operation = operation.attempt ≤ state.steps

-- a mark changes no attempt
mark_attempt : (m : Option ℕ) (operation : Operation) → (mark_one m operation).attempt ≡ operation.attempt
mark_attempt m operation = ap (λ x. x.attempt) (mark_only m operation)

-- an action is at most one attempt more
attempt_most : (attempt : ℕ) (action : Action) → attempt_after attempt action ≤ attempt + 1
attempt_most attempt (act.Offer offer) = omega arith
attempt_most attempt action = omega arith

-- along each run
few_attempts : (limits : Bounds) (steps : List Step) → OfEach FewAttempts (run limits steps)
few_attempts limits =
    of_each_along limits FewAttempts
    (λ steps actor call number d. omega arith)
    (λ steps actor operation is g h.
    omega (
      arith,
      mark_attempt (marks_by (run limits steps) (Some operation)) (operation_after (run limits steps) operation),
      attempt_most operation.attempt (action_of (run limits steps) operation),
      h,
    ))
    (λ steps actor operation answer is may h. omega (arith, h))
    (λ steps s o after m k other operation at_k h.
    omega (arith, mark_attempt (marks_in (run limits steps) s) operation, steps_counted (run limits steps) s o after m, h))

-- ---- all of them

-- what each step keeps
record Grows (limits : Bounds) (state : State) : Type 0 where
  limits_same : state.limits ≡ limits
  steps : state.steps ≤ limits.steps
  births : turnover state.heap ≤ state.steps + limits.slots + 2
  generations : state.generations ≤ state.steps + 1
  epoch : state.epoch ≤ state.steps
  begins : state.begun ≤ state.steps

-- at first
grows_at_first : (limits : Bounds) → Grows limits (first_state limits)
unfolding first_state
grows_at_first limits = record {
  limits_same = refl;
  steps = omega arith;
  births = let once = taken_turnover (empty_heap limits.slots) empty_branch in
      let twice = taken_turnover (taken (empty_heap limits.slots) empty_branch) (Indirection 0 (ref_to 1 0)) in
      omega (arith, once, twice, length-range_with_len 0 limits.slots);
  generations = omega arith;
  epoch = omega arith;
  begins = omega arith;
}

-- after a step
grows_after : (limits : Bounds) (state : State) (s : Step) (o : Outcome) (after : State) → Moves state s o after → Grows limits state → Grows limits after
grows_after limits state s o after m h =
    let counted = steps_counted state s o after m in
    let same = limits_kept state s o after m in
    record {
      limits_same = same ∙ h.limits_same;
      steps = omega (arith, steps_after state s o after m, ap (λ (l : Bounds). l.steps) (same ∙ h.limits_same));
      births = omega (arith, heap_turnover state.heap (ripe state.epoch state.limbo) after.heap (heap_moves state s o after m), h.births, counted);
      generations = omega (arith, generations_after state s o after m, h.generations, counted);
      epoch = omega (arith, epoch_after state s o after m, h.epoch, counted);
      begins = omega (arith, begins_after state s o after m, one_if_begin_most s, h.begins, counted);
    }

-- along each run
grows_along : (limits : Bounds) (steps : List Step) → Grows limits (run limits steps)
grows_along limits = along limits (Grows limits) (grows_at_first limits) (λ steps s o after m h. grows_after limits (run limits steps) s o after m h)

-- after each run the numbers are bounded
bounded_along : (limits : Bounds) → AreBounds limits → limits.slots ≤ most_slots → limits.steps ≤ longest_life → (steps : List Step) → IsBounded (run limits steps)
bounded_along limits ok few life steps =
    let h = grows_along limits steps in
    let sound = sound_along limits ok steps in
    record {
      slots = omega (arith, sound.heap.size, few);
      steps = omega (arith, h.steps, life);
      births = omega (arith, h.births, sound.heap.size);
      generations = h.generations;
      epoch = h.epoch;
      attempts = λ actor operation is. of_running FewAttempts (run limits steps) (few_attempts limits steps) actor operation is;
      begins = h.begins;
    }

-- the state of a run is bounded
pub bounded : (state : State) → IsOfRun state → IsBounded state
bounded state h = subst IsBounded (sym h.is) (bounded_along state.limits h.limits h.few h.life h.steps)

-- ---- a step from a state of a run

-- a step keeps the limits
limits_on : (state : State) (s : Step) → (next_state state s).limits ≡ state.limits
limits_on state s = kept_by_moves (λ x. x.limits ≡ state.limits) state s refl (λ o after m. limits_kept state s o after m)

-- what a step leads to is a state of a run
run_on : (state : State) (s : Step) → FitsKey s → IsOfRun state → IsOfRun (next_state state s)
run_on state s fits h =
    let same = limits_on state s in
    record {
      steps = h.steps ++ s ∷ [];
      is = ap (λ x. next_state x s) h.is ∙ sym (run_push (first_state state.limits) h.steps s) ∙ ap (λ l. run l (h.steps ++ s ∷ [])) (sym same);
      limits = subst (λ l. AreBounds l) (sym same) h.limits;
      few = subst (λ (l : Bounds). l.slots ≤ most_slots) (sym same) h.few;
      actors = subst (λ (l : Bounds). l.actors ≤ most_actors) (sym same) h.actors;
      life = subst (λ (l : Bounds). l.steps ≤ longest_life) (sym same) h.life;
      keys = All-push FitsKey h.steps s h.keys fits;
    }

-- so is what a step that is taken comes to
pub taken_run : (before after : State) (s : Step) (o : Outcome) → next before s ≡ Ok (o, after) → FitsKey s → IsOfRun before → IsOfRun after
taken_run before after s o e fits h = subst IsOfRun (ap (λ a. state_after before a) e) (run_on before s fits h)

-- the first state is one of a run
pub first_run : (limits : Bounds) (state : State) → AreInRange limits → state ≡ first_state limits → IsOfRun state
unfolding first_state run_from
first_run limits state ok e = record {
  steps = [];
  is = e ∙ ap first_state (sym (ap (λ x. x.limits) e));
  limits = subst (λ l. AreBounds l) (sym (ap (λ x. x.limits) e)) ok.0;
  few = subst (λ (l : Bounds). l.slots ≤ most_slots) (sym (ap (λ x. x.limits) e)) ok.3;
  actors = subst (λ (l : Bounds). l.actors ≤ most_actors) (sym (ap (λ x. x.limits) e)) ok.1;
  life = subst (λ (l : Bounds). l.steps ≤ longest_life) (sym (ap (λ x. x.limits) e)) ok.2;
  keys = All-nil FitsKey;
}

-- and so are the steps, by the bounds themselves
pub steps_within : (state : State) → IsOfRun state → state.steps ≤ state.limits.steps
steps_within state h = omega (arith, (grows_along state.limits h.steps).steps, ap (λ (s : State). s.steps) h.is)

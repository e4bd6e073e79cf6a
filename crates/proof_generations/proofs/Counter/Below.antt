-- Along a run: all generations are below the counter.
use Rattle.std.proofs.Common.{◌≡◌, ℕ, suc, ◌+◌, ◌<◌, ◌≤◌, ◌==◌, Bool, true, false, cond, inl, inr, List, ◌∷◌, ◌++◌, map, find, length, nat_le, set, get_or, Option, Some, None, append-nil}
use Rattle.std.proofs.Common.{option_map, unwrap_or, refl, sym, ap, ◌∙◌, subst, eqb-true, arith, []}
use Rattle.std.proofs.lemmas.Bool.{cases_eq, cond_both}
use Rattle.std.proofs.lemmas.Option.{none-some, same_Some}
use Rattle.proof_generations.specs.Vocabulary.{Call, Swept, Reclaimer, ripe, sweep_by, slot_of, Ref, Node, Indirection, Prev, Slot, Heap, stored, node_at, taken, generation_of, generation_at}
use Rattle.proof_generations.specs.Vocabulary.{node_of, with_main, with_prev, written, main_changed, prev_changed, freed, next_ref, Action, Operation, Bounds, Outcome, Step, handle_of, Closing}
use Rattle.proof_generations.specs.Vocabulary.{Line, After, Gives, RootLine, root_after, is_carried_out, State, first_state, operation_of, word_at, turns, IsRun, Turn, start_of, Verdict, Commits}
use Rattle.proof_generations.specs.Vocabulary.{Fails, Overtaken, verdict, action_of, generation_from, given_root, acted, aborted, offered, completed, decided, new_root_taken, if_changed}
use Rattle.proof_generations.specs.Vocabulary.{operation_after, with_begin, pin_of, reclaimer_of, Begins, Ends, Sweeps, GivesUp, Moves, begun_operation, step_of, Record, closed_by, noted, Carried}
use Rattle.proof_generations.specs.Vocabulary.{carried_by, told_in, made_node, IsInUse}
use Rattle.proof_generations.specs.Beneath.slot_arena.specs.declared.nodes.Prev.TheVariants as prev
use Rattle.proof_generations.specs.Beneath.machine_model.specs.declared.actions.Action.TheVariants as act
use Rattle.proof_generations.specs.Beneath.machine_model.specs.declared.lines.Line.TheVariants as line
use Rattle.proof_generations.specs.Beneath.machine_model.specs.declared.reading.After.TheVariants.{Goes as Continues}
use Rattle.proof_generations.specs.Beneath.machine_model.proofs.Actors.{mark_only, marks_in}
use Rattle.proof_generations.specs.Beneath.machine_model.proofs.EachOperation.{of_running}
use Rattle.proof_generations.specs.Beneath.machine_model.proofs.Times.{along_run}
use Rattle.proof_generations.specs.Beneath.proof_memory.proofs.Safety.AtEachTime.{safe_at}
use Rattle.proof_generations.proofs.Handles.Running.{Comes, began, rested, went, comes, gave}
use Rattle.proof_generations.specs.Running.{Runs}
use Rattle.proof_generations.specs.Beneath.machine_model.specs.Moves.{Goes}
use Rattle.proof_generations.specs.Beneath.machine_model.proofs.HeapMoves.{aborted_heap, offered_heap, completed_heap}
use Rattle.proof_generations.specs.Beneath.machine_model.proofs.Found.{found_elsewhere, found_here, none_found}
use Rattle.proof_generations.specs.Beneath.proof_memory.proofs.Safety.States.{IsSafe}
use Rattle.proof_generations.specs.Beneath.proof_memory.proofs.Safety.AtTimes.{line_finds}
use Rattle.proof_generations.proofs.Counter.Made.{MadeOf, plain, started, drawn, made_of}
use Rattle.proof_generations.proofs.Counter.Drawn.{counter_rises, taken_list, generation_kept, first_list}
use Rattle.proof_generations.specs.Beneath.machine_model.proofs.Notes.{noted_going, noted_ending}

-- all nodes in the slots are of generations below this one
abbrev pub NodesBelow : ℕ → Heap → Type 0
NodesBelow n heap = (k : ℕ) (slot : Slot) → get_or heap.slots k None ≡ Some slot → generation_of slot.node < n

-- a change of a slot that keeps the generation
changed_below : (n : ℕ) (change : Slot → Slot) (heap : Heap) (r : Ref) → ((slot : Slot) → generation_of (change slot).node ≡ generation_of slot.node) →
    NodesBelow n heap → NodesBelow n (written change heap r)
unfolding stored
changed_below n change heap r keeps h k slot e = elim (cases_eq k (slot_of r)) [
  | inl same ↦ by (get_or heap.slots (slot_of r) None) refl (found_here heap.slots (slot_of r) _ slot (subst (λ i. get_or (written change heap r).slots i None ≡ Some slot) same e))
  | inr other ↦ h k slot (sym (found_elsewhere heap.slots (slot_of r) k _ other) ∙ e)
]
  where
    by : (o : Option Slot) → get_or heap.slots (slot_of r) None ≡ o → option_map change o ≡ Some slot → generation_of slot.node < n
    by None is f = absurd (none-some slot f)
    by (Some was) is f = omega (arith, h (slot_of r) was is, keeps was, ap (λ (x : Slot). generation_of x.node) (sym (same_Some _ _ f)))

main_below : (n : ℕ) (heap : Heap) (i m : Ref) → NodesBelow n heap → NodesBelow n (with_main heap i m)
unfolding with_main
main_below n heap i m h = changed_below n (main_changed m) heap i (λ slot. generation_kept slot.node _ (m, refl)) h

prev_below : (n : ℕ) (heap : Heap) (m : Ref) (p : Prev) → NodesBelow n heap → NodesBelow n (with_prev heap m p)
unfolding with_prev
prev_below n heap m p h = changed_below n (prev_changed p) heap m (λ slot. refl) h

freed_below : (n : ℕ) (heap : Heap) (r : Ref) → NodesBelow n heap → NodesBelow n (freed heap r)
unfolding freed
freed_below n heap r h k slot e = elim (cases_eq k (slot_of r)) [
  | inl same ↦ absurd (none-some slot (found_here heap.slots (slot_of r) None slot (subst (λ i. get_or (set heap.slots (slot_of r) None) i None ≡ Some slot) same e)))
  | inr other ↦ h k slot (sym (found_elsewhere heap.slots (slot_of r) k None other) ∙ e)
]

taken_below_counter : (n : ℕ) (heap : Heap) (node : Node) → generation_of node < n → NodesBelow n heap → NodesBelow n (taken heap node)
unfolding taken
taken_below_counter n heap node new h k slot e = elim (taken_list heap node heap.free k slot e) [
  | inl made ↦ omega (arith, new, ap generation_of made)
  | inr old ↦ h k slot old
]

-- ---- an action

test_below : (n : ℕ) (b : Bool) (changed same : Heap) → NodesBelow n changed → NodesBelow n same → NodesBelow n (if_changed b changed same)
test_below n true changed same h g = h
test_below n false changed same h g = g

decided_below : (n : ℕ) (heap : Heap) (main previous : Ref) (v : Verdict) → NodesBelow n heap → NodesBelow n (decided heap main previous v)
decided_below n heap main previous Commits h = prev_below n heap main prev.None h
decided_below n heap main previous Fails h = prev_below n heap main (prev.Failed previous) h
decided_below n heap main previous (Overtaken licensed) h = h

root_below : (st : State) (main : Ref) (made : Option Ref) → NodesBelow st.generations st.heap → NodesBelow (new_root_taken st main made).generations (new_root_taken st main made).heap
root_below st main None h = h
root_below st main (Some made) h = taken_below_counter (st.generations + 1) st.heap (Indirection st.generations main) (omega arith) (λ k slot e. omega (arith, h k slot e))

same_counter : (st after : State) → after.generations ≡ st.generations → after.heap ≡ st.heap → NodesBelow st.generations st.heap → NodesBelow after.generations after.heap
same_counter st after n e h = subst (λ m. NodesBelow m after.heap) (sym n) (subst (λ x. NodesBelow st.generations x) (sym e) h)

acted_below : (st : State) (at : ℕ) (action : Action) → NodesBelow st.generations st.heap → ((node : Node) → action ≡ act.Make node → generation_of node < st.generations) →
    NodesBelow (acted st at action).generations (acted st at action).heap
acted_below st at (act.Abort offer) h new = same_counter st (aborted st at offer) (grind arith) (aborted_heap st at offer) h
acted_below st at (act.Offer offer) h new = same_counter st (offered st at offer) (grind arith) (offered_heap st at offer) h
acted_below st at (act.Complete offer main) h new = same_counter st (completed st at offer main) (grind arith) (completed_heap st at offer main) h
acted_below st at (act.Publish i replaced fresh) h new =
    test_below st.generations _ (with_prev (with_main st.heap i fresh) fresh (prev.Pending replaced)) st.heap
    (prev_below st.generations (with_main st.heap i fresh) fresh (prev.Pending replaced) (main_below st.generations st.heap i fresh h)) h
acted_below st at (act.Restore i main previous) h new = test_below st.generations _ (with_main st.heap i previous) st.heap (main_below st.generations st.heap i previous h) h
acted_below st at (act.Decide i main previous told) h new = decided_below st.generations st.heap main previous (verdict st.heap i main previous told) h
acted_below st at (act.Make node) h new = taken_below_counter st.generations st.heap node (new node refl) h
acted_below st at (act.MakeRoot main) h new = root_below st main (next_ref st.heap) h
acted_below st at action h new = h

-- ---- a step

make_no_root : (node : Node) (main : Ref) → act.Make node ≡ act.MakeRoot main → ⊥
make_no_root node main e = cc e

-- what is made is below the counter, where the start generation is
made_below : (state : State) (operation : Operation) (node : Node) → 0 < state.generations → start_of operation < state.generations →
    MadeOf state operation (act.Make node) node → generation_of node < state.generations
made_below state operation node pos start (plain e) = omega arith
made_below state operation node pos start (started e) = omega arith
made_below state operation node pos start (drawn main a e) = absurd (make_no_root node main a)

begin_heap_same : (state : State) (actor : ℕ) (call : Call) (operation : Operation) → ((with_begin state actor call operation).heap ≡ state.heap)
    × ((with_begin state actor call operation).generations ≡ state.generations)
begin_heap_same state actor call operation = (grind arith, grind arith)

sweep_below : (n : ℕ) (pins : List (Option ℕ)) (r : Reclaimer) (due : Option Ref) → NodesBelow n r.heap → NodesBelow n (sweep_by pins r due).1.heap
sweep_below n pins r None h = cond_both (nat_le r.cursor (length pins)) _ _ (λ (done : Swept × Reclaimer). NodesBelow n done.1.heap) (λ e. h) (λ e. h)
sweep_below n pins r (Some at) h = freed_below n r.heap at h

pub nodes_below_after : (state : State) → IsSafe state → 0 < state.generations → NodesBelow state.generations state.heap →
    ((actor : ℕ) (operation : Operation) → operation_of state actor ≡ Some operation → start_of operation < state.generations) →
    (s : Step) (o : Outcome) (after : State) → Moves state s o after → NodesBelow after.generations after.heap
nodes_below_after state I pos h start s o after (Begins {actor} {call} {number} d) =
    let same = begin_heap_same state actor call (begun_operation state call number) in
    same_counter state (with_begin state actor call (begun_operation state call number)) same.1 same.0 h
nodes_below_after state I pos h start s o after (Goes {actor} {operation} d is a g) =
    acted_below _ (handle_of operation.call) (action_of state operation) h
    (λ node e. made_below state operation node pos (start actor operation is)
    (subst (λ x. MadeOf state operation x node) e (made_of state operation (IsInUse state.heap) operation.line (line_finds state I actor operation is) node (ap (made_node state) e))))
nodes_below_after state I pos h start s o after (Ends d is a) = h
nodes_below_after state I pos h start s o after (GivesUp d is a) = h
nodes_below_after state I pos h start s o after (Sweeps spent) = sweep_below state.generations (map pin_of state.actors) (reclaimer_of state) (ripe state.epoch state.limbo) h

-- ---- generations of operations

root_start : (state : State) → 0 < state.generations → NodesBelow state.generations state.heap → (r : Ref) → generation_at state.heap r < state.generations
unfolding stored node_at
root_start state pos h r = by (get_or state.heap.slots (slot_of r) None) refl
  where
    by : (o : Option Slot) → get_or state.heap.slots (slot_of r) None ≡ o → generation_of (node_of o) < state.generations
    by None e = pos
    by (Some slot) e = h (slot_of r) slot e

-- all running operations' are below it
abbrev pub StartsBelow : State → Type 0
StartsBelow state = (k : ℕ) (operation : Operation) → Runs state k operation → start_of operation < state.generations

given_below : (state : State) (a : After RootLine Ref) (generation : Option ℕ) → 0 < state.generations → NodesBelow state.generations state.heap → unwrap_or generation 0 < state.generations →
    unwrap_or (given_root state a generation) 0 < state.generations
given_below state (Continues l) generation pos h e = e
given_below state (Gives r) generation pos h e = root_start state pos h r

start_after : (state : State) (operation : Operation) (l : Line) → 0 < state.generations → NodesBelow state.generations state.heap → start_of operation < state.generations →
    unwrap_or (generation_from state operation l) 0 < state.generations
start_after state operation (line.Root l) pos h e = given_below state (root_after state.heap operation.access (word_at state (handle_of operation.call)) l) operation.generation pos h e
start_after state operation l pos h e = e

starts_by : (state : State) (s : Step) (n : ℕ) → 0 < state.generations → state.generations ≤ n → NodesBelow state.generations state.heap → StartsBelow state →
    (k : ℕ) (found : Operation) → Comes state s k found →
    start_of found < n
starts_by state s n pos more h all k found (began call number is d it) = omega (arith, ap start_of it)
starts_by state s n pos more h all k found (rested was at_k it other_step) = omega (arith, ap start_of (it ∙ mark_only (marks_in state s) was), all k was at_k)
starts_by state s n pos more h all k found (went was is at_k g it) =
    omega (arith, ap start_of (it ∙ mark_only (marks_in state s) (operation_after state was)), start_after state was was.line pos h (all k was at_k))
starts_by state s n pos more h all k found (gave was answer is at_k may it) = omega (arith, ap start_of it, all k was at_k)

-- ---- closings

abbrev pub ClosingsBelow : ℕ → List Closing → Type 0
ClosingsBelow n [] = Unit {0}
ClosingsBelow n (c ∷ closings) = (c.generation < n) × ClosingsBelow n closings

closings_more : (n m : ℕ) (closings : List Closing) → n ≤ m → ClosingsBelow n closings → ClosingsBelow m closings
closings_more n m [] le h = tt
closings_more n m (c ∷ closings) le h = (omega (arith, h.0), closings_more n m closings le h.1)

closings_push : (n : ℕ) (closings : List Closing) (c : Closing) → ClosingsBelow n closings → c.generation < n → ClosingsBelow n (closings ++ c ∷ [])
closings_push n [] c h new = (new, tt)
closings_push n (x ∷ closings) c h new = (h.0, closings_push n closings c h.1 new)

pub closed_below : (n : ℕ) (closings : List Closing) (generation c : ℕ) → ClosingsBelow n closings → step_of (find (λ x. x.generation == generation) closings) ≡ Some c → generation < n
closed_below n [] generation c h e = absurd (none-some c e)
closed_below n (x ∷ closings) generation c h e = by (x.generation == generation) refl (closed_below n closings generation c h.1) e
  where
    by : (b : Bool) → (x.generation == generation) ≡ b → (step_of (find (λ y. y.generation == generation) closings) ≡ Some c → generation < n) →
        step_of (cond b (Some x) (find (λ y. y.generation == generation) closings)) ≡ Some c → generation < n
    by true is rest e = omega (arith, eqb-true x.generation generation is, h.0)
    by false is rest e = rest e

-- by what is carried out
carried_below : (n step : ℕ) (closings : List Closing) (carried : Option Carried) → ((c : Carried) → carried ≡ Some c → c.generation < n) → ClosingsBelow n closings →
    ClosingsBelow n (closings ++ closed_by step carried)
carried_below n step closings None below h = subst (λ l. ClosingsBelow n l) (sym (append-nil closings)) h
carried_below n step closings (Some c) below h = closings_push n closings (record { generation = c.generation; step = step }) h (below c refl)

-- what is carried out closes the generation of a root
carried_root : (state : State) (handle : ℕ) (action : Action) → ((r : Ref) → generation_at state.heap r < state.generations) → (c : Carried) →
    carried_by state handle action ≡ Some c → c.generation < state.generations
carried_root state handle (act.Complete offer main) root c e = by (is_carried_out (word_at state handle) offer main) e
  where
    by : (b : Bool) → cond b (Some (record { generation = generation_at state.heap offer.root; operation = offer.operation })) None ≡ Some c → c.generation < state.generations
    by true e = subst (λ (x : Carried). x.generation < state.generations) (same_Some _ _ e) (root offer.root)
    by false e = absurd (none-some c e)
carried_root state handle act.ReadRoot root c e = absurd (none-some c e)
carried_root state handle (act.Abort offer) root c e = absurd (none-some c e)
carried_root state handle (act.Offer offer) root c e = absurd (none-some c e)
carried_root state handle (act.ReadMain i) root c e = absurd (none-some c e)
carried_root state handle (act.Publish i a f) root c e = absurd (none-some c e)
carried_root state handle (act.Restore i m p) root c e = absurd (none-some c e)
carried_root state handle (act.ReadPrev m) root c e = absurd (none-some c e)
carried_root state handle (act.Decide i m p told) root c e = absurd (none-some c e)
carried_root state handle (act.Look at) root c e = absurd (none-some c e)
carried_root state handle (act.Make node) root c e = absurd (none-some c e)
carried_root state handle (act.MakeRoot main) root c e = absurd (none-some c e)
carried_root state handle (act.End answer) root c e = absurd (none-some c e)

closings_after : (state : State) (past : Record) (s : Step) (o : Outcome) (after : State) → Moves state s o after → ((r : Ref) → generation_at state.heap r < state.generations) →
    ClosingsBelow state.generations past.closings → ClosingsBelow state.generations (noted past state.steps (told_in state s)).closings
closings_after state past s o after (Begins d) root h = h
closings_after state past s o after (Goes {actor} {operation} {action} d is a g) root h =
    subst (λ (r : Record). ClosingsBelow state.generations r.closings) (sym (noted_going state past actor operation action is a g))
    (carried_below state.generations state.steps past.closings _ (carried_root state (handle_of operation.call) (action_of state operation) root) h)
closings_after state past s o after (Ends {actor} {operation} {answer} d is a) root h =
    subst (λ (r : Record). ClosingsBelow state.generations r.closings) (sym (noted_ending state past actor operation answer is a)) h
closings_after state past s o after (GivesUp d is a) root h = h
closings_after state past s o after (Sweeps spent) root h = h

-- ---- all of it

pub record IsBelow (state : State) : Type 0 where
  pub positive : 0 < state.generations
  pub nodes : NodesBelow state.generations state.heap
  pub starts : StartsBelow state

pub below_after : (state : State) → IsSafe state → IsBelow state → (s : Step) (o : Outcome) (after : State) → Moves state s o after → IsBelow after
below_after state I h s o after m = record {
  positive = omega (arith, h.positive, counter_rises state s o after m);
  nodes = nodes_below_after state I h.positive h.nodes (λ actor operation is. of_running (λ st x. start_of x < state.generations) state h.starts actor operation is) s o after m;
  starts = λ k found at_k. starts_by state s after.generations h.positive (counter_rises state s o after m) h.nodes h.starts k found (comes state s o after m k found at_k);
}

-- a generation at a look-up is below the counter
pub looked_up_below : (state : State) → IsBelow state → (r : Ref) → generation_at state.heap r < state.generations
looked_up_below state h r = root_start state h.positive h.nodes r

pub below_at_first : (limits : Bounds) → IsBelow (first_state limits)
unfolding first_state taken
below_at_first limits = record {
  positive = omega arith;
  nodes = λ k slot e. omega (arith, first_list limits.slots k slot e);
  starts = λ k operation at_k. absurd (none_found limits.actors k operation at_k);
}

pub below_at : {limits : Bounds} {states : ℕ → State} {last : ℕ} → IsRun limits states last → (t : ℕ) → t ≤ last → IsBelow (states t)
below_at {limits} {states} {last} r =
    along_run r (λ t. IsBelow (states t)) (subst IsBelow (sym r.first) (below_at_first limits))
    (λ t lt turn h. by_turn (states t) (states (suc t)) (safe_at r t (omega arith)) h turn)
  where
    by_turn : (before after : State) → IsSafe before → IsBelow before → Turn before after → IsBelow after
    by_turn before after I h (turns s o m) = below_after before I h s o after m

-- so are the generations that were closed
pub closings_next : (state : State) (past : Record) → IsSafe state → IsBelow state → ClosingsBelow state.generations past.closings → (s : Step) (o : Outcome) (after : State) →
    Moves state s o after → ClosingsBelow after.generations (noted past state.steps (told_in state s)).closings
closings_next state past S I h s o after m =
    closings_more state.generations after.generations _ (counter_rises state s o after m) (closings_after state past s o after m (root_start state I.positive I.nodes) h)

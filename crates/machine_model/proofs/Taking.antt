-- How many free slots a step takes.
use Rattle.std.proofs.Common.{◌≡◌, ℕ, ◌+◌, ◌<◌, ◌≤◌, Bool, true, false, List, [], ◌∷◌, length, Option, Some, None, Ok, Err, refl, ap, ◌∙◌, map, arith}
use Rattle.machine_model.specs.Beneath.ctrie_base.specs.declared.kinds.Kind.TheVariants as kind
use Rattle.machine_model.specs.Beneath.slot_arena.specs.declared.refs.Ref.{Ref}
use Rattle.machine_model.specs.Beneath.slot_arena.specs.declared.nodes.Node.{Node}
use Rattle.machine_model.specs.Beneath.slot_arena.specs.declared.nodes.Prev.{Prev}
use Rattle.machine_model.specs.Beneath.slot_arena.specs.declared.nodes.Prev.TheVariants as prev
use Rattle.machine_model.specs.Beneath.slot_arena.specs.Heaps.{Heap, with_main, with_prev, taken, take_from, freed}
use Rattle.epochs.specs.Sweeping.{Reclaimer, ripe, sweep_by}
use Rattle.machine_model.specs.declared.actions.Action.{Action}
use Rattle.machine_model.specs.declared.actions.Action.TheVariants as act
use Rattle.machine_model.specs.declared.steps.Outcome.{Outcome}
use Rattle.machine_model.specs.declared.steps.Step.{Step}
use Rattle.machine_model.specs.Calls.{handle_of}
use Rattle.machine_model.specs.States.{State}
use Rattle.machine_model.specs.Operations.{action_of, kind_of}
use Rattle.machine_model.specs.Acting.{acted, decided, new_root_taken, if_changed}
use Rattle.machine_model.specs.Reading.{Verdict, Commits, Fails, Overtaken}
use Rattle.machine_model.specs.Machine.{Answer, next, state_after, pin_of, reclaimer_of}
use Rattle.machine_model.specs.Moves.{Moves, Begins, Goes, Ends, Sweeps, GivesUp, MovesIfTaken, begun_operation}
use Rattle.machine_model.specs.Taking.{IsMake, OneSlotAStep}
use Rattle.machine_model.proofs.HeapMoves.{aborted_heap, offered_heap, completed_heap, begin_heap}
use Rattle.machine_model.proofs.Moves.{moves}

-- one slot is taken at most, and only if this holds
record TakesOne (before after : Heap) (P : Type 0) : Type 0 where
  one : length before.free ≤ length after.free + 1
  only : length after.free < length before.free → P

-- none is taken where as many slots are free afterwards
none_taken : (before after : Heap) (P : Type 0) → after.free ≡ before.free → TakesOne before after P
none_taken before after P e = record { one = omega (arith, ap length e); only = λ less. absurd (omega (arith, ap length e)) }

-- the same heap
same_heap : (before after : Heap) (P : Type 0) → after ≡ before → TakesOne before after P
same_heap before after P e = none_taken before after P (ap (λ h. h.free) e)

-- taking a slot, by which are free
take_one : (heap : Heap) (node : Node) (free : List ℕ) (P : Type 0) → heap.free ≡ free → P → TakesOne heap (take_from heap node free) P
take_one heap node [] P e p = none_taken heap heap P refl
take_one heap node (slot ∷ free) P e p = record { one = omega (arith, ap length e); only = λ less. p }

-- taking a slot
taken_one : (heap : Heap) (node : Node) (P : Type 0) → P → TakesOne heap (taken heap node) P
unfolding taken
taken_one heap node P p = take_one heap node heap.free P refl p

-- a write of a main word takes none
main_free : (heap : Heap) (r m : Ref) → (with_main heap r m).free ≡ heap.free
unfolding with_main
main_free heap r m = refl

-- nor does one of a prev word
prev_free : (heap : Heap) (r : Ref) (p : Prev) → (with_prev heap r p).free ≡ heap.free
unfolding with_prev
prev_free heap r p = refl

-- nor freeing a slot
freed_one : (heap : Heap) (r : Ref) (P : Type 0) → TakesOne heap (freed heap r) P
unfolding freed
freed_one heap r P = record { one = omega arith; only = λ less. absurd (omega arith) }

-- swapping a main node in, by whether the replaced one still stands there
published_free : (heap : Heap) (indirection replaced fresh : Ref) (b : Bool) →
    (if_changed b (with_prev (with_main heap indirection fresh) fresh (prev.Pending replaced)) heap).free ≡ heap.free
published_free heap indirection replaced fresh true = prev_free _ _ _ ∙ main_free heap indirection fresh
published_free heap indirection replaced fresh false = refl

-- putting a main node back, by whether the failed one still stands there
restored_free : (heap : Heap) (indirection previous : Ref) (b : Bool) → (if_changed b (with_main heap indirection previous) heap).free ≡ heap.free
restored_free heap indirection previous true = main_free heap indirection previous
restored_free heap indirection previous false = refl

-- deciding a main node
decided_free : (heap : Heap) (main previous : Ref) (v : Verdict) → (decided heap main previous v).free ≡ heap.free
decided_free heap main previous Commits = prev_free heap main prev.None
decided_free heap main previous Fails = prev_free heap main (prev.Failed previous)
decided_free heap main previous (Overtaken licensed) = refl

-- making a root, by whether a slot is free
root_taken_one : (state : State) (main : Ref) (made : Option Ref) (P : Type 0) → P → TakesOne state.heap (new_root_taken state main made).heap P
root_taken_one state main None P p = same_heap state.heap state.heap P refl
root_taken_one state main (Some made) P p = taken_one state.heap _ P p

-- an action takes a slot only where it is to make a node
acted_one : (state : State) (handle : ℕ) (action : Action) → TakesOne state.heap (acted state handle action).heap (kind_of action ≡ kind.Make)
acted_one state handle (act.Abort offer) = same_heap _ _ _ (aborted_heap state handle offer)
acted_one state handle (act.Offer offer) = same_heap _ _ _ (offered_heap state handle offer)
acted_one state handle (act.Complete offer main) = same_heap _ _ _ (completed_heap state handle offer main)
acted_one state handle (act.Publish indirection replaced fresh) = none_taken _ _ _ (published_free state.heap indirection replaced fresh _)
acted_one state handle (act.Restore indirection main previous) = none_taken _ _ _ (restored_free state.heap indirection previous _)
acted_one state handle (act.Decide indirection main previous told) = none_taken _ _ _ (decided_free state.heap main previous _)
acted_one state handle (act.Make node) = taken_one state.heap node _ refl
acted_one state handle (act.MakeRoot main) = root_taken_one state main _ _ refl
acted_one state handle action = same_heap _ _ _ refl

-- a sweep takes none
swept_one : (pins : List (Option ℕ)) (r : Reclaimer) (due : Option Ref) (P : Type 0) → TakesOne r.heap (sweep_by pins r due).1.heap P
swept_one pins r None P = same_heap _ _ P (grind arith)
swept_one pins r (Some at) P = freed_one r.heap at P

-- what follows from one fact follows from a weaker one
takes_so : (before after : Heap) (P Q : Type 0) → (P → Q) → TakesOne before after P → TakesOne before after Q
takes_so before after P Q so h = record { one = h.one; only = λ less. so (h.only less) }

-- each step that is taken
move_takes : (state : State) (s : Step) (o : Outcome) (after : State) → Moves state s o after → TakesOne state.heap after.heap (IsMake state s)
move_takes state s o after (Begins {actor} {call} {number} d) = same_heap _ _ _ (begin_heap state actor call (begun_operation state call number))
move_takes state s o after (Goes {actor} {operation} d is a g) =
    takes_so _ _ _ _ (λ e. (operation, is, e)) (acted_one _ (handle_of operation.call) (action_of state operation))
move_takes state s o after (Ends d is a) = same_heap _ _ _ refl
move_takes state s o after (GivesUp d is a) = same_heap _ _ _ refl
move_takes state s o after (Sweeps spent) = swept_one (map pin_of state.actors) (reclaimer_of state) (ripe state.epoch state.limbo) _

-- each step, be it taken or denied
step_takes : (state : State) (s : Step) (answer : Answer) → MovesIfTaken state s answer → TakesOne state.heap (state_after state answer).heap (IsMake state s)
step_takes state s (Ok done) m = move_takes state s done.0 done.1 m
step_takes state s (Err refusal) m = same_heap state.heap state.heap _ refl

-- a step takes one free slot at most, and takes one only where it makes a node
pub one_slot : OneSlotAStep
one_slot state s = let takes = step_takes state s (next state s) (moves state s) in (takes.one, takes.only)

-- What a step that is taken does to the heap: one constructor for each kind of effect.
use Rattle.std.proofs.Common.{◌≡◌, ℕ, ◌==◌, Bool, true, false, List, map, Option, Some, None, refl, sym, subst, eqb-true, arith}
use Rattle.history.specs.declared.calls.Call.{Call}
use Rattle.machine_model.specs.Beneath.slot_arena.specs.declared.refs.Ref.{Ref}
use Rattle.machine_model.specs.Beneath.slot_arena.specs.declared.nodes.Node.{Node}
use Rattle.machine_model.specs.Beneath.slot_arena.specs.declared.nodes.Prev.TheVariants as prev
use Rattle.machine_model.specs.declared.actions.Action.{Action}
use Rattle.machine_model.specs.declared.actions.Action.TheVariants as act
use Rattle.machine_model.specs.declared.operations.Operation.{Operation}
use Rattle.machine_model.specs.declared.roots.Descriptor.{Descriptor}
use Rattle.machine_model.specs.declared.steps.Outcome.{Outcome}
use Rattle.machine_model.specs.declared.steps.Step.{Step}
use Rattle.machine_model.specs.Beneath.slot_arena.specs.Heaps.{Heap, main_at, with_main, with_prev, taken, freed}
use Rattle.machine_model.specs.States.{State}
use Rattle.machine_model.specs.Calls.{handle_of}
use Rattle.machine_model.specs.Reading.{Verdict, Commits, Fails, Overtaken, verdict}
use Rattle.machine_model.specs.Operations.{action_of}
use Rattle.machine_model.specs.Acting.{acted, aborted, offered, completed, decided, new_root_taken, if_changed}
use Rattle.epochs.specs.Sweeping.{Reclaimer, ripe, sweep_by}
use Rattle.machine_model.specs.Machine.{with_begin, pin_of, reclaimer_of}
use Rattle.machine_model.specs.Moves.{Begins, Goes, Ends, Sweeps, GivesUp}
use Rattle.machine_model.specs.Moves.{Moves, begun_operation}

-- the effects, where this slot is due to be freed, if one is
pub data HeapMoves (heap : Heap) (due : Option Ref) : Heap → Type 0 where
  Stays : HeapMoves heap due heap
  Takes : (node : Node) → HeapMoves heap due (taken heap node)
  Publishes : (indirection replaced fresh : Ref) → main_at heap indirection ≡ replaced →
      HeapMoves heap due (with_prev (with_main heap indirection fresh) fresh (prev.Pending replaced))
  Restores : (indirection main previous : Ref) → main_at heap indirection ≡ main → HeapMoves heap due (with_main heap indirection previous)
  Commit : (indirection main previous : Ref) (told : Option ℕ) → verdict heap indirection main previous told ≡ Commits →
      HeapMoves heap due (with_prev heap main prev.None)
  Fail : (indirection main previous : Ref) (told : Option ℕ) → verdict heap indirection main previous told ≡ Fails →
      HeapMoves heap due (with_prev heap main (prev.Failed previous))
  Frees : (r : Ref) → due ≡ Some r → HeapMoves heap due (freed heap r)

-- taking an offer back leaves the heap
pub aborted_heap : (state : State) (handle : ℕ) (offer : Descriptor) → (aborted state handle offer).heap ≡ state.heap
aborted_heap state handle offer = grind arith

-- so does offering
pub offered_heap : (state : State) (handle : ℕ) (offer : Descriptor) → (offered state handle offer).heap ≡ state.heap
offered_heap state handle offer = grind arith

-- and completing an offer
pub completed_heap : (state : State) (handle : ℕ) (offer : Descriptor) (main : Ref) → (completed state handle offer main).heap ≡ state.heap
completed_heap state handle offer main = grind arith

-- swapping a main node in, by whether the replaced one still stands there
published_heap : (heap : Heap) (due : Option Ref) (indirection replaced fresh : Ref) (b : Bool) → (main_at heap indirection == replaced) ≡ b →
    HeapMoves heap due (if_changed b (with_prev (with_main heap indirection fresh) fresh (prev.Pending replaced)) heap)
published_heap heap due indirection replaced fresh true e = Publishes indirection replaced fresh (eqb-true _ _ e)
published_heap heap due indirection replaced fresh false e = Stays

-- putting a main node back, by whether the failed one still stands there
restored_heap : (heap : Heap) (due : Option Ref) (indirection main previous : Ref) (b : Bool) → (main_at heap indirection == main) ≡ b →
    HeapMoves heap due (if_changed b (with_main heap indirection previous) heap)
restored_heap heap due indirection main previous true e = Restores indirection main previous (eqb-true _ _ e)
restored_heap heap due indirection main previous false e = Stays

-- deciding a main node, by what comes of it
decided_heap : (heap : Heap) (due : Option Ref) (indirection main previous : Ref) (told : Option ℕ) (v : Verdict) → verdict heap indirection main previous told ≡ v →
    HeapMoves heap due (decided heap main previous v)
decided_heap heap due indirection main previous told Commits e = Commit indirection main previous told e
decided_heap heap due indirection main previous told Fails e = Fail indirection main previous told e
decided_heap heap due indirection main previous told (Overtaken licensed) e = Stays

-- making a root, by whether a slot is free
root_taken_heap : (state : State) (due : Option Ref) (main : Ref) (made : Option Ref) → HeapMoves state.heap due (new_root_taken state main made).heap
root_taken_heap state due main None = Stays
root_taken_heap state due main (Some made) = Takes _

-- a heap that is the same stays
same_heap : {heap after : Heap} (due : Option Ref) → after ≡ heap → HeapMoves heap due after
same_heap {heap} due e = subst (λ h. HeapMoves heap due h) (sym e) Stays

-- each action is such an effect
pub acted_heap : (state : State) (due : Option Ref) (handle : ℕ) (action : Action) → HeapMoves state.heap due (acted state handle action).heap
acted_heap state due handle (act.Abort offer) = same_heap due (aborted_heap state handle offer)
acted_heap state due handle (act.Offer offer) = same_heap due (offered_heap state handle offer)
acted_heap state due handle (act.Complete offer main) = same_heap due (completed_heap state handle offer main)
acted_heap state due handle (act.Publish indirection replaced fresh) = published_heap state.heap due indirection replaced fresh _ refl
acted_heap state due handle (act.Restore indirection main previous) = restored_heap state.heap due indirection main previous _ refl
acted_heap state due handle (act.Decide indirection main previous told) = decided_heap state.heap due indirection main previous told _ refl
acted_heap state due handle (act.Make node) = Takes node
acted_heap state due handle (act.MakeRoot main) = root_taken_heap state due main _
acted_heap state due handle action = Stays

-- a begin leaves the heap
pub begin_heap : (state : State) (actor : ℕ) (call : Call) (operation : Operation) → (with_begin state actor call operation).heap ≡ state.heap
begin_heap state actor call operation = grind arith

-- a sweep frees the ripe slot, if there is one
sweep_heap : (pins : List (Option ℕ)) (r : Reclaimer) (due : Option Ref) → HeapMoves r.heap due (sweep_by pins r due).1.heap
sweep_heap pins r None = same_heap None (grind arith)
sweep_heap pins r (Some at) = Frees at refl

-- each step that is taken is such an effect
pub heap_moves : (state : State) (s : Step) (o : Outcome) (after : State) → Moves state s o after → HeapMoves state.heap (ripe state.epoch state.limbo) after.heap
heap_moves state s o after (Begins {actor} {call} {number} d) = same_heap _ (begin_heap state actor call (begun_operation state call number))
heap_moves state s o after (Goes {actor} {operation} d is a g) = acted_heap _ _ (handle_of operation.call) (action_of state operation)
heap_moves state s o after (Ends d is a) = Stays
heap_moves state s o after (GivesUp d is a) = Stays
heap_moves state s o after (Sweeps spent) = sweep_heap (map pin_of state.actors) (reclaimer_of state) (ripe state.epoch state.limbo)

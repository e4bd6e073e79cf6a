-- A call that runs alone, from its begin to its end, and when it can be done at once.
use Rattle.std.specs.Prelude.{◌≡◌, ℕ, zero, suc, ◌<◌, false, List, [], ◌∷◌, length, replicate, slice_index_or, Option, None, Ok}
use Rattle.proof_straight.specs.Vocabulary.{Kind, Call, Reply, Ref, Slot, Heap, times, limbo_after, Plain, Step, handle_of, State, word_at, outside, next, begin_denial, is_busy, run_from, Record}
use Rattle.proof_straight.specs.Vocabulary.{is_placed, noted, record_from, told_in}
use Rattle.proof_straight.specs.Beneath.history.specs.declared.calls.Call.TheVariants as call
use Rattle.machine_model.specs.declared.steps.Outcome.TheVariants as outcome
use Rattle.machine_model.specs.declared.steps.Step.TheVariants as step

-- The actor's call began in this state, and went on alone for so many steps to that one.
pub data GoesOn (state : State) (actor : ℕ) (call : Call) : ℕ → State → Type 0 where
  starts : {first : State} → next state (step.Begin actor call None) ≡ Ok (outcome.Began state.begun, first) → GoesOn state actor call zero first
  walks : {n : ℕ} {before after : State} {kind : Kind} → GoesOn state actor call n before → next before (step.Go actor) ≡ Ok (outcome.Went kind, after) →
      GoesOn state actor call (suc n) after

-- begun in this state the actor's call goes on alone for so many steps, ends with this answer, and leaves that state
pub record Comes (state : State) (actor : ℕ) (call : Call) (n : ℕ) (answer : Reply) (after : State) : Type 0 where
  pub last : State
  pub goes : GoesOn state actor call n last
  pub ends : next last (step.Go actor) ≡ Ok (outcome.Ended state.begun answer, after)

-- The same with what is recorded: where past was recorded before it, this is recorded by then.
pub data GoesAlone (state : State) (past : Record) (actor : ℕ) (call : Call) : ℕ → State → Record → Type 0 where
  begins : {first : State} → next state (step.Begin actor call None) ≡ Ok (outcome.Began state.begun, first) →
      GoesAlone state past actor call zero first (noted past state.steps (told_in state (step.Begin actor call None)))
  goes : {n : ℕ} {before after : State} {so_far : Record} {kind : Kind} → GoesAlone state past actor call n before so_far →
      next before (step.Go actor) ≡ Ok (outcome.Went kind, after) → GoesAlone state past actor call (suc n) after (noted so_far before.steps (told_in before (step.Go actor)))

-- the same with what is recorded behind it
pub record ComesTo (state : State) (past : Record) (actor : ℕ) (call : Call) (n : ℕ) (answer : Reply) (after : State) (recorded : Record) : Type 0 where
  pub last : State
  pub so_far : Record
  pub goes : GoesAlone state past actor call n last so_far
  pub ends : next last (step.Go actor) ≡ Ok (outcome.Ended state.begun answer, after)
  pub records : noted so_far last.steps (told_in last (step.Go actor)) ≡ recorded

-- these slots are empty, and none is named twice
abbrev pub AreEmpty : List (Option Slot) → List ℕ → Type 0
AreEmpty slots [] = Unit {0}
AreEmpty slots (slot ∷ free) = (slot < length slots) × (slice_index_or slots slot None ≡ None) × (times slot free ≡ 0) × AreEmpty slots free

-- the free slots are empty ones
pub record HasEmptySlots (heap : Heap) : Type 0 where
  pub empty : AreEmpty heap.slots heap.free

-- limbo is up to date
abbrev pub IsUpToDate : State → Type 0
IsUpToDate state = limbo_after state.heap (outside state) state.epoch state.limbo ≡ state.limbo

-- nothing runs, each actor has its place, and limbo is up to date
pub record IsAtRest (state : State) : Type 0 where
  pub rest : is_busy state ≡ false
  pub actors : length state.actors ≡ state.limits.actors
  pub calm : IsUpToDate state
  pub free : HasEmptySlots state.heap

-- it is a call on one key
abbrev pub IsKeyed : Call → Type 0
IsKeyed (call.Get h k) = Unit {0}
IsKeyed (call.Put h k v) = Unit {0}
IsKeyed (call.PutIfAbsent h k v) = Unit {0}
IsKeyed (call.Replace h k v) = Unit {0}
IsKeyed (call.ReplaceIf h k a b) = Unit {0}
IsKeyed (call.Remove h k) = Unit {0}
IsKeyed (call.RemoveIf h k v) = Unit {0}
IsKeyed other = ⊥

-- the actor may call this, and no offer stands over this root of the call's handle
pub record IsReady (state : State) (actor : ℕ) (call : Call) (root : Ref) : Type 0 where
  pub rests : IsAtRest state
  pub allowed : begin_denial state actor call None ≡ None
  pub word : word_at state (handle_of call) ≡ Plain root

-- the record has a place for what each actor read, and the call that begins next has no place in the order
pub record IsRecordOf (state : State) (past : Record) : Type 0 where
  pub moments : length past.moments ≡ state.limits.actors
  pub unplaced : is_placed past state.begun ≡ false

-- the steps of a call that goes on so many times between its begin and its end
abbrev pub steps_of_call : ℕ → Call → ℕ → List Step
steps_of_call actor c n = step.Begin actor c None ∷ replicate (suc n) (step.Go actor)

-- what a call comes to a run of its steps comes to
abbrev pub ComesByRun : Type 0
ComesByRun =
    (state : State) (past : Record) (actor : ℕ) (c : Call) (n : ℕ) (answer : Reply) (after : State) (recorded : Record) → ComesTo state past actor c n answer after recorded →
    (run_from state (steps_of_call actor c n) ≡ after) × (record_from state past (steps_of_call actor c n) ≡ recorded)

-- A call that runs alone from rest, and what it comes to.
use Rattle.std.specs.Prelude.{◌≡◌, ◌≢◌, ◌⊎◌, ℕ, suc, ◌+◌, ◌<◌, ◌≤◌, ◌^◌, false, length, Option, Some, None, Ok}
use Rattle.proof_alone.specs.Vocabulary.{hash_of, Kind, Call, Clear, Snapshot, Freeze, Close, Reply, NoSlots, Effect, Operation, Went, Ended, Go, key_of, FindsNoSlot, begin_denial, is_busy, next}
use Rattle.proof_alone.specs.Vocabulary.{State, operation_of, world_of, IsNoWalk, slots_of, most_steps_alone, most_steps_of_copies, IsOfRun, Comes}
use Rattle.proof_straight.specs.Running.{GoesOn}

-- ---- how much it takes

-- the most steps that it takes alone behind its begin
abbrev pub steps_of : Call → ℕ
steps_of (Close h) = 1
steps_of (Clear h) = most_steps_of_copies
steps_of (Snapshot h) = most_steps_of_copies
steps_of (Freeze h) = most_steps_of_copies
steps_of call = most_steps_alone

-- ---- that it ends

-- The actor may call this: a run leads to the state, nothing runs in it and nothing denies the call, which walks over no pairs, has a key of 64 bits, and as many
-- steps are left as any call takes.
pub record CanCall (state : State) (actor : ℕ) (call : Call) : Type 0 where
  pub of_run : IsOfRun state
  pub rest : is_busy state ≡ false
  pub allowed : begin_denial state actor call None ≡ None
  pub short : IsNoWalk call
  pub fits : key_of call < 2 ^ 64
  pub left : state.steps + (1 + most_steps_alone) ≤ state.limits.steps

-- it begins
abbrev pub CallsBegin : Type 0
CallsBegin = (state : State) (actor : ℕ) (call : Call) → CanCall state actor call → (first : State) × GoesOn state actor call 0 first

-- the actor's next step goes on, or ends this operation
abbrev pub LeadsOn : State → State → ℕ → Type 0
LeadsOn state now actor =
    ((kind : Kind) × (after : State) × (next now (Go actor) ≡ Ok (Went kind, after))) ⊎ ((answer : Reply) × (after : State) × (next now (Go actor) ≡ Ok (Ended state.begun answer, after)))

-- wherever it comes to on its way, it is on, within its steps, and its next step leads on
pub record IsOnItsWay (state : State) (actor : ℕ) (call : Call) (n : ℕ) (now : State) : Type 0 where
  pub few : n < steps_of call
  pub operation : Operation
  pub runs : operation_of now actor ≡ Some operation
  pub same : operation.call ≡ call
  pub leads : LeadsOn state now actor

abbrev pub CallsGoOn : Type 0
CallsGoOn = (state : State) (actor : ℕ) (call : Call) → CanCall state actor call → (n : ℕ) (now : State) → GoesOn state actor call n now → IsOnItsWay state actor call n now

-- so it comes to its end
abbrev pub CallsEnd : Type 0
CallsEnd = (state : State) (actor : ℕ) (call : Call) → CanCall state actor call → (n : ℕ) × (answer : Reply) × (after : State) × Comes state actor call n answer after

-- ---- what it does

-- its effect on the maps that handles name: none where it found no slot
abbrev pub Acts : State → Call → Reply → State → Type 0
Acts before call NoSlots after = world_of after ≡ world_of before
Acts before call answer after = (opens : Option ℕ) × Effect (hash_of before.limits.hash) (world_of before) call opens answer (world_of after)

pub record Does (before : State) (call : Call) (answer : Reply) (after : State) : Type 0 where
  pub of_run : IsOfRun after
  pub limits : after.limits ≡ before.limits
  -- nothing runs then
  pub rest : is_busy after ≡ false
  pub acts : Acts before call answer after
  -- it takes so many steps and slots at most
  pub rises : before.steps ≤ after.steps
  pub steps : after.steps ≤ before.steps + (1 + steps_of call)
  pub slots : length before.heap.free ≤ length after.heap.free + slots_of call

abbrev pub CallsDo : Type 0
CallsDo =
    (before : State) (actor : ℕ) (call : Call) → CanCall before actor call → (n : ℕ) (answer : Reply) (after : State) → Comes before actor call n answer after →
    Does before call answer after

-- ---- want of slots

-- By its steps the call comes to the answer that no slot was free: the last one before that was to make a node, and none was.
pub record RunsOut (before : State) (actor : ℕ) (call : Call) : Type 0 where
  pub n : ℕ
  pub now : State
  pub goes : GoesOn before actor call n now
  pub finds : FindsNoSlot now actor before.begun
  pub after : State
  pub ends : Comes before actor call (suc n) NoSlots after

-- a call is refused for want of slots only where it ran out of them
abbrev pub RefusedIfOut : Type 0
RefusedIfOut =
    (before : State) (actor : ℕ) (call : Call) → CanCall before actor call → (n : ℕ) (after : State) → Comes before actor call n NoSlots after → RunsOut before actor call

-- it isn't where so many slots are free as it may take
abbrev pub EnoughSlotsForCalls : Type 0
EnoughSlotsForCalls =
    (before : State) (actor : ℕ) (call : Call) → CanCall before actor call → slots_of call ≤ length before.heap.free → (n : ℕ) (answer : Reply) (after : State) →
    Comes before actor call n answer after → answer ≢ NoSlots

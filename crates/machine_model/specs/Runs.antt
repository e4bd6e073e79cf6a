-- Three short runs, whose histories, orders and numbers were known from outside.
use Rattle.std.specs.Prelude.{◌≡◌, ℕ, List, [], ◌∷◌, ◌++◌, length, replicate, Some, None}
use Rattle.machine_model.specs.Beneath.ctrie_base.specs.declared.hashes.HashKind.TheVariants.{Low}
use Rattle.history.specs.declared.calls.Call.{Call}
use Rattle.history.specs.declared.calls.Call.TheVariants as call
use Rattle.history.specs.declared.replies.Reply.TheVariants as reply
use Rattle.history.specs.declared.events.Event.{Event}
use Rattle.history.specs.declared.events.Event.TheVariants as event
use Rattle.machine_model.specs.declared.steps.Step.{Step}
use Rattle.machine_model.specs.declared.steps.Step.TheVariants as step
use Rattle.machine_model.specs.declared.steps.Bounds.{Bounds}
use Rattle.machine_model.specs.Beneath.slot_arena.specs.Heaps.{in_use}
use Rattle.machine_model.specs.States.{State}
use Rattle.machine_model.specs.Limits.{step_limit}
use Rattle.machine_model.specs.Machine.{run}
use Rattle.machine_model.specs.Records.{Record, order_of, record_of}

-- what a run is judged by: its history, its order, and how many slots are used, free and in limbo
pub record Shown : Type 0 where
  pub history : List Event
  pub order : List ℕ
  pub used : ℕ
  pub free : ℕ
  pub limbo : ℕ

abbrev pub shown_of : State → Record → Shown
shown_of state past = record {
  history = past.events;
  order = order_of past;
  used = length (in_use state.heap);
  free = length state.heap.free;
  limbo = length state.limbo;
}

abbrev pub shown : Bounds → List Step → Shown
shown limits steps = shown_of (run limits steps) (record_of limits steps)

abbrev pub sized : ℕ → ℕ → Bounds
sized slots actors = record { slots = slots; actors = actors; hash = Low; steps = step_limit }

-- the actor begins this call and takes so many steps of it
abbrev pub taking : ℕ → Call → ℕ → List Step
taking actor call n = step.Begin actor call None ∷ replicate n (step.Go actor)

-- A put takes twelve steps, and a get then finds its value.
abbrev pub PutAndGet : Type 0
PutAndGet = shown (sized 64 2) (taking 1 (call.Put 0 5 50) 12 ++ taking 2 (call.Get 0 5) 6) ≡ record {
  history = event.Begin 0 1 (call.Put 0 5 50) None ∷ event.End 0 (reply.Found None) ∷ event.Begin 1 2 (call.Get 0 5) None ∷ event.End 1 (reply.Found (Some 50)) ∷ [];
  order = 0 ∷ 1 ∷ [];
  used = 4;
  free = 60;
  limbo = 1;
}

-- A put that has its licence to commit is overtaken by a freeze. It commits late, and stands before the freeze: so the
-- frozen copy has its value.
abbrev pub LatePut : Type 0
LatePut = shown (sized 64 2) (
    taking 1 (call.Put 0 1 10) 12 ++ taking 1 (call.Put 0 33 330) 15 ++ taking 1 (call.Put 0 65 650) 13 ++ taking 2 (call.Freeze 0) 9
    ++ replicate 3 (step.Go 1) ++ taking 1 (call.Get 1 65) 10 ++ taking 1 (call.Get 0 65) 24) ≡ record {
      history = event.Begin 0 1 (call.Put 0 1 10) None ∷ event.End 0 (reply.Found None) ∷ event.Begin 1 1 (call.Put 0 33 330) None ∷ event.End 1 (reply.Found None)
          ∷ event.Begin 2 1 (call.Put 0 65 650) None ∷ event.Begin 3 2 (call.Freeze 0) (Some 1) ∷ event.End 3 (reply.Opened 1) ∷ event.End 2 (reply.Found None)
          ∷ event.Begin 4 1 (call.Get 1 65) None ∷ event.End 4 (reply.Found (Some 650)) ∷ event.Begin 5 1 (call.Get 0 65) None ∷ event.End 5 (reply.Found (Some 650)) ∷ [];
      order = 0 ∷ 1 ∷ 2 ∷ 3 ∷ 4 ∷ 5 ∷ [];
      used = 13;
      free = 51;
      limbo = 3;
    }

-- With five slots the second put finds none free and is refused; after six steps of the sweep there is room for it.
abbrev pub RefusedForWantOfSlots : Type 0
RefusedForWantOfSlots = shown (sized 5 1) (
    taking 1 (call.Put 0 1 10) 12 ++ taking 1 (call.Put 0 2 20) 7 ++ replicate 6 step.Sweep ++ taking 1 (call.Put 0 2 20) 12) ≡ record {
      history = event.Begin 0 1 (call.Put 0 1 10) None ∷ event.End 0 (reply.Found None) ∷ event.Begin 1 1 (call.Put 0 2 20) None ∷ event.End 1 reply.NoSlots
          ∷ event.Begin 2 1 (call.Put 0 2 20) None ∷ event.End 2 (reply.Found None) ∷ [];
      order = 0 ∷ 2 ∷ [];
      used = 5;
      free = 0;
      limbo = 1;
    }

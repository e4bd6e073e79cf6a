-- What no action touches.
use Rattle.std.proofs.Common.{◌≡◌, ℕ, ◌+◌, refl, arith}
use Rattle.machine_model.specs.Beneath.slot_arena.specs.declared.refs.Ref.{Ref}
use Rattle.history.specs.declared.calls.Call.{Call}
use Rattle.std.specs.Prelude.{Option}
use Rattle.machine_model.specs.declared.actions.Action.{Action}
use Rattle.machine_model.specs.declared.actions.Action.TheVariants as act
use Rattle.machine_model.specs.declared.operations.Operation.{Operation}
use Rattle.machine_model.specs.declared.roots.Descriptor.{Descriptor}
use Rattle.machine_model.specs.declared.steps.Outcome.{Outcome}
use Rattle.machine_model.specs.declared.steps.Step.{Step}
use Rattle.machine_model.specs.States.{State}
use Rattle.machine_model.specs.Operations.{action_of}
use Rattle.machine_model.specs.Acting.{acted, aborted, offered, completed, new_root_taken}
use Rattle.machine_model.specs.Machine.{with_begin, swept}
use Rattle.machine_model.specs.Moves.{Begins, Goes, Ends, Sweeps, GivesUp}
use Rattle.machine_model.specs.Moves.{Moves, begun_operation}

-- what stays the same, whatever the action does
pub record IsFramed (before after : State) : Type 0 where
  pub limits : after.limits ≡ before.limits
  pub limbo : after.limbo ≡ before.limbo
  pub epoch : after.epoch ≡ before.epoch
  pub cursor : after.cursor ≡ before.cursor
  pub begun : after.begun ≡ before.begun
  pub steps : after.steps ≡ before.steps

-- taking an offer back leaves the frame
aborted_framed : (state : State) (handle : ℕ) (offer : Descriptor) → IsFramed state (aborted state handle offer)
aborted_framed state handle offer = grind arith

-- so does offering
offered_framed : (state : State) (handle : ℕ) (offer : Descriptor) → IsFramed state (offered state handle offer)
offered_framed state handle offer = grind arith

-- and completing an offer
completed_framed : (state : State) (handle : ℕ) (offer : Descriptor) (main : Ref) → IsFramed state (completed state handle offer main)
completed_framed state handle offer main = grind arith

-- and making a root
root_taken_framed : (state : State) (main : Ref) (made : Option Ref) → IsFramed state (new_root_taken state main made)
root_taken_framed state main made = grind arith

-- no action touches the frame
pub acted_framed : (state : State) (handle : ℕ) (action : Action) → IsFramed state (acted state handle action)
acted_framed state handle (act.Abort offer) = aborted_framed state handle offer
acted_framed state handle (act.Offer offer) = offered_framed state handle offer
acted_framed state handle (act.Complete offer main) = completed_framed state handle offer main
acted_framed state handle (act.MakeRoot main) = root_taken_framed state main _
acted_framed state handle action = record { limits = refl; limbo = refl; epoch = refl; cursor = refl; begun = refl; steps = refl }

-- a begin keeps the limits
begin_limits : (state : State) (actor : ℕ) (call : Call) (operation : Operation) → (with_begin state actor call operation).limits ≡ state.limits
begin_limits state actor call operation = grind arith

-- a sweep keeps the limits
sweep_limits : (state : State) → (swept state).1.limits ≡ state.limits
sweep_limits state = refl

-- a machine keeps its limits
pub limits_kept : (state : State) (s : Step) (o : Outcome) (after : State) → Moves state s o after → after.limits ≡ state.limits
limits_kept state s o after (Begins {actor} {call} {number} d) = begin_limits state actor call (begun_operation state call number)
limits_kept state s o after (Goes {actor} {operation} d found a g) = (acted_framed _ _ (action_of state operation)).limits
limits_kept state s o after (Ends d found a) = refl
limits_kept state s o after (Sweeps spent) = sweep_limits state
limits_kept state s o after (GivesUp d is a) = refl

-- each step that is taken is counted
pub steps_counted : (state : State) (s : Step) (o : Outcome) (after : State) → Moves state s o after → after.steps ≡ state.steps + 1
steps_counted state s o after (Begins d) = refl
steps_counted state s o after (Goes d found a g) = refl
steps_counted state s o after (Ends d found a) = refl
steps_counted state s o after (Sweeps spent) = refl
steps_counted state s o after (GivesUp d is a) = refl

-- a begin is counted
pub begin_counted : (state : State) (actor : ℕ) (call : Call) (operation : Operation) → (with_begin state actor call operation).begun ≡ state.begun + 1
begin_counted state actor call operation = refl

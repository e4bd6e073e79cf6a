-- An operation in a SWAP gives up what it has made before its first step, or by it.
use Rattle.history.specs.declared.calls.Call.{Call}
use Rattle.history.specs.declared.replies.Reply.{Reply}
use Rattle.std.proofs.Common.{◌≡◌, Some, refl, subst}
use Rattle.std.proofs.lemmas.Option.{none-some}
use Rattle.machine_model.specs.Beneath.slot_arena.specs.declared.refs.Ref.{Ref}
use Rattle.machine_model.specs.declared.actions.Action.{Action}
use Rattle.machine_model.specs.declared.actions.Action.TheVariants as act
use Rattle.machine_model.specs.declared.lines.Line.TheVariants as line
use Rattle.machine_model.specs.declared.lines.Purpose.{Purpose}
use Rattle.machine_model.specs.declared.lines.Purpose.TheVariants as purpose
use Rattle.machine_model.specs.declared.operations.Operation.{Operation}
use Rattle.machine_model.specs.declared.reading.ReadLine.TheVariants as read
use Rattle.machine_model.specs.declared.reading.Swap.{Swap}
use Rattle.machine_model.specs.declared.reading.SwapLine.{SwapLine}
use Rattle.machine_model.specs.declared.reading.SwapLine.TheVariants as swap
use Rattle.machine_model.specs.GivingUp.{swap_given_up}
use Rattle.machine_model.specs.Operations.{action_of}
use Rattle.machine_model.specs.States.{State}
use Rattle.machine_model.specs.Swapping.{action_at}

-- before it
pub first_to_give_up : (call : Call) (why : Purpose) (w : Swap) (answer : Reply) → swap_given_up call why w.line ≡ Some answer → w.line ≡ swap.Publish
first_to_give_up call why w answer e = by why w.line e
  where
    by : (y : Purpose) (l : SwapLine) → swap_given_up call y l ≡ Some answer → l ≡ swap.Publish
    by y swap.Publish h = refl
    by (purpose.Climb c) (swap.Deciding r) h = absurd (none-some answer h)
    by (purpose.Climb c) swap.Check h = absurd (none-some answer h)
    by y (swap.Deciding r) h = absurd (none-some answer h)
    by y swap.Check h = absurd (none-some answer h)

-- by a step that publishes what was made, or offers it
abbrev pub IsFirst : Action → Type 0
IsFirst (act.Publish i m f) = Unit {0}
IsFirst (act.Offer offer) = Unit {0}
IsFirst action = ⊥

first_by : (i m f : Ref) (l : SwapLine) → IsFirst (action_at i m f l) → l ≡ swap.Publish
first_by i m f swap.Publish h = refl
first_by i m f (swap.Deciding read.Main) h = absurd h
first_by i m f (swap.Deciding (read.Prev main)) h = absurd h
first_by i m f (swap.Deciding (read.AskRoot main previous)) h = absurd h
first_by i m f (swap.Deciding (read.Abort main previous offer)) h = absurd h
first_by i m f (swap.Deciding (read.Decide main previous told)) h = absurd h
first_by i m f (swap.Deciding (read.Restore main previous)) h = absurd h
first_by i m f swap.Check h = absurd h

pub first_line : (state : State) (o : Operation) → IsFirst (action_of state o) → (why : Purpose) (w : Swap) → o.line ≡ line.Swap why w → w.line ≡ swap.Publish
first_line state o h why w on = first_by w.indirection w.replaced w.fresh w.line (subst (λ l. IsFirst (action_of state (record o { line = l }))) on h)

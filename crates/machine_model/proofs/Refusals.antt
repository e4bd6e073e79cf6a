-- Which steps lead to the end for want of slots.
use Rattle.std.proofs.Common.{◌≡◌, [], arith}
use Rattle.machine_model.specs.Beneath.ctrie_base.specs.declared.kinds.Kind.TheVariants as kind
use Rattle.history.specs.declared.calls.Call.{Call}
use Rattle.history.specs.declared.replies.Reply.TheVariants as reply
use Rattle.machine_model.specs.declared.actions.Action.{Action}
use Rattle.machine_model.specs.declared.actions.Action.TheVariants as act
use Rattle.machine_model.specs.declared.operations.Operation.{Operation}
use Rattle.machine_model.specs.declared.lines.Line.{Line}
use Rattle.machine_model.specs.declared.lines.Line.TheVariants as line
use Rattle.machine_model.specs.declared.lines.Purpose.{Purpose}
use Rattle.machine_model.specs.declared.reading.Swap.{Swap}
use Rattle.machine_model.specs.declared.roots.RootLine.{RootLine}
use Rattle.machine_model.specs.declared.finding.KeyLine.{KeyLine}
use Rattle.machine_model.specs.declared.building.BuildLine.{BuildLine}
use Rattle.machine_model.specs.declared.repairs.RenewLine.{RenewLine}
use Rattle.machine_model.specs.declared.repairs.CleanLine.{CleanLine}
use Rattle.machine_model.specs.declared.repairs.ClimbLine.{ClimbLine}
use Rattle.machine_model.specs.declared.copying.CopyLine.{CopyLine}
use Rattle.machine_model.specs.declared.walking.WalkLine.{WalkLine}
use Rattle.machine_model.specs.States.{State}
use Rattle.machine_model.specs.Operations.{kind_of, line_action, line_after, first_line}
use Rattle.machine_model.specs.Renewing.{renew_action, renew_after}
use Rattle.machine_model.specs.Finding.{key_after}
use Rattle.machine_model.specs.Building.{build_action, build_after}
use Rattle.machine_model.specs.Cleaning.{clean_action, clean_after}
use Rattle.machine_model.specs.Climbing.{climb_after}
use Rattle.machine_model.specs.Copying.{copy_action, copy_after}
use Rattle.machine_model.specs.Walking.{walk_after}
use Rattle.machine_model.specs.Moves.{GoesOn}

-- the operation is about to end for want of slots
abbrev pub IsRefusal : Line → Type 0
IsRefusal (line.End reply.NoSlots) = Unit {0}
IsRefusal l = ⊥

-- the action is to make a node, and no slot is free
abbrev pub WantsSlot : State → Action → Type 0
WantsSlot state action = (kind_of action ≡ kind.Make) × (state.heap.free ≡ [])

-- no operation begins so
pub first_refusal : (call : Call) → IsRefusal (first_line call) → ⊥
first_refusal call h = grind arith

-- One lemma for each program: where a step of it leads to that end.

-- ROOT never
root_refusal : (state : State) (operation : Operation) (l : RootLine) → IsRefusal (line_after state operation (line.Root l)) → ⊥
root_refusal state operation l h = grind arith

-- KEY never
key_refusal : (state : State) (operation : Operation) (l : KeyLine) → IsRefusal (key_after state operation l) → ⊥
key_refusal state operation l h = grind arith

-- the nodes for a change of a key: for want of a slot
build_refusal : (state : State) (operation : Operation) (l : BuildLine) → IsRefusal (build_after state operation l) →
    WantsSlot state (build_action state operation l)
build_refusal state operation l h = grind arith

-- SWAP never
swap_refusal : (state : State) (operation : Operation) (why : Purpose) (s : Swap) → IsRefusal (line_after state operation (line.Swap why s)) → ⊥
swap_refusal state operation why s h = grind arith

-- RENEW: for want of a slot
renew_refusal : (state : State) (operation : Operation) (l : RenewLine) → IsRefusal (renew_after state operation l) →
    WantsSlot state (renew_action state operation l)
renew_refusal state operation l h = grind arith

-- CLEAN: for want of a slot
clean_refusal : (state : State) (operation : Operation) (l : CleanLine) → IsRefusal (clean_after state operation l) → WantsSlot state (clean_action state l)
clean_refusal state operation l h = grind arith

-- CLIMB never: it is given up
climb_refusal : (state : State) (operation : Operation) (l : ClimbLine) → IsRefusal (climb_after state operation l) → ⊥
climb_refusal state operation l h = grind arith

-- COPY: for want of a slot
copy_refusal : (state : State) (operation : Operation) (l : CopyLine) → IsRefusal (copy_after state operation l) → WantsSlot state (copy_action l)
copy_refusal state operation l h = grind arith

-- WALK never
walk_refusal : (state : State) (operation : Operation) (l : WalkLine) → IsRefusal (walk_after state operation l) → ⊥
walk_refusal state operation l h = grind arith

-- an operation comes to that end only by a step that is to make a node, where no slot is free
pub refusal : (state : State) (operation : Operation) (l : Line) → GoesOn (line_action state operation l) → IsRefusal (line_after state operation l) →
    WantsSlot state (line_action state operation l)
refusal state operation (line.Root l) g h = absurd (root_refusal state operation l h)
refusal state operation (line.Key l) g h = absurd (key_refusal state operation l h)
refusal state operation (line.Build l) g h = build_refusal state operation l h
refusal state operation (line.Swap why s) g h = absurd (swap_refusal state operation why s h)
refusal state operation (line.Renew l) g h = renew_refusal state operation l h
refusal state operation (line.Clean l) g h = clean_refusal state operation l h
refusal state operation (line.Climb l) g h = absurd (climb_refusal state operation l h)
refusal state operation (line.Copy l) g h = copy_refusal state operation l h
refusal state operation (line.Walk l) g h = absurd (walk_refusal state operation l h)
refusal state operation (line.End answer) g h = absurd g
refusal state operation line.Impossible g h = absurd h

-- an operation whose next step is such an end stands on that line
pub end_line : (state : State) (operation : Operation) (l : Line) → line_action state operation l ≡ act.End reply.NoSlots → IsRefusal l
end_line state operation l e = grind arith

-- Where an operation is to make a node and no slot is free, to give up comes to the same as to go on.
use Rattle.std.proofs.Common.{◌≡◌, ℕ, Bool, List, [], Option, Some, None, Ok, refl, ap, ◌∙◌, sym, arith}
use Rattle.history.specs.declared.replies.Reply.{Reply}
use Rattle.history.specs.declared.replies.Reply.TheVariants as reply
use Rattle.machine_model.specs.Beneath.ctrie_base.specs.declared.kinds.Kind.{Kind}
use Rattle.machine_model.specs.Beneath.ctrie_base.specs.declared.kinds.Kind.TheVariants as kind
use Rattle.machine_model.specs.Beneath.ctrie_base.specs.declared.refusals.Refusal.{Refusal}
use Rattle.machine_model.specs.Beneath.slot_arena.specs.declared.refs.Ref.{Ref}
use Rattle.machine_model.specs.Beneath.slot_arena.specs.Heaps.{Heap, taken}
use Rattle.machine_model.specs.Beneath.slot_arena.specs.declared.nodes.Node.{Node}
use Rattle.machine_model.specs.declared.actions.Action.{Action}
use Rattle.machine_model.specs.declared.actions.Action.TheVariants as act
use Rattle.machine_model.specs.declared.operations.Operation.{Operation}
use Rattle.machine_model.specs.declared.building.BuildLine.{BuildLine}
use Rattle.machine_model.specs.declared.finding.KeyLine.{KeyLine}
use Rattle.machine_model.specs.declared.copying.CopyLine.{CopyLine}
use Rattle.machine_model.specs.declared.lines.Purpose.{Purpose}
use Rattle.machine_model.specs.declared.reading.Swap.{Swap}
use Rattle.machine_model.specs.declared.repairs.RenewLine.{RenewLine}
use Rattle.machine_model.specs.declared.repairs.CleanLine.{CleanLine}
use Rattle.machine_model.specs.declared.repairs.ClimbLine.{ClimbLine}
use Rattle.machine_model.specs.declared.roots.RootLine.{RootLine}
use Rattle.machine_model.specs.declared.roots.RootLine.TheVariants as root
use Rattle.machine_model.specs.declared.walking.WalkLine.{WalkLine}
use Rattle.machine_model.specs.declared.lines.Line.{Line}
use Rattle.machine_model.specs.declared.lines.Line.TheVariants as line
use Rattle.machine_model.specs.declared.steps.Outcome.TheVariants as outcome
use Rattle.machine_model.specs.States.{State, operation_of, with_operation}
use Rattle.machine_model.specs.Operations.{action_of, line_action, line_after, kind_of, generation_from}
use Rattle.machine_model.specs.Acting.{operation_after, gone, acted, private_after, attempt_after, mark_after}
use Rattle.machine_model.specs.Counting.{settled}
use Rattle.machine_model.specs.GivingUp.{given_up, gave_up, former_of}
use Rattle.machine_model.specs.Calls.{handle_of, changed_reply}
use Rattle.machine_model.specs.Laws.{GivingUpIsFindingNone}
use Rattle.machine_model.specs.Machine.{next, go_denial, go_unless, go_on, step_by, give_up_unless, give_up_on, give_up_by}

-- ---- the operation

-- its step leads to its end, with the reply with which it gives up, and it has read no root
record ComesTo (state : State) (operation : Operation) (l : Line) : Type 0 where
  answer : Reply
  gives_up : given_up operation.call l ≡ Some answer
  ends : line_after state operation l ≡ line.End answer
  rootless : generation_from state operation l ≡ operation.generation

module _ (state : State) (operation : Operation) (none : state.heap.free ≡ []) where
  build_comes : (l : BuildLine) → ComesTo state operation (line.Build l)
  build_comes l = record { answer = reply.NoSlots; gives_up = refl; ends = grind (arith, none); rootless = refl }

  renew_comes : (l : RenewLine) → kind_of (line_action state operation (line.Renew l)) ≡ kind.Make → ComesTo state operation (line.Renew l)
  renew_comes l e = record { answer = reply.NoSlots; gives_up = refl; ends = grind (arith, none, e); rootless = refl }

  clean_comes : (l : CleanLine) → kind_of (line_action state operation (line.Clean l)) ≡ kind.Make → ComesTo state operation (line.Clean l)
  clean_comes l e = record { answer = reply.NoSlots; gives_up = refl; ends = grind (arith, none, e); rootless = refl }

  climb_comes : (l : ClimbLine) → kind_of (line_action state operation (line.Climb l)) ≡ kind.Make → ComesTo state operation (line.Climb l)
  climb_comes l e = record { answer = changed_reply operation.call (former_of l); gives_up = refl; ends = grind (arith, none, e); rootless = refl }

  copy_comes : (l : CopyLine) → kind_of (line_action state operation (line.Copy l)) ≡ kind.Make → ComesTo state operation (line.Copy l)
  copy_comes l e = record { answer = reply.NoSlots; gives_up = grind (arith, e); ends = grind (arith, none, e); rootless = refl }

  root_makes_none : (l : RootLine) → kind_of (line_action state operation (line.Root l)) ≡ kind.Make → ⊥
  root_makes_none l e = grind arith

  key_makes_none : (l : KeyLine) → kind_of (line_action state operation (line.Key l)) ≡ kind.Make → ⊥
  key_makes_none l e = grind arith

  swap_makes_none : (why : Purpose) (s : Swap) → kind_of (line_action state operation (line.Swap why s)) ≡ kind.Make → ⊥
  swap_makes_none why s e = grind arith

  walk_makes_none : (l : WalkLine) → kind_of (line_action state operation (line.Walk l)) ≡ kind.Make → ⊥
  walk_makes_none l e = grind arith

  end_makes_none : (k : Kind) → kind.End ≡ k → k ≡ kind.Make → ⊥
  end_makes_none k h e = grind arith

  comes_to : (l : Line) → kind_of (line_action state operation l) ≡ kind.Make → ComesTo state operation l
  comes_to (line.Root l) e = absurd (root_makes_none l e)
  comes_to (line.Key l) e = absurd (key_makes_none l e)
  comes_to (line.Build l) e = build_comes l
  comes_to (line.Swap why s) e = absurd (swap_makes_none why s e)
  comes_to (line.Renew l) e = renew_comes l e
  comes_to (line.Clean l) e = clean_comes l e
  comes_to (line.Climb l) e = climb_comes l e
  comes_to (line.Copy l) e = copy_comes l e
  comes_to (line.Walk l) e = absurd (walk_makes_none l e)
  comes_to (line.End answer) e = absurd (end_makes_none kind.End refl e)
  comes_to line.Impossible e = absurd (root_makes_none root.Read e)

-- ---- the step

-- where no slot is free the heap stays
taken_none : (heap : Heap) (node : Node) → heap.free ≡ [] → taken heap node ≡ heap
unfolding taken
taken_none heap node none = rw none refl

-- the state after the step is the one in which the operation has given up
stays : (state : State) (handle : ℕ) (action : Action) → kind_of action ≡ kind.Make → state.heap.free ≡ [] → acted state handle action ≡ state
stays state handle (act.Make node) e none = ap (λ (h : Heap). record state { heap = h }) (taken_none state.heap node none)
stays state handle (act.MakeRoot main) e none = grind (arith, none)
stays state handle action e none = grind (arith, e)

private_none : (state : State) (private : List Ref) (action : Action) → kind_of action ≡ kind.Make → state.heap.free ≡ [] → private_after state private action ≡ []
private_none state private action e none = grind (arith, e, none)

attempt_same : (attempt : ℕ) (action : Action) → kind_of action ≡ kind.Make → attempt_after attempt action ≡ attempt
attempt_same attempt action e = grind (arith, e)

mark_same : (mark : Bool) (action : Action) → kind_of action ≡ kind.Make → mark_after mark action ≡ mark
mark_same mark action e = grind (arith, e)

-- and what the step makes of the operation
gives_up_so : (state : State) (operation : Operation) (e : kind_of (action_of state operation) ≡ kind.Make) (none : state.heap.free ≡ []) →
    operation_after state operation ≡ gave_up operation (comes_to state operation none operation.line e).answer
gives_up_so state operation e none =
    let to = comes_to state operation none operation.line e in
    rw (
      private_none state operation.private (action_of state operation) e none,
      attempt_same operation.attempt (action_of state operation) e,
      mark_same operation.is_marked (action_of state operation) e,
      to.ends,
      to.rootless,
    ) refl

-- what the step comes to
goes_so : (state : State) (actor : ℕ) (operation : Operation) (action : Action) → kind_of action ≡ kind.Make →
    step_by state actor operation action ≡ Ok (outcome.Went kind.Make, settled state (gone state actor operation))
goes_so state actor operation action e = grind (arith, e)

by_denial : (state : State) (actor : ℕ) (operation : Operation) → operation_of state actor ≡ Some operation → kind_of (action_of state operation) ≡ kind.Make → state.heap.free ≡ [] →
    (denial : Option Refusal) → give_up_unless state actor denial ≡ go_unless state actor denial
by_denial state actor operation is e none (Some refusal) = refl
by_denial state actor operation is e none None =
    let to = comes_to state operation none operation.line e in
    let after = stays (with_operation state actor (Some (operation_after state operation))) (handle_of operation.call) (action_of state operation) e none in
    let same : gone state actor operation ≡ with_operation state actor (Some (gave_up operation to.answer)) =
    after ∙ ap (λ o. with_operation state actor (Some o)) (gives_up_so state operation e none) in
    ap (give_up_on state actor) is ∙ ap (give_up_by state actor operation) to.gives_up ∙ ap (λ s. Ok (outcome.Went kind.Make, settled state s)) (sym same)
    ∙ sym (goes_so state actor operation (action_of state operation) e) ∙ sym (ap (go_on state actor) is)

pub giving_up_is_finding_none : GivingUpIsFindingNone
unfolding next
giving_up_is_finding_none state actor id (operation, is, same, e, none) = by_denial state actor operation is e none (go_denial state actor)

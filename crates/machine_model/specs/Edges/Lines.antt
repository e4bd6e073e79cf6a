-- Any line: the ways of its program.
use Rattle.history.specs.declared.replies.Reply.{Reply}
use Rattle.machine_model.specs.declared.operations.Operation.{Operation}
use Rattle.machine_model.specs.declared.building.BuildLine.{BuildLine}
use Rattle.machine_model.specs.declared.copying.CopyLine.{CopyLine}
use Rattle.machine_model.specs.declared.finding.KeyLine.{KeyLine}
use Rattle.machine_model.specs.declared.lines.Line.{Line}
use Rattle.machine_model.specs.declared.lines.Line.TheVariants as line
use Rattle.machine_model.specs.declared.lines.Purpose.{Purpose}
use Rattle.machine_model.specs.declared.reading.Swap.{Swap}
use Rattle.machine_model.specs.declared.repairs.CleanLine.{CleanLine}
use Rattle.machine_model.specs.declared.repairs.ClimbLine.{ClimbLine}
use Rattle.machine_model.specs.declared.repairs.RenewLine.{RenewLine}
use Rattle.machine_model.specs.declared.roots.RootLine.{RootLine}
use Rattle.machine_model.specs.declared.walking.WalkLine.{WalkLine}
use Rattle.machine_model.specs.States.{State}
use Rattle.machine_model.specs.Edges.Key.{KeyEdge}
use Rattle.machine_model.specs.Edges.Roots.{RootEdge, CopyEdge}
use Rattle.machine_model.specs.Edges.Repairs.{RenewEdge, CleanEdge, ClimbEdge}
use Rattle.machine_model.specs.Edges.Building.{BuildEdge, SwapEdge}
use Rattle.machine_model.specs.Edges.Walking.{WalkEdge}

pub data Edge (state : State) (operation : Operation) : Line → Line → Type 0 where
  of_root : (l : RootLine) (next : Line) → RootEdge state operation l next → Edge state operation (line.Root l) next
  of_key : (l : KeyLine) (next : Line) → KeyEdge state operation l next → Edge state operation (line.Key l) next
  of_build : (l : BuildLine) (next : Line) → BuildEdge state operation l next → Edge state operation (line.Build l) next
  of_swap : (why : Purpose) (s : Swap) (next : Line) → SwapEdge state operation why s s.line next → Edge state operation (line.Swap why s) next
  of_renew : (l : RenewLine) (next : Line) → RenewEdge state operation l next → Edge state operation (line.Renew l) next
  of_clean : (l : CleanLine) (next : Line) → CleanEdge state operation l next → Edge state operation (line.Clean l) next
  of_climb : (l : ClimbLine) (next : Line) → ClimbEdge state operation l next → Edge state operation (line.Climb l) next
  of_copy : (l : CopyLine) (next : Line) → CopyEdge state operation l next → Edge state operation (line.Copy l) next
  of_walk : (l : WalkLine) (next : Line) → WalkEdge state operation l next → Edge state operation (line.Walk l) next
  stays : (answer : Reply) → Edge state operation (line.End answer) (line.End answer)
  strays : Edge state operation line.Impossible line.Impossible

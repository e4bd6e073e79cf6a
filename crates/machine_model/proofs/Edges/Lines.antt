-- Each step is one of the ways from its line.
use Rattle.machine_model.specs.declared.operations.Operation.{Operation}
use Rattle.machine_model.specs.declared.lines.Line.{Line}
use Rattle.machine_model.specs.declared.lines.Line.TheVariants as line
use Rattle.machine_model.specs.States.{State}
use Rattle.machine_model.specs.Operations.{line_after}
use Rattle.machine_model.specs.Edges.Lines.{Edge, of_root, of_key, of_build, of_swap, of_renew, of_clean, of_climb, of_copy, of_walk, stays, strays}
use Rattle.machine_model.proofs.Edges.Key.{key_edge}
use Rattle.machine_model.proofs.Edges.Roots.{root_edge, copy_edge}
use Rattle.machine_model.proofs.Edges.Repairs.{renew_edge, clean_edge, climb_edge}
use Rattle.machine_model.proofs.Edges.Building.{build_edge, swap_edge}
use Rattle.machine_model.proofs.Edges.Walking.{walk_edge}

pub edge : (state : State) (operation : Operation) (l : Line) → Edge state operation l (line_after state operation l)
edge state operation (line.Root l) = of_root l _ (root_edge state operation l)
edge state operation (line.Key l) = of_key l _ (key_edge state operation l)
edge state operation (line.Build l) = of_build l _ (build_edge state operation l)
edge state operation (line.Swap why s) = of_swap why s _ (swap_edge state operation why s s.line)
edge state operation (line.Renew l) = of_renew l _ (renew_edge state operation l)
edge state operation (line.Clean l) = of_clean l _ (clean_edge state operation l)
edge state operation (line.Climb l) = of_climb l _ (climb_edge state operation l)
edge state operation (line.Copy l) = of_copy l _ (copy_edge state operation l)
edge state operation (line.Walk l) = of_walk l _ (walk_edge state operation l)
edge state operation (line.End answer) = stays answer
edge state operation line.Impossible = strays

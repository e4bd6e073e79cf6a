-- What a running operation has made and nothing names yet, by the line on which it stands: its seat holds this itself.
use Rattle.std.specs.Prelude.{List, [], ◌∷◌}
use Rattle.machine_model.specs.Beneath.slot_arena.specs.declared.refs.Ref.{Ref}
use Rattle.machine_model.specs.Beneath.slot_arena.specs.Heaps.{refs_of_option}
use Rattle.machine_model.specs.declared.building.BuildLine.{BuildLine}
use Rattle.machine_model.specs.declared.building.BuildLine.TheVariants as build
use Rattle.machine_model.specs.declared.building.Change.{Change}
use Rattle.machine_model.specs.declared.building.Change.TheVariants as change
use Rattle.machine_model.specs.declared.copying.CopyLine.{CopyLine}
use Rattle.machine_model.specs.declared.copying.CopyLine.TheVariants as copy
use Rattle.machine_model.specs.declared.lines.Line.{Line}
use Rattle.machine_model.specs.declared.lines.Line.TheVariants as line
use Rattle.machine_model.specs.declared.operations.Operation.{Operation}
use Rattle.machine_model.specs.declared.reading.SwapLine.{SwapLine}
use Rattle.machine_model.specs.declared.reading.SwapLine.TheVariants as swap

-- the single or the indirection that it has made for its change
abbrev pub made_for_change : Change → List Ref
made_for_change (change.Insert single) = single ∷ []
made_for_change (change.Update position entry) = entry ∷ []
made_for_change (change.Remove position) = []
made_for_change (change.Entomb single) = []

abbrev pub made_in_build : BuildLine → List Ref
made_in_build (build.Single path main site former) = []
made_in_build (build.Pair path main position single depth) = single ∷ []
made_in_build (build.Link path main position below depth) = below ∷ []
made_in_build (build.Rung path main position below depth) = below ∷ []
made_in_build (build.Main path main c former) = made_for_change c

-- the main node that it is about to swap in
abbrev pub made_in_swap : SwapLine → Ref → List Ref
made_in_swap swap.Publish fresh = fresh ∷ []
made_in_swap l fresh = []

-- the roots that it is to offer
abbrev pub made_in_copy : CopyLine → List Ref
made_in_copy (copy.Second root main successor) = successor ∷ []
made_in_copy (copy.Cleared root main branch) = branch ∷ []
made_in_copy (copy.Offer offer) = offer.successor ∷ refs_of_option offer.second
made_in_copy l = []

-- RENEW makes indirections alone before its branch, which names them all
abbrev pub owes_on : List Ref → Line → List Ref
owes_on private (line.Build l) = made_in_build l
owes_on private (line.Swap why s) = made_in_swap s.line s.fresh
owes_on private (line.Renew l) = private
owes_on private (line.Copy l) = made_in_copy l
owes_on private l = []

abbrev pub owes_at : Operation → List Ref
owes_at operation = owes_on operation.private operation.line

-- While others take steps an operation stays, and so does what its next step does.
use Rattle.std.specs.Prelude.{◌≡◌}
use Rattle.proof_waiting.specs.Beneath.slot_arena.specs.declared.refs.Ref.{Ref}
use Rattle.proof_waiting.specs.Beneath.slot_arena.specs.Heaps.{node_at}
use Rattle.proof_waiting.specs.Beneath.machine_model.specs.declared.operations.Operation.{Operation}
use Rattle.proof_waiting.specs.Beneath.machine_model.specs.Operations.{action_of}
use Rattle.proof_waiting.specs.Beneath.machine_model.specs.States.{State}
use Rattle.proof_memory.specs.Laws.{SameNode, IsInUse}
use Rattle.proof_memory.specs.Wants.{AllHold, line_wants}

-- each node that stood stands, but for its main word
pub record NodesStay (before after : State) : Type 0 where
  pub hash : after.limits.hash ≡ before.limits.hash
  pub same : (r : Ref) → IsInUse before.heap r → SameNode (node_at before.heap r) (node_at after.heap r)

-- what the operation's line claims is so
abbrev pub FindsItsLine : State → Operation → Type 0
FindsItsLine state operation = AllHold (IsInUse state.heap) state.heap (line_wants state.limits.hash operation.call operation.access operation.line)

abbrev pub ActionsWait : Type 0
ActionsWait = (before after : State) → NodesStay before after → (operation : Operation) → FindsItsLine before operation → action_of after operation ≡ action_of before operation

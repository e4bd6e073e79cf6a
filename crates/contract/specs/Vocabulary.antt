-- The words of the definition and of the crates below, for the files of this crate.
pub use Rattle.contract.specs.Beneath.ctrie_base.specs.Hashes.{hash_of}
pub use Rattle.contract.specs.Beneath.ctrie_base.specs.Paths.{position_of}
pub use Rattle.contract.specs.Beneath.ctrie_base.specs.declared.hashes.HashKind.TheVariants.{Low}
pub use Rattle.contract.specs.Beneath.slot_arena.specs.Heaps.{Heap, bitmap_of, entries_of, entry_at}
unfoldable pub use Rattle.contract.specs.Beneath.slot_arena.specs.Heaps.{node_at}
pub use Rattle.contract.specs.Beneath.slot_arena.specs.Views.{viewed}
pub use Rattle.contract.specs.Beneath.slot_arena.specs.declared.nodes.Node.{Node}
pub use Rattle.contract.specs.Beneath.slot_arena.specs.declared.nodes.Node.TheVariants.{Branch, Indirection, List, Single, Tomb}
pub use Rattle.contract.specs.Beneath.slot_arena.specs.declared.refs.Ref.{Ref}
pub use Rattle.contract.specs.Beneath.nodes.specs.Builders.{contracted, renewed}
pub use Rattle.contract.specs.Beneath.nodes.specs.Levels.{flag_of}
pub use Rattle.contract.specs.Beneath.history.specs.declared.calls.Access.{Access}
pub use Rattle.contract.specs.Beneath.history.specs.declared.calls.Access.TheVariants.{Writable}
pub use Rattle.contract.specs.Beneath.machine_model.specs.Calls.{handle_of}
pub use Rattle.contract.specs.Beneath.machine_model.specs.Cleaning.{clean_after_entry, clean_after_main, clean_next, cleaned}
pub use Rattle.contract.specs.Beneath.machine_model.specs.Climbing.{climb_after_main, climbed, climbed_node, climbing, higher, holds_it}
pub use Rattle.contract.specs.Beneath.machine_model.specs.Lines.{impossible, new_try}
pub use Rattle.contract.specs.Beneath.machine_model.specs.Operations.{kind_of, line_action, line_after}
pub use Rattle.contract.specs.Beneath.machine_model.specs.Paths.{above, current, depth_of, is_below_root}
pub use Rattle.contract.specs.Beneath.machine_model.specs.Reading.{reading}
pub use Rattle.contract.specs.Beneath.machine_model.specs.Renewing.{next_entry}
pub use Rattle.contract.specs.Beneath.machine_model.specs.States.{State}
pub use Rattle.contract.specs.Beneath.machine_model.specs.declared.lines.Line.{Line}
pub use Rattle.contract.specs.Beneath.machine_model.specs.declared.operations.Operation.{Operation}
pub use Rattle.contract.specs.Beneath.machine_model.specs.declared.repairs.Climb.{Climb}
pub use Rattle.contract.specs.Beneath.gcas.specs.Reads.{CanReadOn}
pub use Rattle.contract.specs.Beneath.gcas.specs.Swaps.{CanSwapOn, swap_of}
pub use Rattle.contract.specs.Beneath.gcas.specs.declared.next.Next.{Next}
pub use Rattle.contract.specs.Beneath.gcas.specs.declared.next.Next.TheVariants.{AskRoot, Done, More}
pub use Rattle.contract.specs.Beneath.gcas.specs.declared.read.ReadAt.{ReadAt}
pub use Rattle.trie_parts.specs.Here.{at_heap, no_operation, no_state}
pub use Rattle.trie_parts.specs.Steps.{CanMake, StepsOn}
pub use Rattle.trie_parts.specs.declared.calls.Task.{Task}
pub use Rattle.trie_parts.specs.declared.work.Work.{Work}

-- The words of the definition, for the files of this crate.
pub use Rattle.proof_fresh.specs.Beneath.slot_arena.specs.Heaps.{Heap, bitmap_of, entries_of, entry_at, generation_of, logical, main_at}
pub use Rattle.proof_fresh.specs.Beneath.slot_arena.specs.Heaps.{main_of, next_ref, no_ref, node_of, prev_of}
unfoldable pub use Rattle.proof_fresh.specs.Beneath.slot_arena.specs.Heaps.{node_at}
pub use Rattle.proof_fresh.specs.Beneath.slot_arena.specs.declared.nodes.Node.{Node}
pub use Rattle.proof_fresh.specs.Beneath.slot_arena.specs.declared.nodes.Node.TheVariants.{Branch, Indirection, List, Single, Tomb}
pub use Rattle.proof_fresh.specs.Beneath.slot_arena.specs.declared.nodes.Prev.{Prev}
pub use Rattle.proof_fresh.specs.Beneath.slot_arena.specs.declared.nodes.Slot.{Slot}
pub use Rattle.proof_fresh.specs.Beneath.slot_arena.specs.declared.refs.Ref.{Ref}
pub use Rattle.proof_fresh.specs.Beneath.nodes.specs.Builders.{pair, rung}
pub use Rattle.proof_fresh.specs.Beneath.history.specs.declared.calls.Call.{Call}
pub use Rattle.proof_fresh.specs.Beneath.history.specs.declared.calls.Call.TheVariants.{Close, Count, Entries}
pub use Rattle.proof_fresh.specs.Beneath.machine_model.specs.Building.{changed, old_hash}
pub use Rattle.proof_fresh.specs.Beneath.machine_model.specs.Calls.{key_of, value_of}
pub use Rattle.proof_fresh.specs.Beneath.machine_model.specs.Cleaning.{cleaned, leaves_single}
pub use Rattle.proof_fresh.specs.Beneath.machine_model.specs.Climbing.{higher}
pub use Rattle.proof_fresh.specs.Beneath.machine_model.specs.Grown.{node_under, prev_word, standing}
unfoldable pub use Rattle.proof_fresh.specs.Beneath.machine_model.specs.Grown.{grown}
pub use Rattle.proof_fresh.specs.Beneath.machine_model.specs.Machine.{AreBounds}
pub use Rattle.proof_fresh.specs.Beneath.machine_model.specs.Machine.{next_state, run}
pub use Rattle.proof_fresh.specs.Beneath.machine_model.specs.Operations.{action_of, first_line, generation_from, line_action, line_after}
pub use Rattle.proof_fresh.specs.Beneath.machine_model.specs.Paths.{current, depth_of, flag_in, hash_in, is_below_root, start_of}
pub use Rattle.proof_fresh.specs.Beneath.machine_model.specs.Reading.{Commits, Fails, Overtaken, Verdict}
pub use Rattle.proof_fresh.specs.Beneath.machine_model.specs.Reading.{read_action, verdict}
pub use Rattle.proof_fresh.specs.Beneath.machine_model.specs.Renewing.{branch_of, next_entry}
pub use Rattle.proof_fresh.specs.Beneath.machine_model.specs.States.{State, operation_of}
pub use Rattle.proof_fresh.specs.Beneath.machine_model.specs.Swapping.{action_at}
pub use Rattle.proof_fresh.specs.Beneath.machine_model.specs.Times.{IsRun}
pub use Rattle.proof_fresh.specs.Beneath.machine_model.specs.declared.actions.Action.{Action}
pub use Rattle.proof_fresh.specs.Beneath.machine_model.specs.declared.building.BuildLine.{BuildLine}
pub use Rattle.proof_fresh.specs.Beneath.machine_model.specs.declared.building.Change.{Change}
pub use Rattle.proof_fresh.specs.Beneath.machine_model.specs.declared.copying.CopyLine.{CopyLine}
pub use Rattle.proof_fresh.specs.Beneath.machine_model.specs.declared.finding.KeyLine.{KeyLine}
pub use Rattle.proof_fresh.specs.Beneath.machine_model.specs.declared.lines.Line.{Line}
pub use Rattle.proof_fresh.specs.Beneath.machine_model.specs.declared.lines.Purpose.{Purpose}
pub use Rattle.proof_fresh.specs.Beneath.machine_model.specs.declared.operations.Operation.{Operation}
pub use Rattle.proof_fresh.specs.Beneath.machine_model.specs.declared.reading.ReadLine.{ReadLine}
pub use Rattle.proof_fresh.specs.Beneath.machine_model.specs.declared.reading.Swap.{Swap}
pub use Rattle.proof_fresh.specs.Beneath.machine_model.specs.declared.reading.SwapLine.{SwapLine}
pub use Rattle.proof_fresh.specs.Beneath.machine_model.specs.declared.repairs.CleanLine.{CleanLine}
pub use Rattle.proof_fresh.specs.Beneath.machine_model.specs.declared.repairs.Climb.{Climb}
pub use Rattle.proof_fresh.specs.Beneath.machine_model.specs.declared.repairs.ClimbLine.{ClimbLine}
pub use Rattle.proof_fresh.specs.Beneath.machine_model.specs.declared.repairs.RenewLine.{RenewLine}
pub use Rattle.proof_fresh.specs.Beneath.machine_model.specs.declared.roots.Descriptor.{Descriptor}
pub use Rattle.proof_fresh.specs.Beneath.machine_model.specs.declared.roots.RootLine.{RootLine}
pub use Rattle.proof_fresh.specs.Beneath.machine_model.specs.declared.steps.Bounds.{Bounds}
pub use Rattle.proof_fresh.specs.Beneath.machine_model.specs.declared.steps.Step.{Step}
pub use Rattle.proof_fresh.specs.Beneath.machine_model.specs.declared.steps.Step.TheVariants.{Go}
pub use Rattle.proof_fresh.specs.Beneath.machine_model.specs.declared.walking.WalkLine.{WalkLine}

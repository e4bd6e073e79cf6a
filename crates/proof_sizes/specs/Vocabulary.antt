-- The words of the definition, for the files of this crate.
pub use Rattle.proof_sizes.specs.Beneath.ctrie_base.specs.Hashes.{hash_of}
pub use Rattle.proof_sizes.specs.Beneath.ctrie_base.specs.Paths.{position_of}
pub use Rattle.proof_sizes.specs.Beneath.ctrie_base.specs.Sorting.{put_by}
pub use Rattle.proof_sizes.specs.Beneath.slot_arena.specs.Arenas.{IsLive, has_birth, is_main_node}
pub use Rattle.proof_sizes.specs.Beneath.slot_arena.specs.Heaps.{Heap, empty_branch, entries_from, entries_of, generation_at, generation_of, in_use, logical, logical_main, main_at, main_of, no_ref}
pub use Rattle.proof_sizes.specs.Beneath.slot_arena.specs.Heaps.{node_of, prev_of, refs_of_node, refs_of_prev, refs_of_slot}
unfoldable pub use Rattle.proof_sizes.specs.Beneath.slot_arena.specs.Heaps.{node_at, prev_at, stored}
pub use Rattle.proof_sizes.specs.Beneath.slot_arena.specs.Refs.{birth_of}
pub use Rattle.proof_sizes.specs.Beneath.slot_arena.specs.Times.{times, without}
pub use Rattle.proof_sizes.specs.Beneath.slot_arena.specs.declared.nodes.Node.{Node}
pub use Rattle.proof_sizes.specs.Beneath.slot_arena.specs.declared.nodes.Node.TheVariants.{Branch, Indirection, List, Single, Tomb}
pub use Rattle.proof_sizes.specs.Beneath.slot_arena.specs.declared.nodes.Prev.{Prev}
pub use Rattle.proof_sizes.specs.Beneath.slot_arena.specs.declared.nodes.Slot.{Slot}
pub use Rattle.proof_sizes.specs.Beneath.slot_arena.specs.declared.refs.Ref.{Ref}
pub use Rattle.proof_sizes.specs.Beneath.proof_contents.specs.Beneath.nodes.specs.Builders.{pair}
pub use Rattle.proof_sizes.specs.Beneath.proof_contents.specs.Beneath.nodes.specs.Levels.{flag_of, index_in, list_depth}
pub use Rattle.proof_sizes.specs.Beneath.history.specs.Histories.{HasEnded}
pub use Rattle.proof_sizes.specs.Beneath.history.specs.declared.calls.Access.{Access}
pub use Rattle.proof_sizes.specs.Beneath.history.specs.declared.calls.Access.TheVariants.{Writable}
pub use Rattle.proof_sizes.specs.Beneath.history.specs.declared.calls.Call.{Call}
pub use Rattle.proof_sizes.specs.Beneath.history.specs.declared.calls.Call.TheVariants.{Close, Freeze, Put, PutIfAbsent, Snapshot}
pub use Rattle.proof_sizes.specs.Beneath.history.specs.declared.replies.Reply.{Reply}
pub use Rattle.proof_sizes.specs.Beneath.history.specs.declared.replies.Reply.TheVariants.{Found}
pub use Rattle.proof_sizes.specs.Beneath.machine_model.specs.Acting.{opened_root, operation_after}
pub use Rattle.proof_sizes.specs.Beneath.machine_model.specs.Calls.{changed_reply, handle_of, inserts}
pub use Rattle.proof_sizes.specs.Beneath.machine_model.specs.Cleaning.{is_single}
pub use Rattle.proof_sizes.specs.Beneath.machine_model.specs.Contents.{IsReached, content_at, from_slot, most_levels, pairs_at}
unfoldable pub use Rattle.proof_sizes.specs.Beneath.machine_model.specs.Contents.{pairs_below}
pub use Rattle.proof_sizes.specs.Beneath.machine_model.specs.Counting.{refs_of_root, refs_of_word}
pub use Rattle.proof_sizes.specs.Beneath.machine_model.specs.Grown.{main_before, main_word, node_under, of_birth, prev_word, standing}
unfoldable pub use Rattle.proof_sizes.specs.Beneath.machine_model.specs.Grown.{grown}
pub use Rattle.proof_sizes.specs.Beneath.machine_model.specs.Keys.{FitsKey, KeysFit}
pub use Rattle.proof_sizes.specs.Beneath.machine_model.specs.Machine.{AreBounds, is_busy, is_taken_step, run, taken_steps}
unfoldable pub use Rattle.proof_sizes.specs.Beneath.machine_model.specs.Machine.{next, taken_from}
pub use Rattle.proof_sizes.specs.Beneath.machine_model.specs.Moves.{Moves}
pub use Rattle.proof_sizes.specs.Beneath.machine_model.specs.Pairs.{by_key, comes_before}
pub use Rattle.proof_sizes.specs.Beneath.machine_model.specs.Records.{Record, closed_at, is_placed, place_of, record_of}
pub use Rattle.proof_sizes.specs.Beneath.machine_model.specs.States.{State, operation_of, root_at, root_of, word_at, word_of}
unfoldable pub use Rattle.proof_sizes.specs.Beneath.machine_model.specs.States.{first_state}
pub use Rattle.proof_sizes.specs.Beneath.machine_model.specs.Tellings.{entrant_of}
pub use Rattle.proof_sizes.specs.Beneath.machine_model.specs.Times.{IsRun, last_of, records_of, states_of}
pub use Rattle.proof_sizes.specs.Beneath.machine_model.specs.declared.operations.Operation.{Operation}
pub use Rattle.proof_sizes.specs.Beneath.machine_model.specs.declared.reading.ReadLine.{ReadLine}
pub use Rattle.proof_sizes.specs.Beneath.machine_model.specs.declared.reading.SwapLine.TheVariants.{Deciding}
pub use Rattle.proof_sizes.specs.Beneath.machine_model.specs.declared.roots.Descriptor.{Descriptor}
pub use Rattle.proof_sizes.specs.Beneath.machine_model.specs.declared.roots.Root.{Root}
pub use Rattle.proof_sizes.specs.Beneath.machine_model.specs.declared.roots.RootWord.{RootWord}
pub use Rattle.proof_sizes.specs.Beneath.machine_model.specs.declared.roots.RootWord.TheVariants.{Offer, Plain}
pub use Rattle.proof_sizes.specs.Beneath.machine_model.specs.declared.steps.Bounds.{Bounds}
pub use Rattle.proof_sizes.specs.Beneath.machine_model.specs.declared.steps.Outcome.{Outcome}
pub use Rattle.proof_sizes.specs.Beneath.machine_model.specs.declared.steps.Step.{Step}
pub use Rattle.proof_sizes.specs.Beneath.machine_model.specs.declared.steps.Step.TheVariants.{Go, Sweep}

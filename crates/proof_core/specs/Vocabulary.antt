-- The words of the definition and of the crates below, for the files of this crate.
pub use Rattle.proof_core.specs.Beneath.ctrie_base.specs.Hashes.{hash_of}
pub use Rattle.proof_core.specs.Beneath.ctrie_base.specs.Paths.{index_at, position_of}
pub use Rattle.proof_core.specs.Beneath.ctrie_base.specs.Sorting.{put_by, sorted_by}
pub use Rattle.proof_core.specs.Beneath.ctrie_base.specs.declared.hashes.HashKind.{HashKind}
pub use Rattle.proof_core.specs.Beneath.ctrie_base.specs.declared.kinds.Kind.{Kind}
pub use Rattle.proof_core.specs.Beneath.ctrie_base.specs.declared.refusals.Refusal.{Refusal}
pub use Rattle.proof_core.specs.Beneath.slot_arena.specs.Arenas.{AreLive, IsLive, has_birth, is_indirection, is_main_node}
pub use Rattle.proof_core.specs.Beneath.slot_arena.specs.Heaps.{Heap, empty_branch, entries_of, entry_at, in_use, logical_main, main_at, main_of, no_ref, node_of, prev_changed, prev_of}
pub use Rattle.proof_core.specs.Beneath.slot_arena.specs.Heaps.{refs_of_node, refs_of_option, take_from}
unfoldable pub use Rattle.proof_core.specs.Beneath.slot_arena.specs.Heaps.{freed, node_at, prev_at, stored, taken, with_main, with_prev}
pub use Rattle.proof_core.specs.Beneath.slot_arena.specs.Refs.{birth_limit, birth_of, most_slots, ref_to, slot_of}
pub use Rattle.proof_core.specs.Beneath.slot_arena.specs.Ticking.{TakesUpTo}
pub use Rattle.proof_core.specs.Beneath.slot_arena.specs.Times.{times, without}
pub use Rattle.proof_core.specs.Beneath.slot_arena.specs.declared.nodes.Node.{Node}
pub use Rattle.proof_core.specs.Beneath.slot_arena.specs.declared.nodes.Node.TheVariants.{Branch, Indirection, List, Single, Tomb}
pub use Rattle.proof_core.specs.Beneath.slot_arena.specs.declared.nodes.Prev.{Prev}
pub use Rattle.proof_core.specs.Beneath.slot_arena.specs.declared.nodes.Slot.{Slot}
pub use Rattle.proof_core.specs.Beneath.slot_arena.specs.declared.refs.Ref.{Ref}
pub use Rattle.proof_core.specs.Beneath.epochs.specs.Limbo.{is_in, is_in_use, is_zero, limbo_after, newly_zero}
pub use Rattle.proof_core.specs.Beneath.epochs.specs.Memories.{Settles, staying, zeroed_at}
pub use Rattle.proof_core.specs.Beneath.epochs.specs.Sweeping.{Reclaimer, ripe, sweep_by}
pub use Rattle.proof_core.specs.Beneath.epochs.specs.declared.limbo.Zeroed.{Zeroed}
pub use Rattle.proof_core.specs.Beneath.nodes.specs.Levels.{flag_of, has_flag, index_in, list_depth, parting}
pub use Rattle.proof_core.specs.Beneath.history.specs.declared.calls.Access.{Access}
pub use Rattle.proof_core.specs.Beneath.history.specs.declared.calls.Call.{Call}
pub use Rattle.proof_core.specs.Beneath.machine_model.specs.Acting.{acted, attempt_after, ended, gone, if_changed, marked, new_root_taken, operation_after, published}
pub use Rattle.proof_core.specs.Beneath.machine_model.specs.Calls.{handle_of, is_close, needs_read_only}
pub use Rattle.proof_core.specs.Beneath.machine_model.specs.Contents.{IsReached, content_at, most_levels, pairs_at}
unfoldable pub use Rattle.proof_core.specs.Beneath.machine_model.specs.Contents.{pairs_below}
pub use Rattle.proof_core.specs.Beneath.machine_model.specs.Counting.{outside, refs_of_operation, refs_of_root, refs_of_word, settled}
pub use Rattle.proof_core.specs.Beneath.machine_model.specs.Grown.{node_under}
pub use Rattle.proof_core.specs.Beneath.machine_model.specs.Keys.{FitsKey, KeysFit}
pub use Rattle.proof_core.specs.Beneath.machine_model.specs.Machine.{Answer, AreBounds, begin_denial, begun_operation, go_denial, handle_closed, handles_taken, is_number, is_running, is_spent}
pub use Rattle.proof_core.specs.Beneath.machine_model.specs.Machine.{is_taken, is_taken_step, least_free, longest_life, most_actors, names, next_state, pin_of, reclaimer_of, reserved_by, run}
pub use Rattle.proof_core.specs.Beneath.machine_model.specs.Machine.{runs_on, state_after, with_begin}
unfoldable pub use Rattle.proof_core.specs.Beneath.machine_model.specs.Machine.{least_from, next, run_from, taken_below}
pub use Rattle.proof_core.specs.Beneath.machine_model.specs.Moves.{Begins, Ends, GivesUp, GoesOn, Moves, Sweeps}
pub use Rattle.proof_core.specs.Beneath.machine_model.specs.Operations.{action_of}
pub use Rattle.proof_core.specs.Beneath.machine_model.specs.Pairs.{by_key, comes_before}
pub use Rattle.proof_core.specs.Beneath.machine_model.specs.States.{State, empty_heap, handle_limit, operation_of, root_at, root_of, word_at, word_of}
unfoldable pub use Rattle.proof_core.specs.Beneath.machine_model.specs.States.{first_state}
pub use Rattle.proof_core.specs.Beneath.machine_model.specs.Times.{IsRun, last_of, states_of}
pub use Rattle.proof_core.specs.Beneath.machine_model.specs.declared.actions.Action.{Action}
pub use Rattle.proof_core.specs.Beneath.machine_model.specs.declared.operations.Operation.{Operation}
pub use Rattle.proof_core.specs.Beneath.machine_model.specs.declared.roots.Descriptor.{Descriptor}
pub use Rattle.proof_core.specs.Beneath.machine_model.specs.declared.roots.Root.{Root}
pub use Rattle.proof_core.specs.Beneath.machine_model.specs.declared.roots.RootWord.TheVariants.{Offer, Plain}
pub use Rattle.proof_core.specs.Beneath.machine_model.specs.declared.steps.Bounds.{Bounds}
pub use Rattle.proof_core.specs.Beneath.machine_model.specs.declared.steps.Outcome.{Outcome}
pub use Rattle.proof_core.specs.Beneath.machine_model.specs.declared.steps.Step.{Step}
pub use Rattle.proof_core.specs.Beneath.proof_contents.specs.InUse.{ReachesInUse}
pub use Rattle.proof_core.specs.Beneath.proof_contents.specs.Nodes.Branches.{HasPlaces, at_place}
pub use Rattle.proof_core.specs.Beneath.proof_contents.specs.Nodes.Lists.{AreSingles}
pub use Rattle.proof_core.specs.Beneath.proof_contents.specs.Nodes.Looking.{Absent, Has, look_among, look_at, look_in, or_else, value_by}
unfoldable pub use Rattle.proof_core.specs.Beneath.proof_contents.specs.Nodes.Looking.{find_at}
pub use Rattle.proof_core.specs.Beneath.proof_contents.specs.Runs.{counting_main}
pub use Rattle.proof_core.specs.Beneath.proof_contents.specs.Tries.{IsShaped, Trie, branch, list, tomb}
pub use Rattle.proof_core.specs.Beneath.proof_memory.specs.Laws.{IsInUse}
pub use Rattle.proof_core.specs.Beneath.proof_memory.specs.Levels.{EntryLevel, InsideLevel, KindLevel, NodeLevel}
pub use Rattle.proof_core.specs.Beneath.proof_memory.specs.Wants.{AMain, ASingle, AllHold, AnEntry, AnIndirection, Anything, Claim, Holds, Is, Wanted, action_wants, is, is_formed, meets, node_wants}
pub use Rattle.proof_core.specs.Beneath.proof_memory.specs.Wants.{offer_wants, prev_wants, word_wants}
pub use Rattle.proof_core.specs.Beneath.proof_shape.specs.Sites.At.{StepsFit, TakesSteps}
pub use Rattle.proof_core.specs.Beneath.proof_shape.specs.Sites.Lines.{bare}
pub use Rattle.proof_core.specs.Beneath.proof_shape.specs.Sites.Nodes.{path_to}
pub use Rattle.proof_operations.specs.Laws.{LineHasRoom}
pub use Rattle.proof_straight.specs.Drafts.{Draft, held_with, next_made, redrafted}
pub use Rattle.proof_straight.specs.Places.{below, entry_for, to_root}
pub use Rattle.proof_straight.specs.Resting.{IsOfRun}
pub use Rattle.proof_straight.specs.Running.{HasEmptySlots}

-- The words of the definition, for the files of this crate.
pub use Rattle.proof_memory.specs.Beneath.ctrie_base.specs.Hashes.{hash_of}
pub use Rattle.proof_memory.specs.Beneath.ctrie_base.specs.Paths.{position_of}
pub use Rattle.proof_memory.specs.Beneath.ctrie_base.specs.declared.hashes.HashKind.{HashKind}
pub use Rattle.proof_memory.specs.Beneath.ctrie_base.specs.declared.hashes.HashKind.TheVariants.{Block, Fold, Low, Wide}
pub use Rattle.proof_memory.specs.Beneath.ctrie_base.specs.declared.refusals.Refusal.{Refusal}
pub use Rattle.proof_memory.specs.Beneath.slot_arena.specs.Arenas.{IsLive, has_birth}
unfoldable pub use Rattle.proof_memory.specs.Beneath.slot_arena.specs.Counts.{count_of}
pub use Rattle.proof_memory.specs.Beneath.slot_arena.specs.Heaps.{Heap, bitmap_of, empty_branch, entries_from, entries_of, entry_at, generation_at, generation_of, heap_refs, in_use, logical}
pub use Rattle.proof_memory.specs.Beneath.slot_arena.specs.Heaps.{logical_main, main_at, main_changed, main_of, named_from, next_ref, no_ref, prev_changed, ref_in, refs_of_node, refs_of_option}
pub use Rattle.proof_memory.specs.Beneath.slot_arena.specs.Heaps.{refs_of_prev, refs_of_slot, take_from, with_main_word, written}
unfoldable pub use Rattle.proof_memory.specs.Beneath.slot_arena.specs.Heaps.{freed, node_at, prev_at, stored, taken, with_main, with_prev}
pub use Rattle.proof_memory.specs.Beneath.slot_arena.specs.Refs.{birth_of, ref_to, slot_of}
pub use Rattle.proof_memory.specs.Beneath.slot_arena.specs.Times.{times}
pub use Rattle.proof_memory.specs.Beneath.slot_arena.specs.declared.nodes.Node.{Node}
pub use Rattle.proof_memory.specs.Beneath.slot_arena.specs.declared.nodes.Node.TheVariants.{Branch, Indirection, List, Single, Tomb}
pub use Rattle.proof_memory.specs.Beneath.slot_arena.specs.declared.nodes.Prev.{Prev}
pub use Rattle.proof_memory.specs.Beneath.slot_arena.specs.declared.nodes.Slot.{Slot}
pub use Rattle.proof_memory.specs.Beneath.slot_arena.specs.declared.refs.Ref.{Ref}
pub use Rattle.proof_memory.specs.Beneath.epochs.specs.Limbo.{by_birth, is_in, is_in_use, is_zero, limbo_after, newly_zero}
pub use Rattle.proof_memory.specs.Beneath.epochs.specs.Sweeping.{Reclaimer, advanced, is_passed, ripe, scanned, sweep_by}
pub use Rattle.proof_memory.specs.Beneath.epochs.specs.declared.limbo.Swept.{Swept}
pub use Rattle.proof_memory.specs.Beneath.epochs.specs.declared.limbo.Zeroed.{Zeroed}
pub use Rattle.proof_memory.specs.Beneath.nodes.specs.Builders.{by_index, contracted, pair, renewed, rung}
pub use Rattle.proof_memory.specs.Beneath.nodes.specs.Levels.{flag_of, has_flag, index_in, list_depth, parting}
pub use Rattle.proof_memory.specs.Beneath.history.specs.declared.calls.Access.{Access}
pub use Rattle.proof_memory.specs.Beneath.history.specs.declared.calls.Access.TheVariants.{ReadOnly, Writable}
pub use Rattle.proof_memory.specs.Beneath.history.specs.declared.calls.Call.{Call}
pub use Rattle.proof_memory.specs.Beneath.history.specs.declared.calls.Call.TheVariants.{Clear, Close, Count, Entries, Freeze, Get, Snapshot}
pub use Rattle.proof_memory.specs.Beneath.history.specs.declared.replies.Reply.{Reply}
pub use Rattle.machine_model.specs.Acting.{acted, carried_out, decided, gone, if_changed, new_root_taken, opened, opened_root, operation_after, private_after, published, restored, with_made}
pub use Rattle.machine_model.specs.Building.{after_link, after_single, build_action, build_after, build_after_made, build_if_made, changed, old_hash, pair_depth}
pub use Rattle.machine_model.specs.Calls.{handle_of, inserts, is_close, key_of, needs_writable, when_found}
pub use Rattle.machine_model.specs.Cleaning.{after_child, clean_after, clean_after_contracted, clean_after_entry, clean_after_main, clean_after_read, clean_after_tomb, clean_next, is_single}
pub use Rattle.machine_model.specs.Cleaning.{leaves_single}
pub use Rattle.machine_model.specs.Climbing.{climb_after, climb_after_contracted, climb_after_main, climb_after_read, climb_after_root, climbed_node, climbing, higher, holds_it, place_in}
pub use Rattle.machine_model.specs.Contents.{IsReached, content_at, from_slot, got_by, got_in, got_of, held, most_levels, pairs_at, while_running}
unfoldable pub use Rattle.machine_model.specs.Contents.{held_from, pairs_below}
pub use Rattle.machine_model.specs.Copying.{after_given, after_offer, after_successor, copy_after, copy_after_complete, copy_after_made, copy_after_read, copy_if_made}
pub use Rattle.machine_model.specs.Counting.{outside, refs_of_operation, refs_of_root, refs_of_word, settled}
pub use Rattle.machine_model.specs.Finding.{absent, absent_beside, absent_listed, after_listed, after_sibling, after_tomb, found_so, is_passable, key_action, key_after, key_after_entry}
pub use Rattle.machine_model.specs.Finding.{key_after_main, key_after_read, removing}
pub use Rattle.machine_model.specs.GivingUp.{gave_up, given_up}
pub use Rattle.machine_model.specs.Grown.{main_word, node_under, of_birth, or_before, prev_word, standing}
unfoldable pub use Rattle.machine_model.specs.Grown.{grown}
pub use Rattle.machine_model.specs.Machine.{Answer, AreBounds, begin_denial, begun_operation, handle_closed, is_busy, is_number, is_taken_step, names, next_state, pin_of, reclaimer_of, run, runs_on}
pub use Rattle.machine_model.specs.Machine.{state_after, swept_with, taken_steps, with_begin}
unfoldable pub use Rattle.machine_model.specs.Machine.{next, run_from}
pub use Rattle.machine_model.specs.Moves.{Begins, Ends, GivesUp, GoesOn, Moves, MovesIfTaken, Sweeps}
pub use Rattle.machine_model.specs.Operations.{action_of, after_root, after_update, climbed_on, completing_read, first_line, generation_from, given_root, line_action, line_after, read_of}
pub use Rattle.machine_model.specs.Operations.{rooting_read, swapped, swapping_read}
pub use Rattle.machine_model.specs.Pairs.{by_key}
pub use Rattle.machine_model.specs.Paths.{above, current, depth_of, flag_in, hash_in, is_below_root, is_start}
pub use Rattle.machine_model.specs.Reading.{Commits, Fails, Overtaken, Verdict, after_ask, after_decide, after_prev, after_restore, at_indirection, read_action, read_after, read_step, verdict}
pub use Rattle.machine_model.specs.Records.{next_record, record_of}
pub use Rattle.machine_model.specs.Renewing.{next_entry, renew_after, renew_after_branch, renew_after_entry, renew_after_link, renew_after_read, renew_next}
pub use Rattle.machine_model.specs.States.{State, empty_heap, first_heap, handle_limit, operation_of, rewritten, root_at, root_of, with_operation, with_root, with_word, word_at, word_of}
unfoldable pub use Rattle.machine_model.specs.States.{first_state}
pub use Rattle.machine_model.specs.Swapping.{action_at, after_check, after_complete, after_completing, after_deciding, after_publish, after_reading, after_root_word, complete_action_at}
pub use Rattle.machine_model.specs.Swapping.{complete_after, completing, is_plain, of_offer, on_line, root_action, root_after, swap_after}
pub use Rattle.machine_model.specs.Times.{IsRun, Turn, states_of, turns}
unfoldable pub use Rattle.machine_model.specs.Times.{states_from}
pub use Rattle.machine_model.specs.Walking.{first_of, rest_of, walk_after, walk_after_entry, walk_after_read, walk_next}
pub use Rattle.machine_model.specs.declared.actions.Action.{Action}
pub use Rattle.machine_model.specs.declared.building.BuildLine.{BuildLine}
pub use Rattle.machine_model.specs.declared.building.Change.{Change}
pub use Rattle.machine_model.specs.declared.building.Site.{Site}
pub use Rattle.machine_model.specs.declared.copying.CopyLine.{CopyLine}
pub use Rattle.machine_model.specs.declared.finding.KeyLine.{KeyLine}
pub use Rattle.machine_model.specs.declared.finding.WhenFound.{WhenFound}
pub use Rattle.machine_model.specs.declared.finding.WhenFound.TheVariants.{Answers, Removes, Sets}
pub use Rattle.machine_model.specs.declared.lines.Line.{Line}
pub use Rattle.machine_model.specs.declared.lines.Purpose.{Purpose}
pub use Rattle.machine_model.specs.declared.operations.Operation.{Operation}
pub use Rattle.machine_model.specs.declared.reading.After.{After}
pub use Rattle.machine_model.specs.declared.reading.After.TheVariants.{Gives}
pub use Rattle.machine_model.specs.declared.reading.Read.{Read}
pub use Rattle.machine_model.specs.declared.reading.ReadLine.{ReadLine}
pub use Rattle.machine_model.specs.declared.reading.Swap.{Swap}
pub use Rattle.machine_model.specs.declared.reading.SwapLine.{SwapLine}
pub use Rattle.machine_model.specs.declared.repairs.CleanLine.{CleanLine}
pub use Rattle.machine_model.specs.declared.repairs.Climb.{Climb}
pub use Rattle.machine_model.specs.declared.repairs.ClimbLine.{ClimbLine}
pub use Rattle.machine_model.specs.declared.repairs.RenewLine.{RenewLine}
pub use Rattle.machine_model.specs.declared.roots.Complete.{Complete}
pub use Rattle.machine_model.specs.declared.roots.CompleteLine.{CompleteLine}
pub use Rattle.machine_model.specs.declared.roots.Descriptor.{Descriptor}
pub use Rattle.machine_model.specs.declared.roots.Root.{Root}
pub use Rattle.machine_model.specs.declared.roots.RootLine.{RootLine}
pub use Rattle.machine_model.specs.declared.roots.RootWord.{RootWord}
pub use Rattle.machine_model.specs.declared.roots.RootWord.TheVariants.{Offer, Plain}
pub use Rattle.machine_model.specs.declared.steps.Bounds.{Bounds}
pub use Rattle.machine_model.specs.declared.steps.Outcome.{Outcome}
pub use Rattle.machine_model.specs.declared.steps.Step.{Step}
pub use Rattle.machine_model.specs.declared.steps.Step.TheVariants.{Sweep}
pub use Rattle.machine_model.specs.declared.walking.WalkLine.{WalkLine}

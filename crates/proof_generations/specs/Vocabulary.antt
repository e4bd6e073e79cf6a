-- The words of the definition and of the crates below, for the files of this crate.
pub use Rattle.proof_generations.specs.Beneath.ctrie_base.specs.declared.hashes.HashKind.{HashKind}
pub use Rattle.proof_generations.specs.Beneath.slot_arena.specs.Heaps.{Heap, bitmap_of, empty_branch, entries_of, entry_at, generation_at, generation_of, logical, logical_main, main_at}
pub use Rattle.proof_generations.specs.Beneath.slot_arena.specs.Heaps.{main_changed, main_of, next_ref, no_ref, node_of, prev_changed, prev_of, refs_of_option, take_from, with_main_word, written}
unfoldable pub use Rattle.proof_generations.specs.Beneath.slot_arena.specs.Heaps.{freed, node_at, prev_at, stored, taken, with_main, with_prev}
pub use Rattle.proof_generations.specs.Beneath.slot_arena.specs.Refs.{ref_to, slot_of}
pub use Rattle.proof_generations.specs.Beneath.slot_arena.specs.declared.nodes.Node.{Node}
pub use Rattle.proof_generations.specs.Beneath.slot_arena.specs.declared.nodes.Node.TheVariants.{Branch, Indirection, List, Single, Tomb}
pub use Rattle.proof_generations.specs.Beneath.slot_arena.specs.declared.nodes.Prev.{Prev}
pub use Rattle.proof_generations.specs.Beneath.slot_arena.specs.declared.nodes.Slot.{Slot}
pub use Rattle.proof_generations.specs.Beneath.slot_arena.specs.declared.refs.Ref.{Ref}
pub use Rattle.proof_generations.specs.Beneath.epochs.specs.Sweeping.{Reclaimer, ripe, sweep_by}
pub use Rattle.proof_generations.specs.Beneath.epochs.specs.declared.limbo.Swept.{Swept}
pub use Rattle.proof_generations.specs.Beneath.nodes.specs.Builders.{by_index, contracted, pair}
pub use Rattle.proof_generations.specs.Beneath.nodes.specs.Levels.{has_flag, index_in, list_depth}
pub use Rattle.proof_generations.specs.Beneath.history.specs.declared.calls.Access.{Access}
pub use Rattle.proof_generations.specs.Beneath.history.specs.declared.calls.Access.TheVariants.{ReadOnly, Writable}
pub use Rattle.proof_generations.specs.Beneath.history.specs.declared.calls.Call.{Call}
pub use Rattle.proof_generations.specs.Beneath.history.specs.declared.calls.Call.TheVariants.{Clear, Close, Count, Entries, Freeze, Snapshot}
pub use Rattle.proof_generations.specs.Beneath.history.specs.declared.replies.Reply.{Reply}
pub use Rattle.proof_generations.specs.Beneath.machine_model.specs.Acting.{aborted, acted, attempt_after, carried_out, completed, decided, gone, if_changed, mark_after, new_root_taken, offered}
pub use Rattle.proof_generations.specs.Beneath.machine_model.specs.Acting.{opened, opened_root, operation_after}
pub use Rattle.proof_generations.specs.Beneath.machine_model.specs.Building.{changed}
pub use Rattle.proof_generations.specs.Beneath.machine_model.specs.Calls.{copies, handle_of, inserts, is_clear, is_close, is_snapshot, key_of, needs_writable, opens_handle, when_found}
pub use Rattle.proof_generations.specs.Beneath.machine_model.specs.Cleaning.{leaves_single}
pub use Rattle.proof_generations.specs.Beneath.machine_model.specs.Climbing.{higher, place_in}
pub use Rattle.proof_generations.specs.Beneath.machine_model.specs.Copying.{after_given, after_offer, after_successor, copied_reply, copy_action, copy_after_complete, copy_after_made}
pub use Rattle.proof_generations.specs.Beneath.machine_model.specs.Copying.{copy_after_read, copy_if_made}
pub use Rattle.proof_generations.specs.Beneath.machine_model.specs.Counting.{settled}
pub use Rattle.proof_generations.specs.Beneath.machine_model.specs.Finding.{absent, absent_beside, after_listed, after_tomb, found_so, key_after_entry, key_after_main, key_after_read, passes}
pub use Rattle.proof_generations.specs.Beneath.machine_model.specs.GivingUp.{gave_up, given_up}
pub use Rattle.proof_generations.specs.Beneath.machine_model.specs.Grown.{main_before, main_word, node_under, or_before, prev_word, standing}
unfoldable pub use Rattle.proof_generations.specs.Beneath.machine_model.specs.Grown.{grown}
pub use Rattle.proof_generations.specs.Beneath.machine_model.specs.Lines.{new_try}
pub use Rattle.proof_generations.specs.Beneath.machine_model.specs.Machine.{AreBounds, access_of, begin_denial, begun_operation, handle_closed, is_actor, is_number, is_taken, next_state, pin_of}
pub use Rattle.proof_generations.specs.Beneath.machine_model.specs.Machine.{reclaimer_of, reserved_by, run, runs_on, taken_steps, with_begin}
unfoldable pub use Rattle.proof_generations.specs.Beneath.machine_model.specs.Machine.{run_from}
pub use Rattle.proof_generations.specs.Beneath.machine_model.specs.Moves.{Begins, Ends, GivesUp, GoesOn, Moves, Sweeps}
pub use Rattle.proof_generations.specs.Beneath.machine_model.specs.Operations.{action_of, after_root, completing_read, first_line, generation_from, given_root, line_action, line_after, read_of}
pub use Rattle.proof_generations.specs.Beneath.machine_model.specs.Operations.{rooting_read}
pub use Rattle.proof_generations.specs.Beneath.machine_model.specs.Paths.{above, current, flag_in, is_below_root, is_start, start_of}
pub use Rattle.proof_generations.specs.Beneath.machine_model.specs.Reading.{Commits, Fails, Overtaken, Verdict, read_action, read_after, read_step, reading, verdict}
pub use Rattle.proof_generations.specs.Beneath.machine_model.specs.Records.{Record, closed_at, closed_by, first_record, moment_after, moment_at, next_record, noted, noted_progress, read_at_after}
pub use Rattle.proof_generations.specs.Beneath.machine_model.specs.Records.{record_of, step_of}
unfoldable pub use Rattle.proof_generations.specs.Beneath.machine_model.specs.Records.{record_from}
pub use Rattle.proof_generations.specs.Beneath.machine_model.specs.Renewing.{next_entry}
pub use Rattle.proof_generations.specs.Beneath.machine_model.specs.States.{Runs, State, empty_heap, first_heap, handle_limit, operation_of, rewritten, root_at, root_of, with_operation, with_word}
pub use Rattle.proof_generations.specs.Beneath.machine_model.specs.States.{word_at, word_of}
unfoldable pub use Rattle.proof_generations.specs.Beneath.machine_model.specs.States.{first_state}
pub use Rattle.proof_generations.specs.Beneath.machine_model.specs.Swapping.{after_complete, after_completing, after_reading, after_root_word, complete_action, complete_after, completing}
pub use Rattle.proof_generations.specs.Beneath.machine_model.specs.Swapping.{is_carried_out, is_plain, is_try, of_offer, root_after, stands_in}
pub use Rattle.proof_generations.specs.Beneath.machine_model.specs.Tellings.{carried_by, counts_from, progress_of, told_in}
pub use Rattle.proof_generations.specs.Beneath.machine_model.specs.Times.{IsRun, Turn, last_of, noted_turn, records_of, states_of, turns}
pub use Rattle.proof_generations.specs.Beneath.machine_model.specs.Walking.{first_of, rest_of, walk_after, walk_after_entry, walk_after_read, walk_next}
pub use Rattle.proof_generations.specs.Beneath.machine_model.specs.declared.actions.Action.{Action}
pub use Rattle.proof_generations.specs.Beneath.machine_model.specs.declared.building.BuildLine.{BuildLine}
pub use Rattle.proof_generations.specs.Beneath.machine_model.specs.declared.building.Change.{Change}
pub use Rattle.proof_generations.specs.Beneath.machine_model.specs.declared.copying.CopyLine.{CopyLine}
pub use Rattle.proof_generations.specs.Beneath.machine_model.specs.declared.finding.KeyLine.{KeyLine}
pub use Rattle.proof_generations.specs.Beneath.machine_model.specs.declared.finding.WhenFound.{WhenFound}
pub use Rattle.proof_generations.specs.Beneath.machine_model.specs.declared.finding.WhenFound.TheVariants.{Answers, Removes, Sets}
pub use Rattle.proof_generations.specs.Beneath.machine_model.specs.declared.lines.Line.{Line}
pub use Rattle.proof_generations.specs.Beneath.machine_model.specs.declared.lines.Purpose.{Purpose}
pub use Rattle.proof_generations.specs.Beneath.machine_model.specs.declared.operations.Operation.{Operation}
pub use Rattle.proof_generations.specs.Beneath.machine_model.specs.declared.reading.After.{After}
pub use Rattle.proof_generations.specs.Beneath.machine_model.specs.declared.reading.After.TheVariants.{Gives}
pub use Rattle.proof_generations.specs.Beneath.machine_model.specs.declared.reading.Read.{Read}
pub use Rattle.proof_generations.specs.Beneath.machine_model.specs.declared.reading.ReadLine.{ReadLine}
pub use Rattle.proof_generations.specs.Beneath.machine_model.specs.declared.reading.Swap.{Swap}
pub use Rattle.proof_generations.specs.Beneath.machine_model.specs.declared.reading.SwapLine.{SwapLine}
pub use Rattle.proof_generations.specs.Beneath.machine_model.specs.declared.records.Carried.{Carried}
pub use Rattle.proof_generations.specs.Beneath.machine_model.specs.declared.records.Closing.{Closing}
pub use Rattle.proof_generations.specs.Beneath.machine_model.specs.declared.records.Moment.{Moment}
pub use Rattle.proof_generations.specs.Beneath.machine_model.specs.declared.repairs.CleanLine.{CleanLine}
pub use Rattle.proof_generations.specs.Beneath.machine_model.specs.declared.repairs.Climb.{Climb}
pub use Rattle.proof_generations.specs.Beneath.machine_model.specs.declared.repairs.ClimbLine.{ClimbLine}
pub use Rattle.proof_generations.specs.Beneath.machine_model.specs.declared.repairs.RenewLine.{RenewLine}
pub use Rattle.proof_generations.specs.Beneath.machine_model.specs.declared.roots.Complete.{Complete}
pub use Rattle.proof_generations.specs.Beneath.machine_model.specs.declared.roots.CompleteLine.{CompleteLine}
pub use Rattle.proof_generations.specs.Beneath.machine_model.specs.declared.roots.Descriptor.{Descriptor}
pub use Rattle.proof_generations.specs.Beneath.machine_model.specs.declared.roots.Root.{Root}
pub use Rattle.proof_generations.specs.Beneath.machine_model.specs.declared.roots.RootLine.{RootLine}
pub use Rattle.proof_generations.specs.Beneath.machine_model.specs.declared.roots.RootWord.{RootWord}
pub use Rattle.proof_generations.specs.Beneath.machine_model.specs.declared.roots.RootWord.TheVariants.{Offer, Plain}
pub use Rattle.proof_generations.specs.Beneath.machine_model.specs.declared.steps.Bounds.{Bounds}
pub use Rattle.proof_generations.specs.Beneath.machine_model.specs.declared.steps.Outcome.{Outcome}
pub use Rattle.proof_generations.specs.Beneath.machine_model.specs.declared.steps.Step.{Step}
pub use Rattle.proof_generations.specs.Beneath.machine_model.specs.declared.steps.Step.TheVariants.{Go}
pub use Rattle.proof_generations.specs.Beneath.machine_model.specs.declared.walking.WalkLine.{WalkLine}
pub use Rattle.proof_contents.specs.Grows.{NodesStay}
pub use Rattle.proof_contents.specs.Lines.Repairs.{ReadsBelow}
pub use Rattle.proof_contents.specs.Runs.{counting_main, is_made, trie_of}
unfoldable pub use Rattle.proof_contents.specs.Runs.{main_within}
pub use Rattle.proof_contents.specs.Tries.{generation, node_in}
pub use Rattle.proof_generations.specs.Beneath.proof_memory.specs.Laws.{IsInUse, SameNode, is_end}
pub use Rattle.proof_generations.specs.Beneath.proof_memory.specs.Making.{made_node}
pub use Rattle.proof_generations.specs.Beneath.proof_memory.specs.Wants.{AMain, ASingle, AllHold, AnEntry, AnIndirection, BranchOrList, Each, Holds, Is, WithEntry, action_wants, change_wants}
pub use Rattle.proof_generations.specs.Beneath.proof_memory.specs.Wants.{complete_wants, line_wants, meets, node_wants, offer_wants, prev_wants, read_wants, word_wants}
pub use Rattle.proof_commits.specs.Laws.{IsGiven, IsInSwap, IsNoSwap, known_after}
pub use Rattle.proof_commits.specs.Moments.{IsMoment}
pub use Rattle.proof_commits.specs.Protocol.{DecidesOn, Given, Idles, Protocol, Publishes, ReadTurn, Reads, Stage, SwapsNode, Words, counts_at}
pub use Rattle.proof_commits.specs.Runs.{HasIndirection}
pub use Rattle.proof_commits.specs.Stages.{stage_of, stage_of_actor}
pub use Rattle.proof_commits.specs.Words.{words_of}

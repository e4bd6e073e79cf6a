-- The words of the definition and of the crates below, for the files of this crate.
pub use Rattle.proof_order.specs.Beneath.ctrie_base.specs.Hashes.{hash_of}
pub use Rattle.proof_order.specs.Beneath.slot_arena.specs.Heaps.{Heap, empty_branch, entries_of, entry_at, generation_at, generation_of, logical, logical_main, main_at, main_of, next_ref, no_ref}
pub use Rattle.proof_order.specs.Beneath.slot_arena.specs.Heaps.{node_of, prev_of, with_main_word}
unfoldable pub use Rattle.proof_order.specs.Beneath.slot_arena.specs.Heaps.{node_at, prev_at}
pub use Rattle.proof_order.specs.Beneath.slot_arena.specs.Refs.{ref_to}
pub use Rattle.proof_order.specs.Beneath.slot_arena.specs.declared.nodes.Node.{Node}
pub use Rattle.proof_order.specs.Beneath.slot_arena.specs.declared.nodes.Node.TheVariants.{Branch, Indirection, List, Single, Tomb}
pub use Rattle.proof_order.specs.Beneath.slot_arena.specs.declared.nodes.Prev.{Prev}
pub use Rattle.proof_order.specs.Beneath.slot_arena.specs.declared.nodes.Slot.{Slot}
pub use Rattle.proof_order.specs.Beneath.slot_arena.specs.declared.refs.Ref.{Ref}
pub use Rattle.proof_order.specs.Beneath.nodes.specs.Levels.{has_flag}
pub use Rattle.proof_order.specs.Beneath.places.specs.Places.{bool_before, is_before, late, number_before, on_time, place_by, placed, rising}
unfoldable pub use Rattle.proof_order.specs.Beneath.places.specs.Places.{ids_by_place}
pub use Rattle.proof_order.specs.Beneath.places.specs.declared.place.Place.{Place}
pub use Rattle.proof_order.specs.Beneath.history.specs.Effects.{Effect, changing, copying, effect, naming}
pub use Rattle.proof_order.specs.Beneath.history.specs.Histories.{BeginsAt, EndsAt, HasBegun, HasEnded, IsRunning, IsWellFormed, MayFollow, OpensRightly, begun, is_begin}
pub use Rattle.proof_order.specs.Beneath.history.specs.Orders.{Answered, Explains, IsCandidate, KeepsTime, OrderedAt, Recalls, RecallsEach, Replays}
pub use Rattle.proof_order.specs.Beneath.history.specs.Worlds.{HandleMap, HandleState, KeyMap, first_world}
pub use Rattle.proof_order.specs.Beneath.history.specs.declared.calls.Access.{Access}
pub use Rattle.proof_order.specs.Beneath.history.specs.declared.calls.Access.TheVariants.{ReadOnly, Writable}
pub use Rattle.proof_order.specs.Beneath.history.specs.declared.calls.Call.{Call}
pub use Rattle.proof_order.specs.Beneath.history.specs.declared.calls.Call.TheVariants.{Clear, Close, Count, Entries, Freeze, Get, Put, PutIfAbsent, Remove, RemoveIf, Replace, ReplaceIf, Snapshot}
pub use Rattle.proof_order.specs.Beneath.history.specs.declared.events.Event.{Event}
pub use Rattle.proof_order.specs.Beneath.history.specs.declared.events.Event.TheVariants.{End}
pub use Rattle.proof_order.specs.Beneath.history.specs.declared.replies.Reply.{Reply}
pub use Rattle.proof_order.specs.Beneath.history.specs.declared.replies.Reply.TheVariants.{NoSlots}
pub use Rattle.proof_order.specs.Beneath.machine_model.specs.Acting.{aborted, acted, carried_out, completed, ended, gone, if_changed, mark_after, marked, new_root_taken, offered, opened}
pub use Rattle.proof_order.specs.Beneath.machine_model.specs.Acting.{opened_root, operation_after}
pub use Rattle.proof_order.specs.Beneath.machine_model.specs.Building.{after_single, build_after_made, build_if_made}
pub use Rattle.proof_order.specs.Beneath.machine_model.specs.Calls.{changed_reply, handle_of, inserts, is_clear, is_close, is_snapshot, key_of, opens_handle, when_found}
pub use Rattle.proof_order.specs.Beneath.machine_model.specs.Climbing.{climb_after_contracted, climb_after_main, climb_after_read, climb_after_root, climbed, climbing, higher, holds_it}
pub use Rattle.proof_order.specs.Beneath.machine_model.specs.Contents.{content_at}
pub use Rattle.proof_order.specs.Beneath.machine_model.specs.Copying.{after_offer, after_successor, copied_reply, copy_after_complete, copy_after_made, copy_after_read, copy_if_made}
pub use Rattle.proof_order.specs.Beneath.machine_model.specs.Counting.{settled}
pub use Rattle.proof_order.specs.Beneath.machine_model.specs.Finding.{absent, after_listed, after_sibling, after_tomb, found_so, is_passable, key_after_entry, key_after_main, key_after_read}
pub use Rattle.proof_order.specs.Beneath.machine_model.specs.Finding.{removing}
pub use Rattle.proof_order.specs.Beneath.machine_model.specs.GivingUp.{former_of, gave_up, given_up, swap_given_up, tells_effect, unless_effect}
pub use Rattle.proof_order.specs.Beneath.machine_model.specs.Grown.{main_before, node_under, prev_word}
unfoldable pub use Rattle.proof_order.specs.Beneath.machine_model.specs.Grown.{grown}
pub use Rattle.proof_order.specs.Beneath.machine_model.specs.Lines.{new_try}
pub use Rattle.proof_order.specs.Beneath.machine_model.specs.Machine.{AreBounds, begin_denial, begun_operation, next_state, number_for, run, with_begin}
pub use Rattle.proof_order.specs.Beneath.machine_model.specs.Moves.{Begins, Ends, GivesUp, GoesOn, Moves, Sweeps}
pub use Rattle.proof_order.specs.Beneath.machine_model.specs.Operations.{action_of, after_root, after_update, climbed_on, completing_read, first_line, generation_from, given_root, line_action}
pub use Rattle.proof_order.specs.Beneath.machine_model.specs.Operations.{line_after, read_of, rooting_read, swapped, swapping_read}
pub use Rattle.proof_order.specs.Beneath.machine_model.specs.Paths.{above, current, depth_of, flag_in, is_below_root, is_start}
pub use Rattle.proof_order.specs.Beneath.machine_model.specs.Reading.{Commits, Fails, Overtaken, Verdict, at_indirection, committed_by, committed_so, read_action, read_after, read_step, reading}
pub use Rattle.proof_order.specs.Beneath.machine_model.specs.Reading.{verdict}
pub use Rattle.proof_order.specs.Beneath.machine_model.specs.Records.{Record, changer_of, closed_after, closed_at, closed_by, closing_for, commit_step, commits_after, entered, entered_at_begin}
pub use Rattle.proof_order.specs.Beneath.machine_model.specs.Records.{entered_at_end, entered_by, first_record, is_placed, moment_after, moment_at, moment_given, next_record, no_moment, noted}
pub use Rattle.proof_order.specs.Beneath.machine_model.specs.Records.{noted_progress, order_of, place_of, placed_by, read_at_after, record_of, step_of, step_of_commit, with_moment}
unfoldable pub use Rattle.proof_order.specs.Beneath.machine_model.specs.Records.{record_from}
pub use Rattle.proof_order.specs.Beneath.machine_model.specs.Renewing.{renew_next}
pub use Rattle.proof_order.specs.Beneath.machine_model.specs.States.{Runs, State, first_heap, handle_limit, operation_of, rewritten, root_at, root_of, with_operation, with_word, word_at, word_of}
unfoldable pub use Rattle.proof_order.specs.Beneath.machine_model.specs.States.{first_state}
pub use Rattle.proof_order.specs.Beneath.machine_model.specs.Swapping.{action_at, after_check, after_deciding, after_reading, complete_action, complete_action_at, complete_after, is_carried_out}
pub use Rattle.proof_order.specs.Beneath.machine_model.specs.Swapping.{is_plain, of_offer, on_line, root_action, root_after, stands_in, swap_after}
pub use Rattle.proof_order.specs.Beneath.machine_model.specs.Tellings.{carried_by, changer_for, committed_in, committed_now, counts_from, entrant_of, given_by, given_in, given_now, progress_of}
pub use Rattle.proof_order.specs.Beneath.machine_model.specs.Tellings.{published_at, published_by, told_in}
pub use Rattle.proof_order.specs.Beneath.machine_model.specs.Times.{IsRun, Turn, last_of, noted_turn, records_of, states_of, turns}
pub use Rattle.proof_order.specs.Beneath.machine_model.specs.Walking.{walk_after_read}
pub use Rattle.proof_order.specs.Beneath.machine_model.specs.declared.actions.Action.{Action}
pub use Rattle.proof_order.specs.Beneath.machine_model.specs.declared.building.BuildLine.{BuildLine}
pub use Rattle.proof_order.specs.Beneath.machine_model.specs.declared.building.Site.{Site}
pub use Rattle.proof_order.specs.Beneath.machine_model.specs.declared.copying.CopyLine.{CopyLine}
pub use Rattle.proof_order.specs.Beneath.machine_model.specs.declared.finding.KeyLine.{KeyLine}
pub use Rattle.proof_order.specs.Beneath.machine_model.specs.declared.finding.WhenFound.{WhenFound}
pub use Rattle.proof_order.specs.Beneath.machine_model.specs.declared.finding.WhenFound.TheVariants.{Answers, Removes, Sets}
pub use Rattle.proof_order.specs.Beneath.machine_model.specs.declared.lines.Line.{Line}
pub use Rattle.proof_order.specs.Beneath.machine_model.specs.declared.lines.Purpose.{Purpose}
pub use Rattle.proof_order.specs.Beneath.machine_model.specs.declared.operations.Operation.{Operation}
pub use Rattle.proof_order.specs.Beneath.machine_model.specs.declared.reading.After.{After}
pub use Rattle.proof_order.specs.Beneath.machine_model.specs.declared.reading.After.TheVariants.{Gives}
pub use Rattle.proof_order.specs.Beneath.machine_model.specs.declared.reading.Read.{Read}
pub use Rattle.proof_order.specs.Beneath.machine_model.specs.declared.reading.ReadLine.{ReadLine}
pub use Rattle.proof_order.specs.Beneath.machine_model.specs.declared.reading.Swap.{Swap}
pub use Rattle.proof_order.specs.Beneath.machine_model.specs.declared.reading.SwapLine.{SwapLine}
pub use Rattle.proof_order.specs.Beneath.machine_model.specs.declared.records.Carried.{Carried}
pub use Rattle.proof_order.specs.Beneath.machine_model.specs.declared.records.Closing.{Closing}
pub use Rattle.proof_order.specs.Beneath.machine_model.specs.declared.records.Commit.{Commit}
pub use Rattle.proof_order.specs.Beneath.machine_model.specs.declared.records.Entrant.{Entrant}
pub use Rattle.proof_order.specs.Beneath.machine_model.specs.declared.records.Moment.{Moment}
pub use Rattle.proof_order.specs.Beneath.machine_model.specs.declared.records.Progress.{Progress}
pub use Rattle.proof_order.specs.Beneath.machine_model.specs.declared.records.Publication.{Publication}
pub use Rattle.proof_order.specs.Beneath.machine_model.specs.declared.repairs.CleanLine.{CleanLine}
pub use Rattle.proof_order.specs.Beneath.machine_model.specs.declared.repairs.Climb.{Climb}
pub use Rattle.proof_order.specs.Beneath.machine_model.specs.declared.repairs.ClimbLine.{ClimbLine}
pub use Rattle.proof_order.specs.Beneath.machine_model.specs.declared.repairs.RenewLine.{RenewLine}
pub use Rattle.proof_order.specs.Beneath.machine_model.specs.declared.roots.Complete.{Complete}
pub use Rattle.proof_order.specs.Beneath.machine_model.specs.declared.roots.CompleteLine.{CompleteLine}
pub use Rattle.proof_order.specs.Beneath.machine_model.specs.declared.roots.Descriptor.{Descriptor}
pub use Rattle.proof_order.specs.Beneath.machine_model.specs.declared.roots.Root.{Root}
pub use Rattle.proof_order.specs.Beneath.machine_model.specs.declared.roots.RootLine.{RootLine}
pub use Rattle.proof_order.specs.Beneath.machine_model.specs.declared.roots.RootWord.{RootWord}
pub use Rattle.proof_order.specs.Beneath.machine_model.specs.declared.roots.RootWord.TheVariants.{Offer, Plain}
pub use Rattle.proof_order.specs.Beneath.machine_model.specs.declared.steps.Bounds.{Bounds}
pub use Rattle.proof_order.specs.Beneath.machine_model.specs.declared.steps.Outcome.{Outcome}
pub use Rattle.proof_order.specs.Beneath.machine_model.specs.declared.steps.Step.{Step}
pub use Rattle.proof_order.specs.Beneath.machine_model.specs.declared.walking.WalkLine.{WalkLine}
pub use Rattle.proof_order.specs.Beneath.proof_contents.specs.InUse.{ReachesInUse}
pub use Rattle.proof_order.specs.Beneath.proof_contents.specs.Runs.{counting_main, is_made, or_other, root_among, root_if, root_of_generation, trie_of}
unfoldable pub use Rattle.proof_order.specs.Beneath.proof_contents.specs.Runs.{root_until}
pub use Rattle.proof_order.specs.Beneath.proof_contents.specs.Tries.{Trie}
unfoldable pub use Rattle.proof_order.specs.Beneath.proof_contents.specs.Tries.{content}
pub use Rattle.proof_order.specs.Beneath.proof_memory.specs.Laws.{IsInUse, is_end, is_past_root}
pub use Rattle.proof_order.specs.Beneath.proof_memory.specs.Making.{made_node}
pub use Rattle.proof_order.specs.Beneath.proof_memory.specs.Wants.{AllHold, AnIndirection, complete_wants, copy_wants, line_wants, meets, node_wants, prev_wants, word_wants}
pub use Rattle.proof_order.specs.Beneath.proof_commits.specs.Moments.{IsMoment}
pub use Rattle.proof_order.specs.Beneath.proof_commits.specs.Protocol.{Given, Protocol, Reads, Words, counts_at}
pub use Rattle.proof_order.specs.Beneath.proof_commits.specs.Stages.{stage_of, stage_of_actor, stage_of_complete, stage_of_swap}
pub use Rattle.proof_order.specs.Beneath.proof_commits.specs.Words.{words_of}
pub use Rattle.proof_generations.specs.Laws.Roots.{root_generation, settles}

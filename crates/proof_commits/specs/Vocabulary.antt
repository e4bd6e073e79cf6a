-- The words of the definition, for the files of this crate.
pub use Rattle.proof_commits.specs.Beneath.slot_arena.specs.Heaps.{Heap, empty_branch, entries_of, entry_at, generation_at, generation_of, logical, logical_main, main_at, main_changed, main_of}
pub use Rattle.proof_commits.specs.Beneath.slot_arena.specs.Heaps.{next_ref, no_ref, node_of, prev_changed, prev_of, with_main_word}
unfoldable pub use Rattle.proof_commits.specs.Beneath.slot_arena.specs.Heaps.{node_at, prev_at, stored, taken, with_main, with_prev}
pub use Rattle.proof_commits.specs.Beneath.slot_arena.specs.Refs.{birth_of, ref_to, slot_of}
pub use Rattle.proof_commits.specs.Beneath.slot_arena.specs.declared.nodes.Node.{Node}
pub use Rattle.proof_commits.specs.Beneath.slot_arena.specs.declared.nodes.Node.TheVariants.{Branch, Indirection, List, Single, Tomb}
pub use Rattle.proof_commits.specs.Beneath.slot_arena.specs.declared.nodes.Prev.{Prev}
pub use Rattle.proof_commits.specs.Beneath.slot_arena.specs.declared.nodes.Slot.{Slot}
pub use Rattle.proof_commits.specs.Beneath.slot_arena.specs.declared.refs.Ref.{Ref}
pub use Rattle.proof_commits.specs.Beneath.epochs.specs.Sweeping.{Reclaimer, ripe, sweep_by}
pub use Rattle.proof_commits.specs.Beneath.history.specs.declared.calls.Access.{Access}
pub use Rattle.proof_commits.specs.Beneath.history.specs.declared.calls.Access.TheVariants.{ReadOnly, Writable}
pub use Rattle.proof_commits.specs.Beneath.history.specs.declared.calls.Call.{Call}
pub use Rattle.proof_commits.specs.Beneath.history.specs.declared.calls.Call.TheVariants.{Clear, Close, Count, Entries, Freeze, Get, Put, PutIfAbsent, Remove, RemoveIf, Replace, ReplaceIf, Snapshot}
pub use Rattle.proof_commits.specs.Beneath.history.specs.declared.replies.Reply.{Reply}
pub use Rattle.proof_commits.specs.Beneath.machine_model.specs.Acting.{acted, decided, ended, gone, if_changed, marked, new_root_taken, operation_after}
pub use Rattle.proof_commits.specs.Beneath.machine_model.specs.Building.{after_link, after_single, build_after_made, build_if_made}
pub use Rattle.proof_commits.specs.Beneath.machine_model.specs.Calls.{handle_of, when_found}
pub use Rattle.proof_commits.specs.Beneath.machine_model.specs.Cleaning.{after_child, clean_after_contracted, clean_after_entry, clean_after_main, clean_after_read, clean_after_tomb, clean_next}
pub use Rattle.proof_commits.specs.Beneath.machine_model.specs.Climbing.{climb_after_contracted, climb_after_main, climb_after_read, climb_after_root, climbing, higher}
pub use Rattle.proof_commits.specs.Beneath.machine_model.specs.Copying.{after_given, after_offer, after_successor, copy_after_complete, copy_after_made, copy_after_read, copy_if_made}
pub use Rattle.proof_commits.specs.Beneath.machine_model.specs.Counting.{settled}
pub use Rattle.proof_commits.specs.Beneath.machine_model.specs.Finding.{absent, absent_beside, absent_listed, after_listed, after_sibling, after_tomb, found, found_so, key_after_entry}
pub use Rattle.proof_commits.specs.Beneath.machine_model.specs.Finding.{key_after_main, key_after_read, removing}
pub use Rattle.proof_commits.specs.Beneath.machine_model.specs.GivingUp.{gave_up, given_up}
pub use Rattle.proof_commits.specs.Beneath.machine_model.specs.Grown.{main_word, node_under, of_birth, or_before, prev_word, standing}
unfoldable pub use Rattle.proof_commits.specs.Beneath.machine_model.specs.Grown.{grown}
pub use Rattle.proof_commits.specs.Beneath.machine_model.specs.Machine.{AreBounds, begin_denial, begun_operation, go_denial, is_busy, reclaimer_of, run, swept, taken_steps, with_begin}
unfoldable pub use Rattle.proof_commits.specs.Beneath.machine_model.specs.Machine.{next}
pub use Rattle.proof_commits.specs.Beneath.machine_model.specs.Moves.{Begins, Ends, GivesUp, GoesOn, Moves, Sweeps}
pub use Rattle.proof_commits.specs.Beneath.machine_model.specs.Operations.{action_of, after_root, after_update, climbed_on, first_line, generation_from, line_action, line_after, read_of, swapped}
pub use Rattle.proof_commits.specs.Beneath.machine_model.specs.Operations.{swapping_read}
pub use Rattle.proof_commits.specs.Beneath.machine_model.specs.Paths.{above, current}
pub use Rattle.proof_commits.specs.Beneath.machine_model.specs.Reading.{Commits, Fails, Overtaken, Verdict, after_ask, after_decide, after_prev, after_restore, at_indirection, committed_by}
pub use Rattle.proof_commits.specs.Beneath.machine_model.specs.Reading.{committed_so, is_licensed, is_pending, read_action, read_after, read_step, reading, verdict, verdict_by}
pub use Rattle.proof_commits.specs.Beneath.machine_model.specs.Records.{Record, changer_of, closed_at, commit_step, commits_after, moment_after, moment_at, moment_given, no_moment, noted, noted_end}
pub use Rattle.proof_commits.specs.Beneath.machine_model.specs.Records.{noted_progress, read_at_after, record_of, step_of_commit}
pub use Rattle.proof_commits.specs.Beneath.machine_model.specs.Renewing.{next_entry, renew_after_branch, renew_after_entry, renew_after_link, renew_after_read, renew_next}
pub use Rattle.proof_commits.specs.Beneath.machine_model.specs.States.{State, first_heap, operation_of, root_of, with_operation, word_at}
unfoldable pub use Rattle.proof_commits.specs.Beneath.machine_model.specs.States.{first_state}
pub use Rattle.proof_commits.specs.Beneath.machine_model.specs.Swapping.{after_check, after_completing, after_deciding, after_publish, after_reading, after_root_word, is_carried_out, is_plain}
pub use Rattle.proof_commits.specs.Beneath.machine_model.specs.Swapping.{of_offer, on_line, swap_after}
pub use Rattle.proof_commits.specs.Beneath.machine_model.specs.Tellings.{begin_told, changer_for, committed_in, committed_now, counts_from, entrant_of, given_by, given_in, progress_of, published_at}
pub use Rattle.proof_commits.specs.Beneath.machine_model.specs.Tellings.{published_by, told_in}
pub use Rattle.proof_commits.specs.Beneath.machine_model.specs.Times.{IsRun, Turn, last_of, noted_turn, records_of, states_of, turns}
pub use Rattle.proof_commits.specs.Beneath.machine_model.specs.Walking.{first_of, rest_of, walk_after_entry, walk_after_read, walk_next}
pub use Rattle.proof_commits.specs.Beneath.machine_model.specs.declared.actions.Action.{Action}
pub use Rattle.proof_commits.specs.Beneath.machine_model.specs.declared.building.BuildLine.{BuildLine}
pub use Rattle.proof_commits.specs.Beneath.machine_model.specs.declared.building.Site.{Site}
pub use Rattle.proof_commits.specs.Beneath.machine_model.specs.declared.copying.CopyLine.{CopyLine}
pub use Rattle.proof_commits.specs.Beneath.machine_model.specs.declared.finding.KeyLine.{KeyLine}
pub use Rattle.proof_commits.specs.Beneath.machine_model.specs.declared.finding.WhenFound.{WhenFound}
pub use Rattle.proof_commits.specs.Beneath.machine_model.specs.declared.finding.WhenFound.TheVariants.{Answers, Removes, Sets}
pub use Rattle.proof_commits.specs.Beneath.machine_model.specs.declared.lines.Line.{Line}
pub use Rattle.proof_commits.specs.Beneath.machine_model.specs.declared.lines.Purpose.{Purpose}
pub use Rattle.proof_commits.specs.Beneath.machine_model.specs.declared.operations.Operation.{Operation}
pub use Rattle.proof_commits.specs.Beneath.machine_model.specs.declared.reading.After.{After}
pub use Rattle.proof_commits.specs.Beneath.machine_model.specs.declared.reading.After.TheVariants.{Gives}
pub use Rattle.proof_commits.specs.Beneath.machine_model.specs.declared.reading.Read.{Read}
pub use Rattle.proof_commits.specs.Beneath.machine_model.specs.declared.reading.ReadLine.{ReadLine}
pub use Rattle.proof_commits.specs.Beneath.machine_model.specs.declared.reading.Swap.{Swap}
pub use Rattle.proof_commits.specs.Beneath.machine_model.specs.declared.reading.SwapLine.{SwapLine}
pub use Rattle.proof_commits.specs.Beneath.machine_model.specs.declared.reading.SwapLine.TheVariants.{Check, Deciding, Publish}
pub use Rattle.proof_commits.specs.Beneath.machine_model.specs.declared.records.Commit.{Commit}
pub use Rattle.proof_commits.specs.Beneath.machine_model.specs.declared.records.Entrant.{Entrant}
pub use Rattle.proof_commits.specs.Beneath.machine_model.specs.declared.records.Moment.{Moment}
pub use Rattle.proof_commits.specs.Beneath.machine_model.specs.declared.records.Publication.{Publication}
pub use Rattle.proof_commits.specs.Beneath.machine_model.specs.declared.repairs.CleanLine.{CleanLine}
pub use Rattle.proof_commits.specs.Beneath.machine_model.specs.declared.repairs.Climb.{Climb}
pub use Rattle.proof_commits.specs.Beneath.machine_model.specs.declared.repairs.ClimbLine.{ClimbLine}
pub use Rattle.proof_commits.specs.Beneath.machine_model.specs.declared.repairs.RenewLine.{RenewLine}
pub use Rattle.proof_commits.specs.Beneath.machine_model.specs.declared.roots.CompleteLine.{CompleteLine}
pub use Rattle.proof_commits.specs.Beneath.machine_model.specs.declared.roots.Descriptor.{Descriptor}
pub use Rattle.proof_commits.specs.Beneath.machine_model.specs.declared.roots.RootLine.{RootLine}
pub use Rattle.proof_commits.specs.Beneath.machine_model.specs.declared.roots.RootWord.{RootWord}
pub use Rattle.proof_commits.specs.Beneath.machine_model.specs.declared.roots.RootWord.TheVariants.{Offer, Plain}
pub use Rattle.proof_commits.specs.Beneath.machine_model.specs.declared.steps.Bounds.{Bounds}
pub use Rattle.proof_commits.specs.Beneath.machine_model.specs.declared.steps.Outcome.{Outcome}
pub use Rattle.proof_commits.specs.Beneath.machine_model.specs.declared.steps.Outcome.TheVariants.{Ended}
pub use Rattle.proof_commits.specs.Beneath.machine_model.specs.declared.steps.Step.{Step}
pub use Rattle.proof_commits.specs.Beneath.machine_model.specs.declared.steps.Step.TheVariants.{GiveUp, Go, Sweep}
pub use Rattle.proof_commits.specs.Beneath.machine_model.specs.declared.walking.WalkLine.{WalkLine}

-- The words of the definition and of the crates below, for the files of this crate.
pub use Rattle.proof_updates.specs.Beneath.ctrie_base.specs.Hashes.{hash_of}
pub use Rattle.proof_updates.specs.Beneath.ctrie_base.specs.Paths.{position_of}
pub use Rattle.proof_updates.specs.Beneath.ctrie_base.specs.declared.hashes.HashKind.{HashKind}
pub use Rattle.proof_updates.specs.Beneath.slot_arena.specs.Heaps.{Heap, entries_of, entry_at, generation_at, generation_of, logical_main, main_at, next_ref, no_ref, node_of, prev_of, refs_of_node}
pub use Rattle.proof_updates.specs.Beneath.slot_arena.specs.Heaps.{refs_of_prev, refs_of_slot}
unfoldable pub use Rattle.proof_updates.specs.Beneath.slot_arena.specs.Heaps.{node_at, prev_at}
pub use Rattle.proof_updates.specs.Beneath.slot_arena.specs.declared.nodes.Node.{Node}
pub use Rattle.proof_updates.specs.Beneath.slot_arena.specs.declared.nodes.Node.TheVariants.{Branch, Indirection, List, Single, Tomb}
pub use Rattle.proof_updates.specs.Beneath.slot_arena.specs.declared.nodes.Prev.{Prev}
pub use Rattle.proof_updates.specs.Beneath.slot_arena.specs.declared.refs.Ref.{Ref}
pub use Rattle.proof_updates.specs.Beneath.nodes.specs.Builders.{contracted, pair}
pub use Rattle.proof_updates.specs.Beneath.nodes.specs.Levels.{flag_of, has_flag, index_in}
pub use Rattle.proof_updates.specs.Beneath.places.specs.Places.{on_time}
pub use Rattle.proof_updates.specs.Beneath.places.specs.declared.place.Place.{Place}
pub use Rattle.proof_updates.specs.Beneath.history.specs.Changes.{change_in}
pub use Rattle.proof_updates.specs.Beneath.history.specs.Worlds.{KeyMap}
pub use Rattle.proof_updates.specs.Beneath.history.specs.declared.calls.Access.{Access}
pub use Rattle.proof_updates.specs.Beneath.history.specs.declared.calls.Access.TheVariants.{ReadOnly, Writable}
pub use Rattle.proof_updates.specs.Beneath.history.specs.declared.calls.Call.{Call}
pub use Rattle.proof_updates.specs.Beneath.history.specs.declared.calls.Call.TheVariants.{Clear, Close, Count, Entries, Freeze, Get, Put, PutIfAbsent, Remove, RemoveIf, Replace, ReplaceIf, Snapshot}
pub use Rattle.proof_updates.specs.Beneath.history.specs.declared.replies.Reply.{Reply}
pub use Rattle.proof_updates.specs.Beneath.machine_model.specs.Acting.{gone, opened_root, operation_after}
pub use Rattle.proof_updates.specs.Beneath.machine_model.specs.Building.{build_after}
pub use Rattle.proof_updates.specs.Beneath.machine_model.specs.Calls.{changed_reply, handle_of, is_close, key_of, needs_read_only}
pub use Rattle.proof_updates.specs.Beneath.machine_model.specs.Cleaning.{clean_after}
pub use Rattle.proof_updates.specs.Beneath.machine_model.specs.Climbing.{climb_after, climb_after_contracted, climb_after_main, climb_after_read, climb_after_root}
pub use Rattle.proof_updates.specs.Beneath.machine_model.specs.Contents.{content_at, pairs_at}
unfoldable pub use Rattle.proof_updates.specs.Beneath.machine_model.specs.Contents.{pairs_below}
pub use Rattle.proof_updates.specs.Beneath.machine_model.specs.Copying.{copied_reply, copy_after, copy_after_complete}
pub use Rattle.proof_updates.specs.Beneath.machine_model.specs.Counting.{settled}
pub use Rattle.proof_updates.specs.Beneath.machine_model.specs.Finding.{after_listed, after_sibling, found, is_passable, key_after, key_after_entry, key_after_main, key_after_read, passes}
pub use Rattle.proof_updates.specs.Beneath.machine_model.specs.GivingUp.{gave_up, given_up, swap_given_up, tells_effect, unless_effect}
pub use Rattle.proof_updates.specs.Beneath.machine_model.specs.Grown.{node_under, prev_word}
unfoldable pub use Rattle.proof_updates.specs.Beneath.machine_model.specs.Grown.{grown}
pub use Rattle.proof_updates.specs.Beneath.machine_model.specs.Keys.{KeysFit}
pub use Rattle.proof_updates.specs.Beneath.machine_model.specs.Lines.{new_try}
pub use Rattle.proof_updates.specs.Beneath.machine_model.specs.Machine.{AreBounds, begin_denial, begun_operation, is_taken_step, run, state_after, taken_steps, with_begin}
unfoldable pub use Rattle.proof_updates.specs.Beneath.machine_model.specs.Machine.{next, taken_from}
pub use Rattle.proof_updates.specs.Beneath.machine_model.specs.Moves.{Begins, Ends, GivesUp, GoesOn, Moves, Sweeps}
pub use Rattle.proof_updates.specs.Beneath.machine_model.specs.Operations.{action_of, after_root, after_update, climbed_on, first_line, generation_after, generation_from, given_root, line_action}
pub use Rattle.proof_updates.specs.Beneath.machine_model.specs.Operations.{line_after, read_of, swapped}
pub use Rattle.proof_updates.specs.Beneath.machine_model.specs.Pairs.{by_key}
pub use Rattle.proof_updates.specs.Beneath.machine_model.specs.Paths.{current, depth_of, is_start}
pub use Rattle.proof_updates.specs.Beneath.machine_model.specs.Reading.{read_after, read_step}
pub use Rattle.proof_updates.specs.Beneath.machine_model.specs.Records.{Record, closing_for, entered, is_placed, moment_after, moment_at, moment_given, noted, noted_progress, place_of, placed_by}
pub use Rattle.proof_updates.specs.Beneath.machine_model.specs.Records.{read_at_after}
pub use Rattle.proof_updates.specs.Beneath.machine_model.specs.Renewing.{renew_after}
pub use Rattle.proof_updates.specs.Beneath.machine_model.specs.States.{Runs, State, operation_of, rewritten, root_at, root_of, word_at, word_of}
unfoldable pub use Rattle.proof_updates.specs.Beneath.machine_model.specs.States.{first_state}
pub use Rattle.proof_updates.specs.Beneath.machine_model.specs.Swapping.{after_check, after_complete, after_deciding, after_publish, after_reading, complete_action_at, complete_after}
pub use Rattle.proof_updates.specs.Beneath.machine_model.specs.Swapping.{is_carried_out, of_offer, on_line, root_after, swap_after}
pub use Rattle.proof_updates.specs.Beneath.machine_model.specs.Tellings.{carried_by, committed_now, counts_from, entrant_of, given_in, progress_of, told_in}
pub use Rattle.proof_updates.specs.Beneath.machine_model.specs.Times.{IsRun, Turn, last_of, noted_turn, records_of, states_of, turns}
unfoldable pub use Rattle.proof_updates.specs.Beneath.machine_model.specs.Times.{states_from}
pub use Rattle.proof_updates.specs.Beneath.machine_model.specs.Walking.{first_of, rest_of, walk_after, walk_after_entry, walked_reply}
pub use Rattle.proof_updates.specs.Beneath.machine_model.specs.declared.building.BuildLine.{BuildLine}
pub use Rattle.proof_updates.specs.Beneath.machine_model.specs.declared.building.Change.{Change}
pub use Rattle.proof_updates.specs.Beneath.machine_model.specs.declared.copying.CopyLine.{CopyLine}
pub use Rattle.proof_updates.specs.Beneath.machine_model.specs.declared.finding.KeyLine.{KeyLine}
pub use Rattle.proof_updates.specs.Beneath.machine_model.specs.declared.lines.Line.{Line}
pub use Rattle.proof_updates.specs.Beneath.machine_model.specs.declared.lines.Purpose.{Purpose}
pub use Rattle.proof_updates.specs.Beneath.machine_model.specs.declared.operations.Operation.{Operation}
pub use Rattle.proof_updates.specs.Beneath.machine_model.specs.declared.reading.After.{After}
pub use Rattle.proof_updates.specs.Beneath.machine_model.specs.declared.reading.After.TheVariants.{Gives}
pub use Rattle.proof_updates.specs.Beneath.machine_model.specs.declared.reading.Read.{Read}
pub use Rattle.proof_updates.specs.Beneath.machine_model.specs.declared.reading.ReadLine.{ReadLine}
pub use Rattle.proof_updates.specs.Beneath.machine_model.specs.declared.reading.Swap.{Swap}
pub use Rattle.proof_updates.specs.Beneath.machine_model.specs.declared.reading.SwapLine.{SwapLine}
pub use Rattle.proof_updates.specs.Beneath.machine_model.specs.declared.reading.SwapLine.TheVariants.{Deciding}
pub use Rattle.proof_updates.specs.Beneath.machine_model.specs.declared.records.Moment.{Moment}
pub use Rattle.proof_updates.specs.Beneath.machine_model.specs.declared.repairs.CleanLine.{CleanLine}
pub use Rattle.proof_updates.specs.Beneath.machine_model.specs.declared.repairs.Climb.{Climb}
pub use Rattle.proof_updates.specs.Beneath.machine_model.specs.declared.repairs.ClimbLine.{ClimbLine}
pub use Rattle.proof_updates.specs.Beneath.machine_model.specs.declared.repairs.RenewLine.{RenewLine}
pub use Rattle.proof_updates.specs.Beneath.machine_model.specs.declared.roots.Complete.{Complete}
pub use Rattle.proof_updates.specs.Beneath.machine_model.specs.declared.roots.CompleteLine.{CompleteLine}
pub use Rattle.proof_updates.specs.Beneath.machine_model.specs.declared.roots.Descriptor.{Descriptor}
pub use Rattle.proof_updates.specs.Beneath.machine_model.specs.declared.roots.Root.{Root}
pub use Rattle.proof_updates.specs.Beneath.machine_model.specs.declared.roots.RootLine.{RootLine}
pub use Rattle.proof_updates.specs.Beneath.machine_model.specs.declared.roots.RootWord.TheVariants.{Plain}
pub use Rattle.proof_updates.specs.Beneath.machine_model.specs.declared.steps.Bounds.{Bounds}
pub use Rattle.proof_updates.specs.Beneath.machine_model.specs.declared.steps.Outcome.{Outcome}
pub use Rattle.proof_updates.specs.Beneath.machine_model.specs.declared.steps.Step.{Step}
pub use Rattle.proof_updates.specs.Beneath.machine_model.specs.declared.walking.WalkLine.{WalkLine}
pub use Rattle.proof_updates.specs.Beneath.proof_contents.specs.Lines.Changes.{Absence, GoesThrough, IsFlagged, IsGet, IsOther, Known, KnowsChange, KnowsKey, KnowsLine, KnowsSwap, Presence}
pub use Rattle.proof_updates.specs.Beneath.proof_contents.specs.Lines.Changes.{build_path, in_list, main_of_key, no_flag, not_listed, of_branch, of_list}
pub use Rattle.proof_updates.specs.Beneath.proof_contents.specs.Lines.Repairs.{IsDone, IsRepaired, ReadsBelow, cleans, keeps, renews}
pub use Rattle.proof_updates.specs.Beneath.proof_contents.specs.Nodes.Branches.{at_place}
pub use Rattle.proof_updates.specs.Beneath.proof_contents.specs.Nodes.Chains.{LeadsToPair, at_pair, by_rung}
pub use Rattle.proof_updates.specs.Beneath.proof_contents.specs.Nodes.Changing.{look}
pub use Rattle.proof_updates.specs.Beneath.proof_contents.specs.Nodes.Lists.{AreSingles}
pub use Rattle.proof_updates.specs.Beneath.proof_contents.specs.Nodes.Looking.{Absent, Below, look_at, look_in, value_by, value_in}
unfoldable pub use Rattle.proof_updates.specs.Beneath.proof_contents.specs.Nodes.Looking.{find_at}
pub use Rattle.proof_updates.specs.Beneath.proof_contents.specs.Pairs.{pairs_of}
pub use Rattle.proof_updates.specs.Beneath.proof_contents.specs.Runs.{counting_main, root_of_generation, trie_of}
pub use Rattle.proof_updates.specs.Beneath.proof_contents.specs.Steps.{IsOwnUpdate, IsRepair, LeavesOthers, Looks, Stays, Updates, a_repair, an_update, below_is, branch_entombs, branch_inserts}
pub use Rattle.proof_updates.specs.Beneath.proof_contents.specs.Steps.{branch_removes, branch_updates, entombs, goes_beside, kept, list_entombs, list_inserts, list_removes, list_updates, nothing}
pub use Rattle.proof_updates.specs.Beneath.proof_contents.specs.Steps.{refills, renewed_by, root_is, to_insert, to_remove, to_set, untombed}
pub use Rattle.proof_updates.specs.Beneath.proof_contents.specs.Tries.{IsShaped, On, Trie, assigned, at_below, branch, generation, list, node_in, put_value, says, tomb, value_at}
unfoldable pub use Rattle.proof_updates.specs.Beneath.proof_contents.specs.Tries.{content}
pub use Rattle.proof_updates.specs.Beneath.proof_memory.specs.Laws.{IsInUse, is_end}
pub use Rattle.proof_updates.specs.Beneath.proof_memory.specs.Wants.{ABranch, AList, AMain, AllHold, AnIndirection, Holds, Is, action_wants, line_wants, listed, meets, word_wants}
pub use Rattle.proof_updates.specs.Beneath.proof_commits.specs.Laws.{IsNoSwap}
pub use Rattle.proof_updates.specs.Beneath.proof_commits.specs.Moments.{IsMoment}
pub use Rattle.proof_updates.specs.Beneath.proof_commits.specs.Protocol.{CommitsNode, Decides, Protocol, Reads, counts_at}
pub use Rattle.proof_updates.specs.Beneath.proof_commits.specs.Stages.{stage_of, stage_of_actor}
pub use Rattle.proof_updates.specs.Beneath.proof_commits.specs.Words.{words_of}
pub use Rattle.proof_updates.specs.Beneath.proof_generations.specs.Falling.{GivesAt, WasGiven, renew_path}
pub use Rattle.proof_order.specs.Facts.{CarriesOut, Notes, Replied, committed_by_step, committed_of, entered_by_step, on_read_only, on_writable, standing_of}
pub use Rattle.proof_order.specs.Openings.{Brings, IsSwap, freezes, snapshots}
pub use Rattle.proof_order.specs.Phases.{IsPublished, OwnUpdate}
pub use Rattle.proof_order.specs.Times.{IsWithin, Since, counts, has_read, read_counts}
pub use Rattle.proof_shape.specs.Lines.Climbing.{IsClimbed}
pub use Rattle.proof_shape.specs.Lines.Commits.{CommitsAt, CommitsNone, KnowsFresh, MainStep, OwnCommit, assigned_at, begins, changes, gives_up, goes, places_for, stays}
pub use Rattle.proof_shape.specs.Lines.Given.{GaveBelow, Was}
pub use Rattle.proof_shape.specs.Lines.Knowing.{SwapsAt, first_main, known_with}
pub use Rattle.proof_shape.specs.Shaped.{HasShape, trie_of_run}
pub use Rattle.proof_shape.specs.Sites.At.{StepsFit, TakesSteps}
pub use Rattle.proof_shape.specs.Sites.Lines.{bare, sites_of}
pub use Rattle.proof_shape.specs.Sites.Nodes.{depth_at, depth_of_run, path_of_run}
unfoldable pub use Rattle.proof_shape.specs.Sites.Nodes.{level_until, path_until}

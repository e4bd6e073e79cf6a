-- The words of the definition and of the crates below, for the files of this crate.
pub use Rattle.proof_obstruction_free.specs.Beneath.ctrie_base.specs.Hashes.{hash_of}
pub use Rattle.proof_obstruction_free.specs.Beneath.ctrie_base.specs.Paths.{position_of}
pub use Rattle.proof_obstruction_free.specs.Beneath.ctrie_base.specs.declared.kinds.Kind.{Kind}
pub use Rattle.proof_obstruction_free.specs.Beneath.ctrie_base.specs.declared.kinds.Kind.TheVariants.{Make}
pub use Rattle.proof_obstruction_free.specs.Beneath.ctrie_base.specs.declared.refusals.Refusal.{Refusal}
pub use Rattle.proof_obstruction_free.specs.Beneath.slot_arena.specs.Heaps.{bitmap_of, entries_from, entries_of, entry_at, generation_at, generation_of, logical, main_at, main_changed, main_of}
pub use Rattle.proof_obstruction_free.specs.Beneath.slot_arena.specs.Heaps.{next_ref, no_ref, node_of, prev_changed, prev_of}
unfoldable pub use Rattle.proof_obstruction_free.specs.Beneath.slot_arena.specs.Heaps.{node_at, prev_at}
pub use Rattle.proof_obstruction_free.specs.Beneath.slot_arena.specs.declared.nodes.Node.{Node}
pub use Rattle.proof_obstruction_free.specs.Beneath.slot_arena.specs.declared.nodes.Node.TheVariants.{Branch, Indirection, List, Single, Tomb}
pub use Rattle.proof_obstruction_free.specs.Beneath.slot_arena.specs.declared.nodes.Prev.{Prev}
pub use Rattle.proof_obstruction_free.specs.Beneath.slot_arena.specs.declared.nodes.Slot.{Slot}
pub use Rattle.proof_obstruction_free.specs.Beneath.slot_arena.specs.declared.refs.Ref.{Ref}
pub use Rattle.proof_obstruction_free.specs.Beneath.nodes.specs.Builders.{contracted, renewed}
pub use Rattle.proof_obstruction_free.specs.Beneath.nodes.specs.Levels.{flag_of, has_flag, list_depth}
pub use Rattle.proof_obstruction_free.specs.Beneath.history.specs.declared.calls.Access.{Access}
pub use Rattle.proof_obstruction_free.specs.Beneath.history.specs.declared.calls.Access.TheVariants.{ReadOnly, Writable}
pub use Rattle.proof_obstruction_free.specs.Beneath.history.specs.declared.calls.Call.{Call}
pub use Rattle.proof_obstruction_free.specs.Beneath.history.specs.declared.calls.Call.TheVariants.{Clear, Close, Count, Entries, Freeze, Get, Put, PutIfAbsent, Remove, RemoveIf, Replace, ReplaceIf}
pub use Rattle.proof_obstruction_free.specs.Beneath.history.specs.declared.calls.Call.TheVariants.{Snapshot}
pub use Rattle.proof_obstruction_free.specs.Beneath.history.specs.declared.events.Event.{Event}
pub use Rattle.proof_obstruction_free.specs.Beneath.history.specs.declared.events.Event.TheVariants.{End}
pub use Rattle.proof_obstruction_free.specs.Beneath.history.specs.declared.replies.Reply.{Reply}
pub use Rattle.proof_obstruction_free.specs.Beneath.history.specs.declared.replies.Reply.TheVariants.{Closed, NoSlots}
pub use Rattle.proof_obstruction_free.specs.Beneath.machine_model.specs.Acting.{acted, carried_out, ended, gone, if_changed, new_root_taken, operation_after}
pub use Rattle.proof_obstruction_free.specs.Beneath.machine_model.specs.Building.{after_single, build_action, build_after_made, build_if_made, old_hash, pair_depth}
pub use Rattle.proof_obstruction_free.specs.Beneath.machine_model.specs.Calls.{absent_reply, changed_reply, handle_of, inserts, is_close, key_of, needs_writable, when_found}
pub use Rattle.proof_obstruction_free.specs.Beneath.machine_model.specs.Cleaning.{after_child, clean_after_contracted, clean_after_entry, clean_after_main, clean_after_read, clean_after_tomb}
pub use Rattle.proof_obstruction_free.specs.Beneath.machine_model.specs.Cleaning.{clean_next, cleaned, is_single, leaves_single}
pub use Rattle.proof_obstruction_free.specs.Beneath.machine_model.specs.Climbing.{climb_after_contracted, climb_after_main, climb_after_read, climb_after_root, climbed, climbing, higher, holds_it}
pub use Rattle.proof_obstruction_free.specs.Beneath.machine_model.specs.Copying.{after_given, after_offer, after_successor, copied_reply, copy_action, copy_after, copy_after_complete}
pub use Rattle.proof_obstruction_free.specs.Beneath.machine_model.specs.Copying.{copy_after_made, copy_after_read, copy_if_made}
pub use Rattle.proof_obstruction_free.specs.Beneath.machine_model.specs.Counting.{settled}
pub use Rattle.proof_obstruction_free.specs.Beneath.machine_model.specs.Finding.{absent, absent_beside, absent_listed, after_listed, after_sibling, after_tomb, found, found_so, going_down}
pub use Rattle.proof_obstruction_free.specs.Beneath.machine_model.specs.Finding.{is_passable, key_after_entry, key_after_main, key_after_read, passes, removing}
pub use Rattle.proof_obstruction_free.specs.Beneath.machine_model.specs.GivingUp.{given_up}
pub use Rattle.proof_obstruction_free.specs.Beneath.machine_model.specs.Grown.{main_word, node_under, prev_word}
unfoldable pub use Rattle.proof_obstruction_free.specs.Beneath.machine_model.specs.Grown.{grown}
pub use Rattle.proof_obstruction_free.specs.Beneath.machine_model.specs.Keys.{FitsKey, KeysFit}
pub use Rattle.proof_obstruction_free.specs.Beneath.machine_model.specs.Lines.{impossible, new_try}
pub use Rattle.proof_obstruction_free.specs.Beneath.machine_model.specs.Machine.{Answer, AreBounds, begun_operation, first_reason, go_denial, go_on, go_unless, is_actor, is_running, is_spent}
pub use Rattle.proof_obstruction_free.specs.Beneath.machine_model.specs.Machine.{is_taken_step, next_kind, next_state, run, state_after, step_by, taken_steps}
unfoldable pub use Rattle.proof_obstruction_free.specs.Beneath.machine_model.specs.Machine.{next, taken_from}
pub use Rattle.proof_obstruction_free.specs.Beneath.machine_model.specs.Moves.{Begins, Ends, GivesUp, GoesOn, Moves, MovesIfTaken, Sweeps}
pub use Rattle.proof_obstruction_free.specs.Beneath.machine_model.specs.Operations.{EmbedsRead, action_of, after_root, after_update, climbed_on, completing_read, first_line, generation_from}
pub use Rattle.proof_obstruction_free.specs.Beneath.machine_model.specs.Operations.{given_root, kind_of, line_action, line_after, read_of, rooting_read, swapped, swapping_read}
pub use Rattle.proof_obstruction_free.specs.Beneath.machine_model.specs.Paths.{above, current, depth_of, flag_in, hash_in, is_below_root, is_start}
pub use Rattle.proof_obstruction_free.specs.Beneath.machine_model.specs.Reading.{Commits, Fails, Overtaken, Verdict, after_ask, after_decide, after_prev, after_restore, at_indirection, is_licensed}
pub use Rattle.proof_obstruction_free.specs.Beneath.machine_model.specs.Reading.{is_pending, read_action, read_after, read_step, reading, verdict, verdict_by}
pub use Rattle.proof_obstruction_free.specs.Beneath.machine_model.specs.Records.{Record, commits_after, first_record, moment_at, next_record, noted, noted_progress, record_of}
pub use Rattle.proof_obstruction_free.specs.Beneath.machine_model.specs.Renewing.{branch_of, next_entry, renew_after_branch, renew_after_entry, renew_after_link, renew_after_read, renew_next}
pub use Rattle.proof_obstruction_free.specs.Beneath.machine_model.specs.States.{State, operation_of, rewritten, root_at, root_of, with_operation, with_word, word_at, word_of}
unfoldable pub use Rattle.proof_obstruction_free.specs.Beneath.machine_model.specs.States.{first_state}
pub use Rattle.proof_obstruction_free.specs.Beneath.machine_model.specs.Swapping.{action_at, after_check, after_completing, after_deciding, after_publish, after_reading, after_root_word}
pub use Rattle.proof_obstruction_free.specs.Beneath.machine_model.specs.Swapping.{complete_after, is_carried_out, is_plain, of_offer, on_line, root_action, root_after, stands_in, swapping}
pub use Rattle.proof_obstruction_free.specs.Beneath.machine_model.specs.Tellings.{committed_in, progress_of, told_in}
pub use Rattle.proof_obstruction_free.specs.Beneath.machine_model.specs.Times.{IsRun, Turn, last_of, states_of, turns}
pub use Rattle.proof_obstruction_free.specs.Beneath.machine_model.specs.Walking.{walk_after_read}
pub use Rattle.proof_obstruction_free.specs.Beneath.machine_model.specs.declared.actions.Action.{Action}
pub use Rattle.proof_obstruction_free.specs.Beneath.machine_model.specs.declared.building.BuildLine.{BuildLine}
pub use Rattle.proof_obstruction_free.specs.Beneath.machine_model.specs.declared.building.Change.{Change}
pub use Rattle.proof_obstruction_free.specs.Beneath.machine_model.specs.declared.building.Site.{Site}
pub use Rattle.proof_obstruction_free.specs.Beneath.machine_model.specs.declared.copying.CopyLine.{CopyLine}
pub use Rattle.proof_obstruction_free.specs.Beneath.machine_model.specs.declared.finding.KeyLine.{KeyLine}
pub use Rattle.proof_obstruction_free.specs.Beneath.machine_model.specs.declared.finding.WhenFound.{WhenFound}
pub use Rattle.proof_obstruction_free.specs.Beneath.machine_model.specs.declared.finding.WhenFound.TheVariants.{Answers, Removes, Sets}
pub use Rattle.proof_obstruction_free.specs.Beneath.machine_model.specs.declared.lines.Line.{Line}
pub use Rattle.proof_obstruction_free.specs.Beneath.machine_model.specs.declared.lines.Purpose.{Purpose}
pub use Rattle.proof_obstruction_free.specs.Beneath.machine_model.specs.declared.operations.Operation.{Operation}
pub use Rattle.proof_obstruction_free.specs.Beneath.machine_model.specs.declared.reading.After.{After}
pub use Rattle.proof_obstruction_free.specs.Beneath.machine_model.specs.declared.reading.After.TheVariants.{Gives}
pub use Rattle.proof_obstruction_free.specs.Beneath.machine_model.specs.declared.reading.Read.{Read}
pub use Rattle.proof_obstruction_free.specs.Beneath.machine_model.specs.declared.reading.ReadLine.{ReadLine}
pub use Rattle.proof_obstruction_free.specs.Beneath.machine_model.specs.declared.reading.Swap.{Swap}
pub use Rattle.proof_obstruction_free.specs.Beneath.machine_model.specs.declared.reading.SwapLine.{SwapLine}
pub use Rattle.proof_obstruction_free.specs.Beneath.machine_model.specs.declared.repairs.CleanLine.{CleanLine}
pub use Rattle.proof_obstruction_free.specs.Beneath.machine_model.specs.declared.repairs.Climb.{Climb}
pub use Rattle.proof_obstruction_free.specs.Beneath.machine_model.specs.declared.repairs.ClimbLine.{ClimbLine}
pub use Rattle.proof_obstruction_free.specs.Beneath.machine_model.specs.declared.repairs.RenewLine.{RenewLine}
pub use Rattle.proof_obstruction_free.specs.Beneath.machine_model.specs.declared.roots.Complete.{Complete}
pub use Rattle.proof_obstruction_free.specs.Beneath.machine_model.specs.declared.roots.CompleteLine.{CompleteLine}
pub use Rattle.proof_obstruction_free.specs.Beneath.machine_model.specs.declared.roots.Descriptor.{Descriptor}
pub use Rattle.proof_obstruction_free.specs.Beneath.machine_model.specs.declared.roots.Root.{Root}
pub use Rattle.proof_obstruction_free.specs.Beneath.machine_model.specs.declared.roots.RootLine.{RootLine}
pub use Rattle.proof_obstruction_free.specs.Beneath.machine_model.specs.declared.roots.RootWord.{RootWord}
pub use Rattle.proof_obstruction_free.specs.Beneath.machine_model.specs.declared.roots.RootWord.TheVariants.{Offer, Plain}
pub use Rattle.proof_obstruction_free.specs.Beneath.machine_model.specs.declared.steps.Bounds.{Bounds}
pub use Rattle.proof_obstruction_free.specs.Beneath.machine_model.specs.declared.steps.Outcome.{Outcome}
pub use Rattle.proof_obstruction_free.specs.Beneath.machine_model.specs.declared.steps.Outcome.TheVariants.{Ended, Went}
pub use Rattle.proof_obstruction_free.specs.Beneath.machine_model.specs.declared.steps.Step.{Step}
pub use Rattle.proof_obstruction_free.specs.Beneath.machine_model.specs.declared.steps.Step.TheVariants.{Go}
pub use Rattle.proof_obstruction_free.specs.Beneath.proof_contents.specs.Lines.Changes.{build_path, main_of_build}
pub use Rattle.proof_obstruction_free.specs.Beneath.proof_contents.specs.Nodes.Looking.{Absent, Below, look_at, look_in}
pub use Rattle.proof_obstruction_free.specs.Beneath.proof_contents.specs.Runs.{is_made}
pub use Rattle.proof_obstruction_free.specs.Beneath.proof_contents.specs.Tries.{IsTombed, On, Trie, at_below, generation, says}
pub use Rattle.proof_obstruction_free.specs.Beneath.proof_memory.specs.Laws.{IsInUse, is_end}
pub use Rattle.proof_obstruction_free.specs.Beneath.proof_memory.specs.Levels.{LineLevel}
pub use Rattle.proof_obstruction_free.specs.Beneath.proof_memory.specs.Wants.{ABranch, AMain, AllHold, AnEntry, AnIndirection, Holds, Is, TombOrList, action_wants, all_done_wants, done_wants}
pub use Rattle.proof_obstruction_free.specs.Beneath.proof_memory.specs.Wants.{is_branch, line_wants, listed, meets, read_wants, word_wants}
pub use Rattle.proof_obstruction_free.specs.Beneath.proof_commits.specs.Protocol.{Aborts, Builds, Checks, CommitsNode, Decides, DecidesAtOnce, DecidesOn, FailsNode, FindsAnother, FindsDecided}
pub use Rattle.proof_obstruction_free.specs.Beneath.proof_commits.specs.Protocol.{FindsFailed, FindsOffer, FindsPending, Idles, Kept, Makes, MakesNothing, MayHave, Protocol, Publishes, PutsBack}
pub use Rattle.proof_obstruction_free.specs.Beneath.proof_commits.specs.Protocol.{ReadTurn, Reads, ReadsMain, Restores, Rests, Stage, SwapsIn, SwapsNode, Words, Written, after_read}
pub use Rattle.proof_obstruction_free.specs.Beneath.proof_commits.specs.Stages.{stage_of, stage_of_actor, stage_of_complete, stage_of_root, stage_of_swap}
pub use Rattle.proof_obstruction_free.specs.Beneath.proof_commits.specs.Words.{words_of}
pub use Rattle.proof_obstruction_free.specs.Beneath.proof_generations.specs.Falling.{renew_path}
pub use Rattle.proof_obstruction_free.specs.Beneath.proof_generations.specs.Laws.Roots.{settles}
pub use Rattle.proof_obstruction_free.specs.Beneath.proof_shape.specs.Shaped.{trie_of_run}
pub use Rattle.proof_obstruction_free.specs.Beneath.proof_shape.specs.Sites.At.{StepsFit, TakesSteps, way_of}
pub use Rattle.proof_obstruction_free.specs.Beneath.proof_shape.specs.Sites.Lines.{InsideSite, LineSite, Sites, sites_of, trie_at}
pub use Rattle.proof_obstruction_free.specs.Beneath.proof_shape.specs.Sites.Nodes.{depth_of_run}
unfoldable pub use Rattle.proof_obstruction_free.specs.Beneath.proof_shape.specs.Sites.Nodes.{level_until}
pub use Rattle.proof_updates.specs.Paths.{LiesOn, path_of}

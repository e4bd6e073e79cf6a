-- The words of the definition and of the crates below, for the files of this crate.
pub use Rattle.proof_shape.specs.Beneath.ctrie_base.specs.Hashes.{hash_of}
pub use Rattle.proof_shape.specs.Beneath.ctrie_base.specs.Paths.{position_of}
pub use Rattle.proof_shape.specs.Beneath.ctrie_base.specs.declared.hashes.HashKind.{HashKind}
pub use Rattle.proof_shape.specs.Beneath.ctrie_base.specs.declared.hashes.HashKind.TheVariants.{Block, Fold, Low, Wide}
pub use Rattle.proof_shape.specs.Beneath.slot_arena.specs.Heaps.{Heap, bitmap_of, empty_branch, entries_from, entries_of, entry_at, generation_at, generation_of, logical, logical_main, main_at}
pub use Rattle.proof_shape.specs.Beneath.slot_arena.specs.Heaps.{main_changed, main_of, next_ref, no_ref, node_of, prev_changed, prev_of, with_main_word}
unfoldable pub use Rattle.proof_shape.specs.Beneath.slot_arena.specs.Heaps.{node_at, prev_at}
pub use Rattle.proof_shape.specs.Beneath.slot_arena.specs.Refs.{ref_to}
pub use Rattle.proof_shape.specs.Beneath.slot_arena.specs.declared.nodes.Node.{Node}
pub use Rattle.proof_shape.specs.Beneath.slot_arena.specs.declared.nodes.Node.TheVariants.{Branch, Indirection, List, Single, Tomb}
pub use Rattle.proof_shape.specs.Beneath.slot_arena.specs.declared.nodes.Prev.{Prev}
pub use Rattle.proof_shape.specs.Beneath.slot_arena.specs.declared.nodes.Slot.{Slot}
pub use Rattle.proof_shape.specs.Beneath.slot_arena.specs.declared.refs.Ref.{Ref}
pub use Rattle.proof_shape.specs.Beneath.epochs.specs.Sweeping.{ripe}
pub use Rattle.proof_shape.specs.Beneath.nodes.specs.Builders.{by_index, contracted, pair, removed, renewed, rung, updated}
pub use Rattle.proof_shape.specs.Beneath.nodes.specs.Levels.{flag_of, has_flag, index_in, list_depth, parting}
pub use Rattle.proof_shape.specs.Beneath.places.specs.declared.place.Place.{Place}
pub use Rattle.proof_shape.specs.Beneath.history.specs.Worlds.{KeyMap}
pub use Rattle.proof_shape.specs.Beneath.history.specs.declared.calls.Access.{Access}
pub use Rattle.proof_shape.specs.Beneath.history.specs.declared.calls.Access.TheVariants.{ReadOnly, Writable}
pub use Rattle.proof_shape.specs.Beneath.history.specs.declared.calls.Call.{Call}
pub use Rattle.proof_shape.specs.Beneath.history.specs.declared.calls.Call.TheVariants.{Clear, Close, Count, Entries, Freeze, Get, Put, PutIfAbsent, Remove, RemoveIf, Replace, ReplaceIf, Snapshot}
pub use Rattle.proof_shape.specs.Beneath.history.specs.declared.replies.Reply.{Reply}
pub use Rattle.proof_shape.specs.Beneath.machine_model.specs.Acting.{gone, operation_after}
pub use Rattle.proof_shape.specs.Beneath.machine_model.specs.Building.{after_link, after_single, build_action, build_after, build_after_made, build_if_made, changed, key_in, old_hash}
pub use Rattle.proof_shape.specs.Beneath.machine_model.specs.Calls.{handle_of, key_of, needs_writable, value_of}
pub use Rattle.proof_shape.specs.Beneath.machine_model.specs.Cleaning.{after_child, clean_after, clean_after_contracted, clean_after_entry, clean_after_main, clean_after_read, clean_after_tomb}
pub use Rattle.proof_shape.specs.Beneath.machine_model.specs.Cleaning.{clean_next, cleaned, is_single, leaves_single}
pub use Rattle.proof_shape.specs.Beneath.machine_model.specs.Climbing.{climb_after, climb_after_contracted, climb_after_main, climb_after_read, climb_after_root, climbed, climbed_node, climbing}
pub use Rattle.proof_shape.specs.Beneath.machine_model.specs.Climbing.{higher, holds_it, place_in}
pub use Rattle.proof_shape.specs.Beneath.machine_model.specs.Contents.{IsReached, content_at, from_slot, most_levels}
unfoldable pub use Rattle.proof_shape.specs.Beneath.machine_model.specs.Contents.{pairs_below}
pub use Rattle.proof_shape.specs.Beneath.machine_model.specs.Copying.{copy_after}
pub use Rattle.proof_shape.specs.Beneath.machine_model.specs.Counting.{refs_of_root, settled}
pub use Rattle.proof_shape.specs.Beneath.machine_model.specs.Finding.{absent_listed, after_listed, after_sibling, found, going_down, is_passable, key_after, key_after_entry, key_after_main}
pub use Rattle.proof_shape.specs.Beneath.machine_model.specs.Finding.{key_after_read}
pub use Rattle.proof_shape.specs.Beneath.machine_model.specs.GivingUp.{gave_up, given_up}
pub use Rattle.proof_shape.specs.Beneath.machine_model.specs.Grown.{main_before, main_word, node_under, or_before, prev_word, standing}
unfoldable pub use Rattle.proof_shape.specs.Beneath.machine_model.specs.Grown.{grown}
pub use Rattle.proof_shape.specs.Beneath.machine_model.specs.Keys.{FitsKey, KeysFit}
pub use Rattle.proof_shape.specs.Beneath.machine_model.specs.Lines.{new_try}
pub use Rattle.proof_shape.specs.Beneath.machine_model.specs.Machine.{Answer, AreBounds, begin_denial, begin_unless, begun_operation, give_up_by, give_up_on, give_up_unless, go_on, go_unless}
pub use Rattle.proof_shape.specs.Beneath.machine_model.specs.Machine.{is_number, is_taken_step, next_state, pin_of, run, settled_after, state_after, step_by, swept, taken_steps, with_begin}
unfoldable pub use Rattle.proof_shape.specs.Beneath.machine_model.specs.Machine.{next, run_from, taken_from}
pub use Rattle.proof_shape.specs.Beneath.machine_model.specs.Moves.{Begins, Ends, GivesUp, GoesOn, Moves, MovesIfTaken, Sweeps}
pub use Rattle.proof_shape.specs.Beneath.machine_model.specs.Operations.{action_of, after_root, after_update, climbed_on, first_line, generation_from, given_root, kind_of, line_action, line_after}
pub use Rattle.proof_shape.specs.Beneath.machine_model.specs.Operations.{read_of, swapped}
pub use Rattle.proof_shape.specs.Beneath.machine_model.specs.Pairs.{by_key}
pub use Rattle.proof_shape.specs.Beneath.machine_model.specs.Paths.{above, current, depth_of, flag_in, hash_in, is_below_root, is_start, start_of}
pub use Rattle.proof_shape.specs.Beneath.machine_model.specs.Reading.{Commits, Fails, Overtaken, Verdict, after_ask, after_decide, after_prev, after_restore, at_indirection, committed_by}
pub use Rattle.proof_shape.specs.Beneath.machine_model.specs.Reading.{committed_so, read_action, read_after, read_step, reading, verdict}
pub use Rattle.proof_shape.specs.Beneath.machine_model.specs.Records.{Record, changer_of, commits_after, entered, entered_by, moment_after, moment_at, no_moment, noted, noted_progress, place_of}
pub use Rattle.proof_shape.specs.Beneath.machine_model.specs.Records.{with_moment}
pub use Rattle.proof_shape.specs.Beneath.machine_model.specs.Renewing.{branch_of, next_entry, renew_after, renew_after_branch, renew_after_entry, renew_after_link, renew_after_read, renew_next}
pub use Rattle.proof_shape.specs.Beneath.machine_model.specs.States.{State, operation_of, root_at, root_of, word_at, word_of}
unfoldable pub use Rattle.proof_shape.specs.Beneath.machine_model.specs.States.{first_state}
pub use Rattle.proof_shape.specs.Beneath.machine_model.specs.Swapping.{action_at, after_check, after_complete, after_completing, after_deciding, after_publish, after_root_word, complete_action_at}
pub use Rattle.proof_shape.specs.Beneath.machine_model.specs.Swapping.{completing, of_offer, on_line, root_action, root_after}
pub use Rattle.proof_shape.specs.Beneath.machine_model.specs.Tellings.{changer_for, committed_in, committed_now, entrant_of, progress_of, told_in}
pub use Rattle.proof_shape.specs.Beneath.machine_model.specs.Times.{IsRun, Turn, last_of, noted_turn, states_of, turns}
unfoldable pub use Rattle.proof_shape.specs.Beneath.machine_model.specs.Times.{states_from}
pub use Rattle.proof_shape.specs.Beneath.machine_model.specs.Walking.{first_of, rest_of, walk_after, walk_after_entry, walk_after_read, walk_next}
pub use Rattle.proof_shape.specs.Beneath.machine_model.specs.declared.actions.Action.{Action}
pub use Rattle.proof_shape.specs.Beneath.machine_model.specs.declared.building.BuildLine.{BuildLine}
pub use Rattle.proof_shape.specs.Beneath.machine_model.specs.declared.building.Change.{Change}
pub use Rattle.proof_shape.specs.Beneath.machine_model.specs.declared.building.Site.{Site}
pub use Rattle.proof_shape.specs.Beneath.machine_model.specs.declared.copying.CopyLine.{CopyLine}
pub use Rattle.proof_shape.specs.Beneath.machine_model.specs.declared.finding.KeyLine.{KeyLine}
pub use Rattle.proof_shape.specs.Beneath.machine_model.specs.declared.lines.Line.{Line}
pub use Rattle.proof_shape.specs.Beneath.machine_model.specs.declared.lines.Purpose.{Purpose}
pub use Rattle.proof_shape.specs.Beneath.machine_model.specs.declared.operations.Operation.{Operation}
pub use Rattle.proof_shape.specs.Beneath.machine_model.specs.declared.reading.After.{After}
pub use Rattle.proof_shape.specs.Beneath.machine_model.specs.declared.reading.After.TheVariants.{Gives}
pub use Rattle.proof_shape.specs.Beneath.machine_model.specs.declared.reading.Read.{Read}
pub use Rattle.proof_shape.specs.Beneath.machine_model.specs.declared.reading.ReadLine.{ReadLine}
pub use Rattle.proof_shape.specs.Beneath.machine_model.specs.declared.reading.Swap.{Swap}
pub use Rattle.proof_shape.specs.Beneath.machine_model.specs.declared.reading.SwapLine.{SwapLine}
pub use Rattle.proof_shape.specs.Beneath.machine_model.specs.declared.reading.SwapLine.TheVariants.{Deciding}
pub use Rattle.proof_shape.specs.Beneath.machine_model.specs.declared.records.Commit.{Commit}
pub use Rattle.proof_shape.specs.Beneath.machine_model.specs.declared.records.Moment.{Moment}
pub use Rattle.proof_shape.specs.Beneath.machine_model.specs.declared.repairs.CleanLine.{CleanLine}
pub use Rattle.proof_shape.specs.Beneath.machine_model.specs.declared.repairs.Climb.{Climb}
pub use Rattle.proof_shape.specs.Beneath.machine_model.specs.declared.repairs.ClimbLine.{ClimbLine}
pub use Rattle.proof_shape.specs.Beneath.machine_model.specs.declared.repairs.RenewLine.{RenewLine}
pub use Rattle.proof_shape.specs.Beneath.machine_model.specs.declared.roots.Complete.{Complete}
pub use Rattle.proof_shape.specs.Beneath.machine_model.specs.declared.roots.CompleteLine.{CompleteLine}
pub use Rattle.proof_shape.specs.Beneath.machine_model.specs.declared.roots.Descriptor.{Descriptor}
pub use Rattle.proof_shape.specs.Beneath.machine_model.specs.declared.roots.Root.{Root}
pub use Rattle.proof_shape.specs.Beneath.machine_model.specs.declared.roots.RootLine.{RootLine}
pub use Rattle.proof_shape.specs.Beneath.machine_model.specs.declared.roots.RootWord.{RootWord}
pub use Rattle.proof_shape.specs.Beneath.machine_model.specs.declared.roots.RootWord.TheVariants.{Offer, Plain}
pub use Rattle.proof_shape.specs.Beneath.machine_model.specs.declared.steps.Bounds.{Bounds}
pub use Rattle.proof_shape.specs.Beneath.machine_model.specs.declared.steps.Outcome.{Outcome}
pub use Rattle.proof_shape.specs.Beneath.machine_model.specs.declared.steps.Step.{Step}
pub use Rattle.proof_shape.specs.Beneath.machine_model.specs.declared.steps.Step.TheVariants.{Go}
pub use Rattle.proof_shape.specs.Beneath.machine_model.specs.declared.walking.WalkLine.{WalkLine}
pub use Rattle.proof_shape.specs.Beneath.proof_contents.specs.Grows.{NodesStay}
pub use Rattle.proof_shape.specs.Beneath.proof_contents.specs.InUse.{ReachesInUse}
pub use Rattle.proof_shape.specs.Beneath.proof_contents.specs.Laws.{HoldsAt}
pub use Rattle.proof_shape.specs.Beneath.proof_contents.specs.Lines.Changes.{Absence, IsFlagged, IsGet, IsOther, Known, KnowsBuild, KnowsChange, KnowsKey, KnowsLine, KnowsSwap, LeadsBelow}
pub use Rattle.proof_shape.specs.Beneath.proof_contents.specs.Lines.Changes.{Neighbour, Presence, build_path, by_link, by_pair, in_list, main_of_build, main_of_key, no_flag, not_listed, of_branch}
pub use Rattle.proof_shape.specs.Beneath.proof_contents.specs.Lines.Changes.{of_list}
pub use Rattle.proof_shape.specs.Beneath.proof_contents.specs.Lines.Repairs.{AllDone, AreDone, IsDone, IsLink, IsOlder, IsRepaired, KnowsClean, KnowsRenew, KnowsRepair, ReadsBelow, SomeDone, cleans}
pub use Rattle.proof_shape.specs.Beneath.proof_contents.specs.Lines.Repairs.{keeps, renews}
pub use Rattle.proof_shape.specs.Beneath.proof_contents.specs.Nodes.Branches.{HasPlaces, at_place}
pub use Rattle.proof_shape.specs.Beneath.proof_contents.specs.Nodes.Chains.{LeadsToPair, Parts, at_pair, by_rung}
pub use Rattle.proof_shape.specs.Beneath.proof_contents.specs.Nodes.Lists.{AreSingles}
pub use Rattle.proof_shape.specs.Beneath.proof_contents.specs.Nodes.Looking.{Absent, Has, look_among, look_at, look_in, or_else, value_by}
unfoldable pub use Rattle.proof_shape.specs.Beneath.proof_contents.specs.Nodes.Looking.{find_at}
pub use Rattle.proof_shape.specs.Beneath.proof_contents.specs.Pairs.{pairs_of}
pub use Rattle.proof_shape.specs.Beneath.proof_contents.specs.Runs.{counting_main, is_made, or_other, root_among, trie_of}
unfoldable pub use Rattle.proof_shape.specs.Beneath.proof_contents.specs.Runs.{main_within, root_until}
pub use Rattle.proof_shape.specs.Beneath.proof_contents.specs.Shapes.{LeadsTo, StandsFor, becomes_single, stands_for, unchanged}
pub use Rattle.proof_shape.specs.Beneath.proof_contents.specs.Tries.{IsChild, IsShaped, Trie, branch, generation, list, node_in, tomb}
unfoldable pub use Rattle.proof_shape.specs.Beneath.proof_contents.specs.Tries.{content}
pub use Rattle.proof_shape.specs.Beneath.proof_memory.specs.Laws.{IsInUse}
pub use Rattle.proof_shape.specs.Beneath.proof_memory.specs.Levels.{BuildLevel, ChangeLevel, CompleteLevel, DoneLevel, EntryLevel, KindLevel, LineLevel, NodeLevel, PathLevel, PlaceLevel, PrevLevel}
pub use Rattle.proof_shape.specs.Beneath.proof_memory.specs.Levels.{PurposeLevel, ReadLevel, RootLevel, UpdateLevel, WordLevel, made_level}
pub use Rattle.proof_shape.specs.Beneath.proof_memory.specs.Making.{if_made, level_by, level_now, made_by, made_node, made_now}
pub use Rattle.proof_shape.specs.Beneath.proof_memory.specs.Wants.{ABranch, AMain, ASingle, AllHold, AnEntry, AnIndirection, BranchOrList, Each, Holds, Is, Wanted, action_wants, flags, is_branch}
pub use Rattle.proof_shape.specs.Beneath.proof_memory.specs.Wants.{is_branch_or_list, is_formed, line_wants, listed, meets, node_wants, path_wants, prev_wants, purpose_wants, read_wants, site_wants}
pub use Rattle.proof_shape.specs.Beneath.proof_memory.specs.Wants.{swap_line_wants, swap_wants, word_wants}
pub use Rattle.proof_shape.specs.Beneath.proof_commits.specs.Laws.{IsInSwap}
pub use Rattle.proof_shape.specs.Beneath.proof_commits.specs.Moments.{IsMoment, later_of}
pub use Rattle.proof_shape.specs.Beneath.proof_commits.specs.Protocol.{Builds, Checks, CommitsNode, Decides, DecidesOn, Given, Idles, MayHave, MayName, Protocol, ReadTurn, Reads, Rests, Stage}
pub use Rattle.proof_shape.specs.Beneath.proof_commits.specs.Protocol.{SwapsNode, Words, counts_at}
pub use Rattle.proof_shape.specs.Beneath.proof_commits.specs.Stages.{stage_of, stage_of_actor, stage_of_complete, stage_of_swap}
pub use Rattle.proof_shape.specs.Beneath.proof_commits.specs.Words.{words_of}
pub use Rattle.proof_generations.specs.Falling.{purpose_path, renew_path}

-- The words of the definition and of the crates below, for the files of this crate.
pub use Rattle.ctrie_base.specs.Hashes.{hash_of}
pub use Rattle.ctrie_base.specs.Paths.{index_at, position_of}
pub use Rattle.ctrie_base.specs.declared.hashes.HashKind.{HashKind}
pub use Rattle.ctrie_base.specs.declared.hashes.HashKind.TheVariants.{Low}
pub use Rattle.ctrie_base.specs.declared.kinds.Kind.{Kind}
pub use Rattle.ctrie_base.specs.declared.refusals.Refusal.{Refusal}
pub use Rattle.slot_arena.specs.Arenas.{AreLive, IsLive, is_indirection, is_main_node}
unfoldable pub use Rattle.slot_arena.specs.Counts.{count_of}
pub use Rattle.slot_arena.specs.Heaps.{Heap, bitmap_of, empty_branch, entries_of, entry_at, generation_at, generation_of, heap_refs, in_use, logical_main, main_at, main_of, named_from, next_ref}
pub use Rattle.slot_arena.specs.Heaps.{no_ref, node_of, refs_of_node, refs_of_option, refs_of_slot}
unfoldable pub use Rattle.slot_arena.specs.Heaps.{freed, node_at, prev_at, stored, taken, with_prev}
pub use Rattle.slot_arena.specs.Refs.{birth_limit, most_slots, ref_to, slot_of}
pub use Rattle.slot_arena.specs.Ticking.{TakesUpTo}
pub use Rattle.slot_arena.specs.Times.{times, without}
pub use Rattle.slot_arena.specs.Views.{viewed}
pub use Rattle.slot_arena.specs.declared.nodes.Node.{Node}
pub use Rattle.slot_arena.specs.declared.nodes.Node.TheVariants.{Branch, Indirection, List, Single, Tomb}
pub use Rattle.slot_arena.specs.declared.nodes.Slot.{Slot}
pub use Rattle.slot_arena.specs.declared.refs.Ref.{Ref}
pub use Rattle.epochs.specs.Laws.{AreAlike}
pub use Rattle.epochs.specs.Limbo.{by_birth, is_in, is_zero, limbo_after, newly_zero}
pub use Rattle.epochs.specs.Memories.{Settles, freed_by, staying}
pub use Rattle.epochs.specs.Sweeping.{Reclaimer, advanced, is_passed, passes_all, ripe, scanned, sweep_by, swept_once}
pub use Rattle.epochs.specs.declared.limbo.Swept.{Swept}
pub use Rattle.epochs.specs.declared.limbo.Zeroed.{Zeroed}
pub use Rattle.machine_core.specs.Beneath.nodes.specs.Builders.{by_index, pair, renewed, rung}
pub use Rattle.machine_core.specs.Beneath.nodes.specs.Levels.{flag_of, has_flag, index_in, list_depth, parting}
pub use Rattle.history.specs.declared.calls.Access.{Access}
pub use Rattle.history.specs.declared.calls.Access.TheVariants.{ReadOnly, Writable}
pub use Rattle.history.specs.declared.calls.Call.{Call}
pub use Rattle.history.specs.declared.replies.Reply.{Reply}
pub use Rattle.machine_model.specs.Acting.{acted, attempt_after, ended, gone, if_changed, mark_after, marked, opened, opened_root, operation_after, private_after, published}
pub use Rattle.machine_model.specs.Building.{changed, key_in, old_hash}
pub use Rattle.machine_model.specs.Calls.{absent_reply, changed_reply, handle_of, inserts, key_of, needs_read_only, needs_writable, opens_handle, value_of, when_found}
pub use Rattle.machine_model.specs.Contents.{content_at, most_levels}
unfoldable pub use Rattle.machine_model.specs.Contents.{pairs_below}
pub use Rattle.machine_model.specs.Counting.{outside, refs_of_operation, refs_of_root, settled}
pub use Rattle.machine_model.specs.Finding.{passes}
pub use Rattle.machine_model.specs.GivingUp.{given_up}
pub use Rattle.machine_model.specs.Grown.{standing}
pub use Rattle.machine_model.specs.Keys.{FitsKey}
pub use Rattle.machine_model.specs.Machine.{access_of, answer_given_up, begin_denial, begin_unless, begun_operation, denial_of, first_reason, give_up_by, give_up_denial, give_up_on, give_up_unless}
pub use Rattle.machine_model.specs.Machine.{go_denial, go_on, go_unless, handle_closed, is_actor, is_busy, is_number, is_running, is_spent, is_taken, is_taken_step, least_free, longest_life, names}
pub use Rattle.machine_model.specs.Machine.{next_kind, pin_of, reclaimer_of, reserved_by, run, settled_after, swept, swept_with, went, with_begin}
unfoldable pub use Rattle.machine_model.specs.Machine.{next}
pub use Rattle.machine_model.specs.Moves.{GoesOn}
pub use Rattle.machine_model.specs.Operations.{action_of, completing_read, first_line, generation_from, kind_of, line_action, read_of, rooting_read, swapping_read}
pub use Rattle.machine_model.specs.Pairs.{by_key, comes_before}
pub use Rattle.machine_model.specs.Paths.{above}
pub use Rattle.machine_model.specs.Reads.{completing_at, rooting_at, swapping_at, with_read}
pub use Rattle.machine_model.specs.Records.{first_record}
pub use Rattle.machine_model.specs.States.{State, empty_heap, first_heap, handle_limit, key_hash, operation_of, rewritten, root_at, root_of, with_operation, with_root, with_word, word_at, word_of}
unfoldable pub use Rattle.machine_model.specs.States.{first_state}
pub use Rattle.machine_model.specs.Swapping.{action_at, complete_action_at, is_carried_out, is_plain, root_action, stands_in}
pub use Rattle.machine_model.specs.Tellings.{entrant_of, progress_of, published_by, told_by, told_in, told_of}
pub use Rattle.machine_model.specs.declared.actions.Action.{Action}
pub use Rattle.machine_model.specs.declared.building.Change.{Change}
pub use Rattle.machine_model.specs.declared.building.Change.TheVariants.{Update}
pub use Rattle.machine_model.specs.declared.finding.WhenFound.TheVariants.{Answers, Removes, Sets}
pub use Rattle.machine_model.specs.declared.lines.Line.{Line}
pub use Rattle.machine_model.specs.declared.operations.Operation.{Operation}
pub use Rattle.machine_model.specs.declared.reading.Read.{Read}
pub use Rattle.machine_model.specs.declared.reading.ReadLine.{ReadLine}
pub use Rattle.machine_model.specs.declared.records.Entrant.{Entrant}
pub use Rattle.machine_model.specs.declared.records.Publication.{Publication}
pub use Rattle.machine_model.specs.declared.records.Told.{Told}
pub use Rattle.machine_model.specs.declared.repairs.Climb.{Climb}
pub use Rattle.machine_model.specs.declared.roots.Descriptor.{Descriptor}
pub use Rattle.machine_model.specs.declared.roots.Root.{Root}
pub use Rattle.machine_model.specs.declared.roots.RootWord.{RootWord}
pub use Rattle.machine_model.specs.declared.roots.RootWord.TheVariants.{Offer, Plain}
pub use Rattle.machine_model.specs.declared.steps.Bounds.{Bounds}
pub use Rattle.machine_model.specs.declared.steps.Outcome.{Outcome}
pub use Rattle.machine_model.specs.declared.steps.Outcome.TheVariants.{Ended}
pub use Rattle.machine_model.specs.declared.steps.Step.{Step}
pub use Rattle.machine_model.specs.declared.steps.Step.TheVariants.{Sweep}
pub use Rattle.machine_core.specs.Beneath.proof_contents.specs.Nodes.Looking.{Absent, Below, Has, look_among}
unfoldable pub use Rattle.machine_core.specs.Beneath.proof_contents.specs.Nodes.Looking.{find_at}
pub use Rattle.machine_core.specs.Beneath.proof_memory.specs.Laws.{IsInUse}
pub use Rattle.machine_core.specs.Beneath.proof_memory.specs.Wants.{AMain, AnEntry, Holds, Is, action_wants, is, is_branch, line_wants, read_wants}
pub use Rattle.machine_core.specs.Beneath.proof_operations.specs.Laws.{HaveIds, LineHasRoom}
pub use Rattle.machine_core.specs.Beneath.proof_straight.specs.Changes.{changed_main, parts_at, with_change, with_link, with_pair, with_single}
unfoldable pub use Rattle.machine_core.specs.Beneath.proof_straight.specs.Changes.{with_links}
pub use Rattle.machine_core.specs.Beneath.proof_straight.specs.Copies.{Course, IsSettled, cleared, closed, first_course, frozen, offer_of, snapshotted, with_new_root, with_offer}
pub use Rattle.machine_core.specs.Beneath.proof_straight.specs.Drafts.{Draft, after_call, first_draft, held_with, next_made, redrafted, swapped_in, with_published}
pub use Rattle.machine_core.specs.Beneath.proof_straight.specs.Passing.{IsRenewed, MeetsOld}
pub use Rattle.machine_core.specs.Beneath.proof_straight.specs.Places.{Finds, HasEntry, Misses, an_indirection, below, beside_other, entry_for, no_entry, not_two, steps_down, to_root}
pub use Rattle.machine_core.specs.Beneath.proof_straight.specs.Renewals.{AreRenewable, IsRenewable, Renewal, is_of_other, is_old, renewal_of, renewed_entry, renewed_state, steps_of_renewal}
pub use Rattle.machine_core.specs.Beneath.proof_straight.specs.Renewals.{with_renewal}
unfoldable pub use Rattle.machine_core.specs.Beneath.proof_straight.specs.Renewals.{renewal_slots, renewed_entries}
pub use Rattle.machine_core.specs.Beneath.proof_straight.specs.Resting.{IsOfRun}
pub use Rattle.machine_core.specs.Beneath.proof_straight.specs.Running.{Comes, HasEmptySlots, IsUpToDate, starts, walks}
pub use Rattle.machine_core.specs.Beneath.operate.specs.Beneath.gcas.specs.Acted.{acted_heap}
pub use Rattle.machine_core.specs.Beneath.operate.specs.Beneath.gcas.specs.Reads.{CanReadAt, CanReadOn, line_of}
pub use Rattle.machine_core.specs.Beneath.operate.specs.Beneath.gcas.specs.Swaps.{CanSwapAt, swap_line_at}
pub use Rattle.machine_core.specs.Beneath.operate.specs.Beneath.gcas.specs.declared.read.ReadAt.{ReadAt}
pub use Rattle.machine_core.specs.Beneath.operate.specs.Beneath.gcas.specs.declared.swap.SwapAt.{SwapAt}
pub use Rattle.machine_core.specs.Beneath.trie_parts.specs.Here.{at_heap, no_state}
pub use Rattle.machine_core.specs.Beneath.trie_parts.specs.Holding.{AreHeld, KeepsOthers}
pub use Rattle.machine_core.specs.Beneath.trie_parts.specs.Steps.{CanMake, IsAskingLine}
pub use Rattle.machine_core.specs.Beneath.trie_parts.specs.declared.calls.KeyCall.{KeyCall}
pub use Rattle.machine_core.specs.Beneath.trie_parts.specs.declared.work.Work.{Work}
pub use Rattle.machine_core.specs.Beneath.rdcss_root.specs.Holding.{root_refs}
pub use Rattle.machine_core.specs.Beneath.rdcss_root.specs.Programs.{CanAbortOn, CanCompleteAt, CanRootOn, ReadsItsRoot, ReadsOffered, complete_line_at}
pub use Rattle.machine_core.specs.Beneath.rdcss_root.specs.Tables.{Table, acted_table, carried_out_in, new_table, opened_in, with_root_in, with_word_in, word_in}
pub use Rattle.machine_core.specs.Beneath.rdcss_root.specs.declared.complete.CompleteAt.{CompleteAt}
pub use Rattle.machine_core.specs.Beneath.root_asking.specs.Asked.{abort_of}
pub use Rattle.machine_core.specs.Beneath.root_asking.specs.declared.asking.Asking.{Asking}
pub use Rattle.machine_core.specs.Beneath.root_asking.specs.declared.asking.Asking.TheVariants.{Met, Unasked}
pub use Rattle.machine_core.specs.Beneath.operate.specs.Beneath.key_change.specs.Steps.{CanChangeAt}
pub use Rattle.machine_core.specs.Beneath.operate.specs.Beneath.key_change.specs.declared.change.ChangeAt.{ChangeAt}
pub use Rattle.machine_core.specs.Beneath.operate.specs.Beneath.contract.specs.Cleaning.{CanCleanAt, clean_line_at}
pub use Rattle.machine_core.specs.Beneath.operate.specs.Beneath.contract.specs.Climbing.{CanClimbAt, climb_line_at, climb_of}
pub use Rattle.machine_core.specs.Beneath.operate.specs.Beneath.contract.specs.Renewing.{CanRenewAt, renew_line_at}
pub use Rattle.machine_core.specs.Beneath.operate.specs.Beneath.contract.specs.declared.clean.CleanAt.{CleanAt}
pub use Rattle.machine_core.specs.Beneath.operate.specs.Beneath.contract.specs.declared.climb.ClimbAt.{ClimbAt}
pub use Rattle.machine_core.specs.Beneath.operate.specs.Beneath.contract.specs.declared.renew.RenewAt.{RenewAt}
pub use Rattle.machine_core.specs.Beneath.snapshot.specs.Copies.{CanCopyAt, IsReadyBeside, copy_line_at, making_line}
pub use Rattle.machine_core.specs.Beneath.snapshot.specs.Tasks.{drawn_by, with_generation}
pub use Rattle.machine_core.specs.Beneath.snapshot.specs.Walks.{CanWalkAt, walk_line_at}
pub use Rattle.machine_core.specs.Beneath.snapshot.specs.declared.copy_op.CopyAt.{CopyAt}
pub use Rattle.machine_core.specs.Beneath.snapshot.specs.declared.copy_op.Making.{Making}
pub use Rattle.machine_core.specs.Beneath.snapshot.specs.declared.walk.WalkAt.{WalkAt}
pub use Rattle.machine_core.specs.Beneath.operate.specs.Places.{answer_of, below_line, key_line_at}
pub use Rattle.machine_core.specs.Beneath.operate.specs.Steps.{CanBelow, CanKeyAt, operation_for}
pub use Rattle.machine_core.specs.Beneath.operate.specs.declared.key_op.BelowAt.{BelowAt}
pub use Rattle.machine_core.specs.Beneath.operate.specs.declared.key_op.KeyAt.{KeyAt}
pub use Rattle.machine_core.specs.Beneath.operate.specs.declared.key_op.KeyOp.{KeyOp}
pub use Rattle.running.specs.Carried.{carried_of, carried_offer}
pub use Rattle.running.specs.Places.{IsBegun, IsSound, IsWaiting, ReadsIn, asking_line, call_for, generation_in, line_for, met_at, program_line, program_line_at}
pub use Rattle.running.specs.Steps.{CanProgram, CanProgramAt, CanStep, Changes, IsWalk, RoomFor, Scene, Takes, at_scene, scene}
pub use Rattle.running.specs.Taking.{Taken}
pub use Rattle.running.specs.declared.job.Program.{Program}
pub use Rattle.running.specs.declared.job.Program.TheVariants.{Copy, Key}
pub use Rattle.running.specs.declared.programs.ProgramAt.{ProgramAt}
pub use Rattle.running.specs.declared.programs.ProgramAt.TheVariants.{Swapped, Walked}
pub use Rattle.running.specs.declared.programs.Programs.{Programs}
pub use Rattle.proof_core.specs.Bounds.{Applies, IsBounded, Walks}
pub use Rattle.proof_core.specs.Comparing.{Adds, Grows, entries_below, main_below}
pub use Rattle.proof_core.specs.Drafting.{CanSwap, IsDraft, KeepsRecords}
pub use Rattle.proof_core.specs.Going.{goes_on}
pub use Rattle.proof_core.specs.Numbering.{KnowsNumbers, begun_on, ended_on, given_back, reserved}
pub use Rattle.proof_core.specs.Reading.{Covers, IsOneOf, is_after, next_of}
pub use Rattle.proof_core.specs.Scanning.{IsEntryPlaced, IsMainPlaced, is_behind, walked_in}
unfoldable pub use Rattle.proof_core.specs.Scanning.{walked}
pub use Rattle.proof_core.specs.Standing.{StandsAt}
pub use Rattle.proof_core.specs.Work.{NotesUpTo, Worked, WorksLittle, WorksUpTo, crossing, held_by, ticks_of_a_step}

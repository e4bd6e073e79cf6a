-- The words of the definition and of the crates below, for the files of this crate.
pub use Rattle.ctrie_base.specs.declared.kinds.Kind.{Kind}
pub use Rattle.running.specs.Beneath.slot_arena.specs.Heaps.{Heap, generation_at, no_ref}
pub use Rattle.running.specs.Beneath.slot_arena.specs.Times.{times}
pub use Rattle.running.specs.Beneath.slot_arena.specs.declared.refs.Ref.{Ref}
pub use Rattle.running.specs.Beneath.history.specs.declared.calls.Access.{Access}
pub use Rattle.running.specs.Beneath.history.specs.declared.calls.Access.TheVariants.{ReadOnly, Writable}
pub use Rattle.running.specs.Beneath.history.specs.declared.calls.Call.{Call}
pub use Rattle.running.specs.Beneath.history.specs.declared.replies.Reply.{Reply}
pub use Rattle.running.specs.Beneath.machine_model.specs.Acting.{acted, attempt_after, if_changed}
pub use Rattle.running.specs.Beneath.machine_model.specs.Calls.{handle_of}
pub use Rattle.running.specs.Beneath.machine_model.specs.Lines.{impossible}
pub use Rattle.running.specs.Beneath.machine_model.specs.Operations.{action_of, completing_read, generation_from, given_root, kind_of, line_action, line_after, read_of, rooting_read, swapping_read}
pub use Rattle.running.specs.Beneath.machine_model.specs.Reading.{after_ask, at_indirection, read_action, read_after}
pub use Rattle.running.specs.Beneath.machine_model.specs.Reads.{rooting_at, swapping_at, with_read}
pub use Rattle.running.specs.Beneath.machine_model.specs.States.{State, word_at}
pub use Rattle.running.specs.Beneath.machine_model.specs.Swapping.{action_at, complete_action_at, is_carried_out, is_plain, root_after, stands_in}
pub use Rattle.running.specs.Beneath.machine_model.specs.Tellings.{carried_by, changer_for, committed_in, counts_from, given_by, given_in, progress_of, published_at, published_by}
pub use Rattle.running.specs.Beneath.machine_model.specs.Walking.{walked_reply}
pub use Rattle.running.specs.Beneath.machine_model.specs.declared.actions.Action.{Action}
pub use Rattle.running.specs.Beneath.machine_model.specs.declared.building.BuildLine.{BuildLine}
pub use Rattle.running.specs.Beneath.machine_model.specs.declared.lines.Line.{Line}
pub use Rattle.running.specs.Beneath.machine_model.specs.declared.operations.Operation.{Operation}
pub use Rattle.running.specs.Beneath.machine_model.specs.declared.reading.Read.{Read}
pub use Rattle.running.specs.Beneath.machine_model.specs.declared.reading.ReadLine.{ReadLine}
pub use Rattle.running.specs.Beneath.machine_model.specs.declared.reading.SwapLine.{SwapLine}
pub use Rattle.running.specs.Beneath.machine_model.specs.declared.records.Carried.{Carried}
pub use Rattle.running.specs.Beneath.machine_model.specs.declared.records.Entrant.{Entrant}
pub use Rattle.running.specs.Beneath.machine_model.specs.declared.records.Progress.{Progress}
pub use Rattle.running.specs.Beneath.machine_model.specs.declared.records.Publication.{Publication}
pub use Rattle.running.specs.Beneath.machine_model.specs.declared.roots.CompleteLine.{CompleteLine}
pub use Rattle.running.specs.Beneath.machine_model.specs.declared.roots.Descriptor.{Descriptor}
pub use Rattle.running.specs.Beneath.machine_model.specs.declared.roots.RootWord.{RootWord}
pub use Rattle.running.specs.Beneath.machine_model.specs.declared.roots.RootWord.TheVariants.{Offer, Plain}
pub use Rattle.running.specs.Beneath.gcas.specs.Acted.{acted_heap}
pub use Rattle.running.specs.Beneath.gcas.specs.Reads.{IsAsking, ReadsAlong, come_to, given_so, line_of}
pub use Rattle.running.specs.Beneath.gcas.specs.declared.read.ReadAt.{ReadAt}
pub use Rattle.running.specs.Beneath.trie_parts.specs.Here.{at_heap, no_operation, no_state}
pub use Rattle.running.specs.Beneath.trie_parts.specs.Steps.{IsAskingLine, IsAskingRead}
pub use Rattle.running.specs.Beneath.trie_parts.specs.declared.calls.KeyCall.{KeyCall}
pub use Rattle.running.specs.Beneath.trie_parts.specs.declared.calls.Task.{Task}
pub use Rattle.running.specs.Beneath.trie_parts.specs.declared.work.Work.{Work}
pub use Rattle.running.specs.Beneath.rdcss_root.specs.Acts.{ActsInAll}
pub use Rattle.running.specs.Beneath.rdcss_root.specs.Programs.{CanAbortOn, table_after_abort}
pub use Rattle.running.specs.Beneath.rdcss_root.specs.Tables.{Table, acted_table, carried_out_in, with_word_in, word_in}
pub use Rattle.running.specs.Beneath.rdcss_root.specs.declared.complete.CompleteAt.{CompleteAt}
pub use Rattle.running.specs.Beneath.root_asking.specs.Asked.{AsksOn, IsUntold, abort_of, ask_action, asked_at, asked_line, asked_read}
pub use Rattle.running.specs.Beneath.root_asking.specs.declared.asking.Asking.{Asking}
pub use Rattle.running.specs.Beneath.root_asking.specs.declared.asking.Asking.TheVariants.{Met, Unasked}
pub use Rattle.snapshot.specs.Copies.{CanCopy, IsReadyBeside, action_on, copy_line, copy_line_at}
pub use Rattle.snapshot.specs.Tasks.{at_roots, drawn_by, mark_of, with_generation}
pub use Rattle.snapshot.specs.Walks.{CanWalk, on_call, walk_line, walk_line_at}
pub use Rattle.snapshot.specs.declared.copy_op.CopyAt.{CopyAt}
pub use Rattle.snapshot.specs.declared.copy_op.CopyOp.{CopyOp}
pub use Rattle.snapshot.specs.declared.tasks.CopyCall.{CopyCall}
pub use Rattle.snapshot.specs.declared.tasks.CopyTask.{CopyTask}
pub use Rattle.snapshot.specs.declared.tasks.WalkCall.{WalkCall}
pub use Rattle.snapshot.specs.declared.walk.WalkAt.{WalkAt}
pub use Rattle.operate.specs.Places.{answer_of, key_line}
pub use Rattle.operate.specs.Reach.{IsOfKey, SwapsNoRoot}
pub use Rattle.operate.specs.Steps.{CanKey, ReadsKey, operation_for, table_after}
pub use Rattle.operate.specs.declared.key_op.KeyOp.{KeyOp}

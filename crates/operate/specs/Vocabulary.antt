-- The words of the definition and of the crates below, for the files of this crate.
pub use Rattle.operate.specs.Beneath.ctrie_base.specs.declared.kinds.Kind.{Kind}
pub use Rattle.operate.specs.Beneath.slot_arena.specs.Heaps.{Heap, generation_at}
pub use Rattle.operate.specs.Beneath.slot_arena.specs.declared.nodes.Node.{Node}
pub use Rattle.operate.specs.Beneath.slot_arena.specs.declared.refs.Ref.{Ref}
pub use Rattle.operate.specs.Beneath.history.specs.declared.calls.Access.{Access}
pub use Rattle.operate.specs.Beneath.history.specs.declared.calls.Access.TheVariants.{ReadOnly, Writable}
pub use Rattle.operate.specs.Beneath.history.specs.declared.replies.Reply.{Reply}
pub use Rattle.operate.specs.Beneath.machine_model.specs.Acting.{attempt_after}
pub use Rattle.operate.specs.Beneath.machine_model.specs.Calls.{handle_of}
pub use Rattle.operate.specs.Beneath.machine_model.specs.Climbing.{climb_after_root, climbed, climbing}
pub use Rattle.operate.specs.Beneath.machine_model.specs.Lines.{impossible}
pub use Rattle.operate.specs.Beneath.machine_model.specs.Operations.{generation_from, kind_of, line_action, rooting_read}
pub use Rattle.operate.specs.Beneath.machine_model.specs.Paths.{above, is_below_root}
pub use Rattle.operate.specs.Beneath.machine_model.specs.Reading.{read_action}
pub use Rattle.operate.specs.Beneath.machine_model.specs.Reads.{with_read}
pub use Rattle.operate.specs.Beneath.machine_model.specs.States.{State, word_at}
pub use Rattle.operate.specs.Beneath.machine_model.specs.Swapping.{root_action, root_after}
pub use Rattle.operate.specs.Beneath.machine_model.specs.declared.actions.Action.{Action}
pub use Rattle.operate.specs.Beneath.machine_model.specs.declared.lines.Line.{Line}
pub use Rattle.operate.specs.Beneath.machine_model.specs.declared.lines.Purpose.{Purpose}
pub use Rattle.operate.specs.Beneath.machine_model.specs.declared.operations.Operation.{Operation}
pub use Rattle.operate.specs.Beneath.machine_model.specs.declared.reading.After.{After}
pub use Rattle.operate.specs.Beneath.machine_model.specs.declared.reading.After.TheVariants.{Gives}
pub use Rattle.operate.specs.Beneath.machine_model.specs.declared.repairs.Climb.{Climb}
pub use Rattle.operate.specs.Beneath.machine_model.specs.declared.roots.Descriptor.{Descriptor}
pub use Rattle.operate.specs.Beneath.machine_model.specs.declared.roots.Root.{Root}
pub use Rattle.operate.specs.Beneath.machine_model.specs.declared.roots.RootLine.{RootLine}
pub use Rattle.operate.specs.Beneath.machine_model.specs.declared.roots.RootWord.{RootWord}
pub use Rattle.operate.specs.Beneath.gcas.specs.Reads.{CanReadOn, IsAsking, ReadsAlong, line_of}
pub use Rattle.operate.specs.Beneath.gcas.specs.Swaps.{swap_with}
pub use Rattle.operate.specs.Beneath.gcas.specs.declared.next.Next.{Next}
pub use Rattle.operate.specs.Beneath.gcas.specs.declared.next.Next.TheVariants.{AskRoot, Done, More}
pub use Rattle.operate.specs.Beneath.gcas.specs.declared.read.ReadAt.{ReadAt}
pub use Rattle.operate.specs.Beneath.gcas.specs.declared.swap.SwapAt.{SwapAt}
pub use Rattle.operate.specs.Beneath.trie_parts.specs.Here.{at_heap}
pub use Rattle.operate.specs.Beneath.trie_parts.specs.Steps.{IsAskingLine, StepsOn}
pub use Rattle.operate.specs.Beneath.trie_parts.specs.declared.calls.KeyCall.{KeyCall}
pub use Rattle.operate.specs.Beneath.trie_parts.specs.declared.calls.Task.{Task}
pub use Rattle.operate.specs.Beneath.rdcss_root.specs.Acts.{ActsInAll}
pub use Rattle.operate.specs.Beneath.rdcss_root.specs.Programs.{CanRootOn, ReadsItsRoot, rooted_at}
pub use Rattle.operate.specs.Beneath.rdcss_root.specs.Tables.{Table, acted_table, word_in}
pub use Rattle.operate.specs.Beneath.rdcss_root.specs.declared.complete.CompleteAt.{CompleteAt}
pub use Rattle.operate.specs.Beneath.key_change.specs.Steps.{CanChange}
pub use Rattle.operate.specs.Beneath.key_change.specs.declared.change.ChangeAt.{ChangeAt}
pub use Rattle.operate.specs.Beneath.key_change.specs.declared.change.Tried.{Tried}
pub use Rattle.operate.specs.Beneath.key_change.specs.declared.change.Tried.TheVariants.{Changed}
pub use Rattle.key_finding.specs.Replies.{reply_of}
pub use Rattle.key_finding.specs.declared.calls.KeyReply.{KeyReply}
pub use Rattle.contract.specs.Cleaning.{CanClean, clean_line, clean_line_at}
pub use Rattle.contract.specs.Climbing.{CanClimb, climb_line, climb_line_at, climb_of}
pub use Rattle.contract.specs.Renewing.{CanRenew, renew_line, renew_line_at}
pub use Rattle.contract.specs.declared.clean.CleanAt.{CleanAt}
pub use Rattle.contract.specs.declared.climb.ClimbAt.{ClimbAt}
pub use Rattle.contract.specs.declared.renew.RenewAt.{RenewAt}

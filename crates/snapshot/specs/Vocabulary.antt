-- The words of the definition, for the files of this crate.
pub use Rattle.ctrie_base.specs.declared.kinds.Kind.{Kind}
pub use Rattle.snapshot.specs.Beneath.slot_arena.specs.Arenas.{AreLive, is_live}
pub use Rattle.snapshot.specs.Beneath.slot_arena.specs.Heaps.{Heap, empty_branch, next_ref, ref_in, take_from}
unfoldable pub use Rattle.snapshot.specs.Beneath.slot_arena.specs.Heaps.{node_at, taken}
pub use Rattle.snapshot.specs.Beneath.slot_arena.specs.Times.{times}
pub use Rattle.snapshot.specs.Beneath.slot_arena.specs.declared.nodes.Node.{Node}
pub use Rattle.snapshot.specs.Beneath.slot_arena.specs.declared.nodes.Node.TheVariants.{Indirection, Single}
pub use Rattle.snapshot.specs.Beneath.slot_arena.specs.declared.refs.Ref.{Ref}
pub use Rattle.snapshot.specs.Beneath.epochs.specs.Memories.{KeepsEpochs}
pub use Rattle.history.specs.declared.calls.Access.{Access}
pub use Rattle.history.specs.declared.calls.Call.{Call}
pub use Rattle.history.specs.declared.replies.Reply.{Reply}
pub use Rattle.snapshot.specs.Beneath.machine_model.specs.Acting.{acted, carried_out, if_changed, new_root_taken, opened}
pub use Rattle.snapshot.specs.Beneath.machine_model.specs.Copying.{copy_action, copy_after_made, copy_if_made}
pub use Rattle.snapshot.specs.Beneath.machine_model.specs.Counting.{refs_of_word}
pub use Rattle.snapshot.specs.Beneath.machine_model.specs.Lines.{impossible}
pub use Rattle.snapshot.specs.Beneath.machine_model.specs.Operations.{generation_from, kind_of, line_action, line_after, read_of}
pub use Rattle.snapshot.specs.Beneath.machine_model.specs.Pairs.{by_key, comes_before}
pub use Rattle.snapshot.specs.Beneath.machine_model.specs.Reading.{read_action}
pub use Rattle.snapshot.specs.Beneath.machine_model.specs.Reads.{with_read}
pub use Rattle.snapshot.specs.Beneath.machine_model.specs.States.{State, with_word, word_at}
pub use Rattle.snapshot.specs.Beneath.machine_model.specs.Swapping.{complete_action, complete_action_at, is_plain, root_action, stands_in}
pub use Rattle.snapshot.specs.Beneath.machine_model.specs.Walking.{first_of, rest_of, walk_after_entry, walk_next, walked_reply}
pub use Rattle.snapshot.specs.Beneath.machine_model.specs.declared.actions.Action.{Action}
pub use Rattle.snapshot.specs.Beneath.machine_model.specs.declared.copying.CopyLine.{CopyLine}
pub use Rattle.snapshot.specs.Beneath.machine_model.specs.declared.lines.Line.{Line}
pub use Rattle.snapshot.specs.Beneath.machine_model.specs.declared.operations.Operation.{Operation}
pub use Rattle.snapshot.specs.Beneath.machine_model.specs.declared.reading.Read.{Read}
pub use Rattle.snapshot.specs.Beneath.machine_model.specs.declared.reading.ReadLine.{ReadLine}
pub use Rattle.snapshot.specs.Beneath.machine_model.specs.declared.roots.Complete.{Complete}
pub use Rattle.snapshot.specs.Beneath.machine_model.specs.declared.roots.CompleteLine.{CompleteLine}
pub use Rattle.snapshot.specs.Beneath.machine_model.specs.declared.roots.Descriptor.{Descriptor}
pub use Rattle.snapshot.specs.Beneath.machine_model.specs.declared.roots.Root.{Root}
pub use Rattle.snapshot.specs.Beneath.machine_model.specs.declared.roots.RootLine.{RootLine}
pub use Rattle.snapshot.specs.Beneath.machine_model.specs.declared.roots.RootWord.TheVariants.{Offer, Plain}

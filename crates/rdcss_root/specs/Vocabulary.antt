-- The words of the definition, for the files of this crate.
pub use Rattle.rdcss_root.specs.Beneath.ctrie_base.specs.declared.hashes.HashKind.TheVariants.{Low}
pub use Rattle.rdcss_root.specs.Beneath.ctrie_base.specs.declared.kinds.Kind.{Kind}
pub use Rattle.rdcss_root.specs.Beneath.slot_arena.specs.Arenas.{AreLive, IsLive, is_live}
pub use Rattle.rdcss_root.specs.Beneath.slot_arena.specs.Heaps.{Heap, next_ref, refs_of_option}
pub use Rattle.rdcss_root.specs.Beneath.slot_arena.specs.Ticking.{TakesUpTo}
pub use Rattle.rdcss_root.specs.Beneath.slot_arena.specs.Times.{times}
pub use Rattle.rdcss_root.specs.Beneath.slot_arena.specs.declared.refs.Ref.{Ref}
pub use Rattle.rdcss_root.specs.Beneath.epochs.specs.Memories.{KeepsEpochs}
pub use Rattle.rdcss_root.specs.Beneath.history.specs.declared.calls.Access.{Access}
pub use Rattle.rdcss_root.specs.Beneath.history.specs.declared.calls.Access.TheVariants.{Writable}
pub use Rattle.rdcss_root.specs.Beneath.machine_model.specs.Acting.{acted, carried_out, if_changed, new_root_taken, opened, opened_root, private_after}
pub use Rattle.rdcss_root.specs.Beneath.machine_model.specs.Counting.{refs_of_root, refs_of_word}
pub use Rattle.rdcss_root.specs.Beneath.machine_model.specs.Operations.{completing_read, kind_of, rooting_read}
pub use Rattle.rdcss_root.specs.Beneath.machine_model.specs.Reading.{read_action, read_after}
pub use Rattle.rdcss_root.specs.Beneath.machine_model.specs.States.{State, handle_limit, rewritten, with_word, word_at, word_of}
pub use Rattle.rdcss_root.specs.Beneath.machine_model.specs.Swapping.{after_reading, complete_action, complete_after, is_plain, of_offer, root_action, root_after, stands_in}
pub use Rattle.rdcss_root.specs.Beneath.machine_model.specs.declared.actions.Action.{Action}
pub use Rattle.rdcss_root.specs.Beneath.machine_model.specs.declared.reading.After.TheVariants.{Gives}
pub use Rattle.rdcss_root.specs.Beneath.machine_model.specs.declared.reading.ReadLine.{ReadLine}
pub use Rattle.rdcss_root.specs.Beneath.machine_model.specs.declared.roots.Complete.{Complete}
pub use Rattle.rdcss_root.specs.Beneath.machine_model.specs.declared.roots.CompleteLine.{CompleteLine}
pub use Rattle.rdcss_root.specs.Beneath.machine_model.specs.declared.roots.Descriptor.{Descriptor}
pub use Rattle.rdcss_root.specs.Beneath.machine_model.specs.declared.roots.Root.{Root}
pub use Rattle.rdcss_root.specs.Beneath.machine_model.specs.declared.roots.RootLine.{RootLine}
pub use Rattle.rdcss_root.specs.Beneath.machine_model.specs.declared.roots.RootWord.{RootWord}
pub use Rattle.rdcss_root.specs.Beneath.machine_model.specs.declared.roots.RootWord.TheVariants.{Offer, Plain}

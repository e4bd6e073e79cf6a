-- The words of the definition, for the files of this crate.
pub use Rattle.ctrie_base.specs.declared.hashes.HashKind.{HashKind}
pub use Rattle.ctrie_base.specs.declared.hashes.HashKind.TheVariants.{Block, Fold, Low, Wide}
pub use Rattle.shared_map.specs.Beneath.slot_arena.specs.Heaps.{in_use}
pub use Rattle.shared_map.specs.Beneath.slot_arena.specs.Refs.{most_slots}
pub use Rattle.history.specs.Effects.{has_value}
pub use Rattle.history.specs.Worlds.{KeyMap}
pub use Rattle.history.specs.declared.calls.Access.{Access}
pub use Rattle.history.specs.declared.calls.Access.TheVariants.{ReadOnly, Writable}
pub use Rattle.history.specs.declared.calls.Call.{Call}
pub use Rattle.history.specs.declared.calls.Call.TheVariants.{Clear, Close, Entries, Freeze, Put, PutIfAbsent, Remove, RemoveIf, Replace, ReplaceIf, Snapshot}
pub use Rattle.shared_map.specs.Beneath.ctrie_map.specs.Beneath.proof_alone.specs.Beneath.machine_model.specs.States.{handle_limit}

-- The words of the definition, for the files of this crate.
pub use Rattle.ctrie_base.specs.Hashes.{hash_of}
pub use Rattle.ctrie_base.specs.Sorting.{sorted_by}
pub use Rattle.ctrie_base.specs.declared.hashes.HashKind.{HashKind}
pub use Rattle.ctrie_base.specs.declared.hashes.HashKind.TheVariants.{Block, Fold, Low, Wide}
pub use Rattle.history.specs.Effects.{changing, has_value, is_crowded, map_of, naming, others, put_if_absent_in, read_only_map_of, remove_if_in, remove_in, replace_if_in, replace_in, with_access}
pub use Rattle.history.specs.Effects.{writable_map_of}
pub use Rattle.history.specs.Worlds.{HandleMap, HandleState, KeyMap, first_world}
pub use Rattle.history.specs.declared.calls.Access.{Access}
pub use Rattle.history.specs.declared.calls.Access.TheVariants.{ReadOnly, Writable}
pub use Rattle.history.specs.declared.calls.Call.{Call}
pub use Rattle.history.specs.declared.calls.Call.TheVariants.{Clear, Close, Count, Entries, Freeze, Get, Put, PutIfAbsent, Remove, RemoveIf, Replace, ReplaceIf, Snapshot}
pub use Rattle.history.specs.declared.replies.Reply.{Reply}
pub use Rattle.history.specs.declared.replies.Reply.TheVariants.{Closed, NoSlots, Opened, Pairs, Truth}
pub use Rattle.machine_model.specs.Calls.{handle_of, opens_handle}
pub use Rattle.machine_model.specs.Pairs.{by_key, comes_before}
pub use Rattle.machine_model.specs.States.{handle_limit}

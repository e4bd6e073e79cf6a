-- The words of the definition, for the files of this crate.
pub use Rattle.ctrie_base.specs.Hashes.{hash_of}
pub use Rattle.history.specs.Beginnings.{LeadsTo, MayStand}
pub use Rattle.history.specs.Effects.{answer_in, changing, effect, has_value, is_crowded, map_of, naming, put_if_absent_in, remove_if_in, remove_in, replace_if_in, replace_in, with_access}
pub use Rattle.history.specs.Faults.{IsAmong, IsInTime}
pub use Rattle.history.specs.Histories.{BeginsAt, EndsAt, HasBegun, HasEnded, IsWellFormed, begun}
pub use Rattle.history.specs.Orders.{Answered, Explains, IsBefore, IsLegal, OrderedAt, RecallsEach, Replays}
pub use Rattle.history.specs.Replays.{Agrees}
pub use Rattle.history.specs.Tables.{IsRowOf, Records, recorded}
pub use Rattle.history.specs.Worlds.{HandleMap, HandleState, KeyMap, first_world}
pub use Rattle.history.specs.declared.calls.Access.{Access}
pub use Rattle.history.specs.declared.calls.Access.TheVariants.{ReadOnly, Writable}
pub use Rattle.history.specs.declared.calls.Call.{Call}
pub use Rattle.history.specs.declared.calls.Call.TheVariants.{Clear, Close, Count, Entries, Freeze, Get, Put, PutIfAbsent, Remove, RemoveIf, Replace, ReplaceIf, Snapshot}
pub use Rattle.history.specs.declared.events.Event.{Event}
pub use Rattle.history.specs.declared.events.Event.TheVariants.{End}
pub use Rattle.history.specs.declared.replies.Reply.{Reply}
pub use Rattle.history.specs.declared.replies.Reply.TheVariants.{NoSlots}
pub use Rattle.history.specs.declared.tables.Row.{Row}
pub use Rattle.history.specs.declared.tables.Table.{Table}

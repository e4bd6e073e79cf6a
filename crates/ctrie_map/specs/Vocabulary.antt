-- The words of the definition, for the files of this crate.
pub use Rattle.ctrie_base.specs.Hashes.{hash_of}
pub use Rattle.ctrie_base.specs.Sorting.{put_by, sorted_by}
pub use Rattle.ctrie_base.specs.declared.hashes.HashKind.{HashKind}
pub use Rattle.ctrie_base.specs.declared.kinds.Kind.{Kind}
pub use Rattle.ctrie_base.specs.declared.refusals.Refusal.{Refusal}
unfoldable pub use Rattle.ctrie_map.specs.Beneath.slot_arena.specs.Heaps.{taken}
pub use Rattle.ctrie_map.specs.Beneath.slot_arena.specs.Refs.{most_slots}
pub use Rattle.machine_core.specs.Beneath.nodes.specs.Levels.{list_depth}
pub use Rattle.history.specs.Effects.{Effect, changing, copying, effect, has_value, is_crowded, map_of, naming, others, put_if_absent_in, remove_if_in, remove_in, replace_if_in, replace_in}
pub use Rattle.history.specs.Effects.{with_access, writable_map_of}
pub use Rattle.history.specs.Worlds.{HandleMap, HandleState, KeyMap, first_world}
pub use Rattle.history.specs.declared.calls.Access.{Access}
pub use Rattle.history.specs.declared.calls.Access.TheVariants.{ReadOnly, Writable}
pub use Rattle.history.specs.declared.calls.Call.{Call}
pub use Rattle.history.specs.declared.calls.Call.TheVariants.{Clear, Close, Count, Entries, Freeze, Get, Put, PutIfAbsent, Remove, RemoveIf, Replace, ReplaceIf, Snapshot}
pub use Rattle.history.specs.declared.replies.Reply.{Reply}
pub use Rattle.history.specs.declared.replies.Reply.TheVariants.{Cleared, Closed, Crowded, Found, NoSlots, Opened, Truth}
pub use Rattle.machine_model.specs.Calls.{handle_of, is_close, key_of, needs_read_only, needs_writable, opens_handle}
pub use Rattle.machine_model.specs.Contents.{content_at}
pub use Rattle.machine_model.specs.Machine.{Answer, access_of, begin_denial, first_reason, handles_taken, is_access, is_actor, is_busy, is_running, is_spent, longest_life, names, runs_on}
unfoldable pub use Rattle.machine_model.specs.Machine.{next, run_from}
pub use Rattle.machine_model.specs.Pairs.{comes_before}
pub use Rattle.machine_model.specs.Refusing.{RefusesContent}
pub use Rattle.machine_model.specs.States.{State, first_heap, handle_limit, operation_of, root_at}
unfoldable pub use Rattle.machine_model.specs.States.{first_state}
pub use Rattle.machine_model.specs.declared.operations.Operation.{Operation}
pub use Rattle.machine_model.specs.declared.roots.Root.{Root}
pub use Rattle.machine_model.specs.declared.steps.Bounds.{Bounds}
pub use Rattle.machine_model.specs.declared.steps.Outcome.{Outcome}
pub use Rattle.machine_model.specs.declared.steps.Outcome.TheVariants.{Began, Ended, Went}
pub use Rattle.machine_model.specs.declared.steps.Step.TheVariants.{Go}

-- An operation on one key, as the definition's.
use Rattle.std.specs.Prelude.{ℕ, Bool, nat_eq, Some}
use Rattle.std.specs.Option.{option_eq}
use Rattle.trie_parts.specs.Beneath.history.specs.declared.calls.Access.{Access}
use Rattle.trie_parts.specs.Beneath.history.specs.declared.calls.Call.{Call}
use Rattle.trie_parts.specs.Beneath.history.specs.declared.calls.Call.TheVariants as calls
use Rattle.trie_parts.specs.Beneath.machine_model.specs.declared.operations.Operation.{Operation}
use Rattle.trie_parts.specs.Beneath.machine_model.specs.Calls.{handle_of}
use Rattle.trie_parts.specs.declared.calls.KeyCall.{KeyCall}
use Rattle.trie_parts.specs.declared.calls.KeyCall.TheVariants.{Get, Put, PutIfAbsent, Replace, ReplaceIf, Remove, RemoveIf}
use Rattle.trie_parts.specs.declared.calls.Task.{Task}

-- the call on this handle
abbrev pub call_of : ℕ → KeyCall → Call
call_of handle (Get k) = calls.Get handle k
call_of handle (Put k v) = calls.Put handle k v
call_of handle (PutIfAbsent k v) = calls.PutIfAbsent handle k v
call_of handle (Replace k v) = calls.Replace handle k v
call_of handle (ReplaceIf k a b) = calls.ReplaceIf handle k a b
call_of handle (Remove k) = calls.Remove handle k
call_of handle (RemoveIf k v) = calls.RemoveIf handle k v

-- the operation, whatever else it has, of this task, on a handle of this kind
abbrev pub for_task : Task → Access → Operation → Operation
for_task task access operation = record operation { call = call_of (handle_of operation.call) task.call; access = access; generation = task.generation }

-- the generation is that of the root
abbrev pub is_begun_in : Task → ℕ → Bool
is_begun_in task generation = option_eq nat_eq task.generation (Some generation)

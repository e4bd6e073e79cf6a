-- What calls are answered, what callers are told then, and why they may be refused.
use Rattle.std.specs.Prelude.{◌≡◌, ◌||◌, true, false}
use Rattle.history.specs.declared.calls.Call.{Call}
use Rattle.history.specs.declared.calls.Call.TheVariants.{Get, Put, PutIfAbsent, Replace, ReplaceIf, Remove, RemoveIf, Clear, Snapshot, Freeze}
use Rattle.history.specs.declared.replies.Reply.{Reply}
use Rattle.history.specs.declared.replies.Reply.TheVariants as reply
use Rattle.machine_model.specs.Calls.{copies, inserts, is_close, needs_read_only, needs_writable, opens_handle}
use Rattle.lock_free.specs.declared.call_errors.CallError.{CallError}
use Rattle.lock_free.specs.declared.call_errors.CallError.TheVariants as error

-- the reply tells of a value
abbrev pub TellsValue : Reply → Type 0
TellsValue (reply.Found value) = Unit {0}
TellsValue answer = ⊥

-- it tells whether the value was the one asked for
abbrev pub TellsTruth : Reply → Type 0
TellsTruth (reply.Truth truth) = Unit {0}
TellsTruth answer = ⊥

-- it tells of a handle that was opened
abbrev pub TellsHandle : Reply → Type 0
TellsHandle (reply.Opened number) = Unit {0}
TellsHandle answer = ⊥

-- it refuses the call
abbrev pub Refuses : Reply → Type 0
Refuses reply.Crowded = Unit {0}
Refuses reply.NoSlots = Unit {0}
Refuses answer = ⊥

-- a call on a key, a clear or a copy is answered so
abbrev pub FitsCall : Call → Reply → Type 0
FitsCall (Get h k) answer = TellsValue answer
FitsCall (Put h k v) answer = TellsValue answer
FitsCall (PutIfAbsent h k v) answer = TellsValue answer
FitsCall (Replace h k v) answer = TellsValue answer
FitsCall (ReplaceIf h k a b) answer = TellsTruth answer
FitsCall (Remove h k) answer = TellsValue answer
FitsCall (RemoveIf h k v) answer = TellsTruth answer
FitsCall (Clear h) answer = answer ≡ reply.Cleared
FitsCall (Snapshot h) answer = TellsHandle answer
FitsCall (Freeze h) answer = TellsHandle answer
FitsCall call answer = ⊥

-- a call may be refused so
abbrev pub FitsError : Call → CallError → Type 0
FitsError call error.NoHandle = Unit {0}
FitsError call error.ReadOnly = needs_writable call ≡ true
FitsError call error.NotReadOnly = needs_read_only call ≡ true
FitsError call error.Crowded = inserts call ≡ true
FitsError call error.Full = (needs_read_only call || is_close call) ≡ false
FitsError call error.Spent = is_close call ≡ false
FitsError call error.HandlesFull = opens_handle call ≡ true
FitsError call error.Busy = is_close call ≡ true
FitsError call error.WornOut = copies call ≡ true
FitsError call error.Memory = needs_read_only call ≡ true

-- The handle of a call.
use Rattle.std.specs.Prelude.{ℕ}
use Rattle.history.specs.declared.calls.Call.{Call}
use Rattle.history.specs.declared.calls.Call.TheVariants.{Get, Put, PutIfAbsent, Replace, ReplaceIf, Remove, RemoveIf, Clear, Snapshot, Freeze, Close, Entries, Count}

-- the handle on whose map a call is made
abbrev pub handle_of : Call → ℕ
handle_of (Get h k) = h
handle_of (Put h k v) = h
handle_of (PutIfAbsent h k v) = h
handle_of (Replace h k v) = h
handle_of (ReplaceIf h k a b) = h
handle_of (Remove h k) = h
handle_of (RemoveIf h k v) = h
handle_of (Clear h) = h
handle_of (Snapshot h) = h
handle_of (Freeze h) = h
handle_of (Close h) = h
handle_of (Entries h) = h
handle_of (Count h) = h

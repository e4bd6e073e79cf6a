-- Whether two calls are the same one.
use Rattle.std.specs.Prelude.{◌==◌, ◌&&◌, Bool, false}
use Rattle.history.specs.declared.calls.Call.{Call}
use Rattle.history.specs.declared.calls.Call.TheVariants.{Get, Put, PutIfAbsent, Replace, ReplaceIf, Remove, RemoveIf, Clear, Snapshot, Freeze, Close, Entries, Count}

abbrev pub are_same : Call → Call → Bool
are_same (Get h k) (Get i l) = (h == i) && (k == l)
are_same (Put h k v) (Put i l w) = (h == i) && (k == l) && (v == w)
are_same (PutIfAbsent h k v) (PutIfAbsent i l w) = (h == i) && (k == l) && (v == w)
are_same (Replace h k v) (Replace i l w) = (h == i) && (k == l) && (v == w)
are_same (ReplaceIf h k v u) (ReplaceIf i l w x) = (h == i) && (k == l) && (v == w) && (u == x)
are_same (Remove h k) (Remove i l) = (h == i) && (k == l)
are_same (RemoveIf h k v) (RemoveIf i l w) = (h == i) && (k == l) && (v == w)
are_same (Clear h) (Clear i) = h == i
are_same (Snapshot h) (Snapshot i) = h == i
are_same (Freeze h) (Freeze i) = h == i
are_same (Close h) (Close i) = h == i
are_same (Entries h) (Entries i) = h == i
are_same (Count h) (Count i) = h == i
are_same a b = false

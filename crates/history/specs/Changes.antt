-- What the calls that change a map do to one map, and to one handle.
use Rattle.std.specs.Prelude.{ℕ, Option, Some, None, option_and_then}
use Rattle.std.specs.FinMap as map
use Rattle.history.specs.declared.calls.Access.{Access}
use Rattle.history.specs.declared.calls.Access.TheVariants.{Writable, ReadOnly}
use Rattle.history.specs.declared.calls.Call.{Call}
use Rattle.history.specs.declared.calls.Call.TheVariants.{Put, PutIfAbsent, Replace, ReplaceIf, Remove, RemoveIf, Clear}
use Rattle.history.specs.declared.replies.Reply.{Reply}
use Rattle.history.specs.declared.replies.Reply.TheVariants as reply
use Rattle.history.specs.Worlds.{KeyMap, HandleState, HandleMap}
use Rattle.history.specs.Effects.{put_in, put_if_absent_in, replace_in, replace_if_in, remove_in, remove_if_in}

-- what a call that changes a map does to it; none for any other call
abbrev pub change_in : (ℕ → ℕ) → Call → KeyMap → Option (Reply × KeyMap)
change_in hash (Put h k v) m = Some (put_in hash m k v)
change_in hash (PutIfAbsent h k v) m = Some (put_if_absent_in hash m k v)
change_in hash (Replace h k v) m = Some (replace_in m k v)
change_in hash (ReplaceIf h k a b) m = Some (replace_if_in m k a b)
change_in hash (Remove h k) m = Some (remove_in m k)
change_in hash (RemoveIf h k v) m = Some (remove_if_in m k v)
change_in hash (Clear h) m = Some (reply.Cleared, map.empty)
change_in hash call m = None

-- the same on a handle, which must be writable
abbrev pub changed_handle : (ℕ → ℕ) → Call → Access → KeyMap → Option (Reply × HandleState)
changed_handle hash call Writable m = option_and_then (λ e. Some (e.0, record { access = Writable; pairs = e.1 })) (change_in hash call m)
changed_handle hash call ReadOnly m = None

-- the same in a world, on the handle with this number
abbrev pub changed_world : (ℕ → ℕ) → Call → HandleMap → ℕ → Option (Reply × HandleMap)
changed_world hash call w h =
    option_and_then (λ s. option_and_then (λ e. Some (e.0, map.insert w h e.1)) (changed_handle hash call s.access s.pairs)) (map.get w h)

-- The reply and what is new where something is done, else no reply and what was there
abbrev pub reply_or_same : {S : Type 0} → S → Option (Reply × S) → Option Reply × S
reply_or_same old None = (None, old)
reply_or_same old (Some e) = (Some e.0, e.1)

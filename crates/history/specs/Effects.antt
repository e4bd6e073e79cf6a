-- The effect of a call: its reply, and the world after it.
use Rattle.std.specs.Prelude.{◌≡◌, ℕ, Bool, not, ◌&&◌, ◌==◌, nat_eq, Option, Some, None, if◌then◌else◌, option_and_then, count_by}
use Rattle.std.specs.Option.{option_eq}
use Rattle.std.specs.FinMap as map
use Rattle.history.specs.declared.calls.Access.{Access}
use Rattle.history.specs.declared.calls.Access.TheVariants.{Writable, ReadOnly}
use Rattle.history.specs.declared.calls.Call.{Call}
use Rattle.history.specs.declared.calls.Call.TheVariants.{Get, Put, PutIfAbsent, Replace, ReplaceIf, Remove, RemoveIf, Clear, Snapshot, Freeze, Close, Entries, Count}
use Rattle.history.specs.declared.replies.Reply.{Reply}
use Rattle.history.specs.declared.replies.Reply.TheVariants as reply
use Rattle.history.specs.Worlds.{KeyMap, HandleMap}

-- how many other keys of the map have the key's hash
abbrev pub others : (ℕ → ℕ) → KeyMap → ℕ → ℕ
others hash m k = count_by (λ q. (hash q == hash k) && not (q == k)) (map.keys m)

-- the key is absent, and 32 other keys have its hash
abbrev pub is_crowded : (ℕ → ℕ) → KeyMap → ℕ → Bool
is_crowded hash m k = not (map.contains_key m k) && (others hash m k == 32)

-- the key has this value
abbrev pub has_value : KeyMap → ℕ → ℕ → Bool
has_value m k v = option_eq nat_eq (map.get m k) (Some v)

-- What calls on one key of a map do: the reply, and the map after it.

-- the value before, and the key has the new one; but where it is crowded nothing changes
abbrev pub put_in : (ℕ → ℕ) → KeyMap → ℕ → ℕ → Reply × KeyMap
put_in hash m k v = if is_crowded hash m k then (reply.Crowded, m) else (reply.Found (map.get m k), map.insert m k v)

-- the value that is there, and nothing changes; or as put
abbrev pub put_if_absent_in : (ℕ → ℕ) → KeyMap → ℕ → ℕ → Reply × KeyMap
put_if_absent_in hash m k v = if map.contains_key m k then (reply.Found (map.get m k), m) else put_in hash m k v

-- the value before, and where there was one the key has the new one
abbrev pub replace_in : KeyMap → ℕ → ℕ → Reply × KeyMap
replace_in m k v = (reply.Found (map.get m k), if map.contains_key m k then map.insert m k v else m)

-- whether the value was a, and then it is b
abbrev pub replace_if_in : KeyMap → ℕ → ℕ → ℕ → Reply × KeyMap
replace_if_in m k a b = (reply.Truth (has_value m k a), if has_value m k a then map.insert m k b else m)

-- the value before, and the key has none
abbrev pub remove_in : KeyMap → ℕ → Reply × KeyMap
remove_in m k = (reply.Found (map.get m k), map.remove m k)

-- whether the value was v, and then the key has none
abbrev pub remove_if_in : KeyMap → ℕ → ℕ → Reply × KeyMap
remove_if_in m k v = (reply.Truth (has_value m k v), if has_value m k v then map.remove m k else m)

-- What calls do in a world.

abbrev pub with_access : Access → Access → KeyMap → Option KeyMap
with_access Writable Writable m = Some m
with_access ReadOnly ReadOnly m = Some m
with_access Writable ReadOnly m = None
with_access ReadOnly Writable m = None

-- the map of a handle that is there
abbrev pub map_of : HandleMap → ℕ → Option KeyMap
map_of w h = option_and_then (λ s. Some s.pairs) (map.get w h)

-- the map of a handle that is there and may be changed
abbrev pub writable_map_of : HandleMap → ℕ → Option KeyMap
writable_map_of w h = option_and_then (λ s. with_access Writable s.access s.pairs) (map.get w h)

-- the map of a handle that is there and read-only
abbrev pub read_only_map_of : HandleMap → ℕ → Option KeyMap
read_only_map_of w h = option_and_then (λ s. with_access ReadOnly s.access s.pairs) (map.get w h)

-- the world in which the handle names this map
abbrev pub naming : HandleMap → ℕ → Access → KeyMap → HandleMap
naming w h access m = map.insert w h (record { access = access; pairs = m })

-- a change of the map of a writable handle
abbrev pub changing : HandleMap → ℕ → (KeyMap → Reply × KeyMap) → Option (Reply × HandleMap)
changing w h change = option_and_then (λ m. Some ((change m).0, naming w h Writable (change m).1)) (writable_map_of w h)

-- a copy of the map of a writable handle, under a number that isn't there
abbrev pub copying : HandleMap → ℕ → Option ℕ → Access → Option (Reply × HandleMap)
copying w h opens access =
    option_and_then (λ m. option_and_then (λ n. if map.contains_key w n then None else Some (reply.Opened n, naming w n access m)) opens) (writable_map_of w h)

-- A call's reply and the world after it; none where the call has no effect in this world. What isn't named stays.
abbrev pub effect : (ℕ → ℕ) → HandleMap → Call → Option ℕ → Option (Reply × HandleMap)
effect hash w (Get h k) opens = option_and_then (λ m. Some (reply.Found (map.get m k), w)) (map_of w h)
effect hash w (Put h k v) opens = changing w h (λ m. put_in hash m k v)
effect hash w (PutIfAbsent h k v) opens = changing w h (λ m. put_if_absent_in hash m k v)
effect hash w (Replace h k v) opens = changing w h (λ m. replace_in m k v)
effect hash w (ReplaceIf h k a b) opens = changing w h (λ m. replace_if_in m k a b)
effect hash w (Remove h k) opens = changing w h (λ m. remove_in m k)
effect hash w (RemoveIf h k v) opens = changing w h (λ m. remove_if_in m k v)
effect hash w (Clear h) opens = changing w h (λ m. (reply.Cleared, map.empty))
effect hash w (Snapshot h) opens = copying w h opens Writable
effect hash w (Freeze h) opens = copying w h opens ReadOnly
effect hash w (Close h) opens = option_and_then (λ m. Some (reply.Closed, map.remove w h)) (map_of w h)
effect hash w (Entries h) opens = option_and_then (λ m. Some (reply.Pairs (map.entries m), w)) (read_only_map_of w h)
effect hash w (Count h) opens = option_and_then (λ m. Some (reply.Count (map.len m), w)) (read_only_map_of w h)

-- the call may be answered so in this world, and leads to the next
abbrev pub Effect : (ℕ → ℕ) → HandleMap → Call → Option ℕ → Reply → HandleMap → Type 0
Effect hash w call opens answer next = effect hash w call opens ≡ Some (answer, next)

-- the reply and the world where the call has an effect, else no reply and the same world
abbrev pub answer_in : HandleMap → Option (Reply × HandleMap) → Option Reply × HandleMap
answer_in w None = (None, w)
answer_in w (Some e) = (Some e.0, e.1)

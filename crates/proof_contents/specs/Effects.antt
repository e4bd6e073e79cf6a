-- What a call does to the map of one handle.
use Rattle.std.specs.Prelude.{◌≡◌, ◌≢◌, ℕ, Option, Some, None}
use Rattle.std.specs.FinMap as map
use Rattle.proof_contents.specs.Vocabulary.{Access, Writable, ReadOnly, Call, Get, Put, PutIfAbsent, Replace, ReplaceIf, Remove, RemoveIf, Entries, Count, Reply, KeyMap, change_in}
use Rattle.proof_contents.specs.Beneath.history.specs.declared.replies.Reply.TheVariants as reply

-- what a call does to the map of a handle of this kind: its reply, and the map after it
abbrev pub act_in : (ℕ → ℕ) → Access → Call → KeyMap → Option (Reply × KeyMap)
act_in hash access (Get h k) m = Some (reply.Found (map.get m k), m)
act_in hash ReadOnly (Entries h) m = Some (reply.Pairs (map.entries m), m)
act_in hash ReadOnly (Count h) m = Some (reply.Count (map.len m), m)
act_in hash ReadOnly call m = None
act_in hash Writable call m = change_in hash call m

-- the call is on one key
abbrev pub IsKeyed : Call → Type 0
IsKeyed (Get h k) = Unit {0}
IsKeyed (Put h k v) = Unit {0}
IsKeyed (PutIfAbsent h k v) = Unit {0}
IsKeyed (Replace h k v) = Unit {0}
IsKeyed (ReplaceIf h k a b) = Unit {0}
IsKeyed (Remove h k) = Unit {0}
IsKeyed (RemoveIf h k v) = Unit {0}
IsKeyed call = ⊥

-- A map before and after, which differ at one key at most.
pub record ChangesKey (m next : KeyMap) (key : ℕ) (former now : Option ℕ) : Type 0 where
  pub had : map.get m key ≡ former
  pub has : map.get next key ≡ now
  pub stay : (q : ℕ) → q ≢ key → map.get next q ≡ map.get m q

-- What calls on one key of a handle come to, as on a map of that key alone.
use Rattle.std.specs.Prelude.{◌≡◌, ◌⊎◌, ℕ, ◌==◌, ◌&&◌, nat_eq, Bool, true, false, not, is_some, List, [], ◌∷◌, filter, Option, Some, None, if◌then◌else◌, option_and_then}
use Rattle.std.specs.FinMap as map
use Rattle.std.specs.Option.{option_eq}
use Rattle.history.specs.declared.calls.Call.{Call}
use Rattle.history.specs.declared.calls.Call.TheVariants.{Get, Put, PutIfAbsent, Replace, ReplaceIf, Remove, RemoveIf, Clear, Snapshot, Freeze, Close, Entries, Count}
use Rattle.history.specs.declared.events.Event.{Event}
use Rattle.history.specs.declared.replies.Reply.{Reply}
use Rattle.history.specs.declared.replies.Reply.TheVariants as reply
use Rattle.history.specs.Effects.{map_of}
use Rattle.history.specs.Histories.{Operation, BeginsAt}
use Rattle.history.specs.Orders.{Explains}
use Rattle.history.specs.Worlds.{HandleMap}
use Rattle.lock_free.specs.Answers.{Answer, talk_of}

-- what the key has in the handle's map
abbrev pub value_in : HandleMap → ℕ → ℕ → Option ℕ
value_in w handle key = option_and_then (λ m. map.get m key) (map_of w handle)

abbrev pub is_number : ℕ → Option ℕ → Bool
is_number handle None = false
is_number handle (Some n) = n == handle

-- the call is one on this key of the handle, or it empties the handle's map, takes the handle away or opens it
abbrev pub touches : ℕ → ℕ → Call → Option ℕ → Bool
touches handle key (Get h k) opens = (h == handle) && (k == key)
touches handle key (Put h k v) opens = (h == handle) && (k == key)
touches handle key (PutIfAbsent h k v) opens = (h == handle) && (k == key)
touches handle key (Replace h k v) opens = (h == handle) && (k == key)
touches handle key (ReplaceIf h k a b) opens = (h == handle) && (k == key)
touches handle key (Remove h k) opens = (h == handle) && (k == key)
touches handle key (RemoveIf h k v) opens = (h == handle) && (k == key)
touches handle key (Clear h) opens = h == handle
touches handle key (Close h) opens = h == handle
touches handle key (Snapshot h) opens = is_number handle opens
touches handle key (Freeze h) opens = is_number handle opens
touches handle key (Entries h) opens = false
touches handle key (Count h) opens = false

-- What a call on a key that has this value, or none, is answered, and what the key has then.
abbrev pub key_effect : Call → Option ℕ → Reply × Option ℕ
key_effect (Get h k) x = (reply.Found x, x)
key_effect (Put h k v) x = (reply.Found x, Some v)
key_effect (PutIfAbsent h k v) x = (reply.Found x, if is_some x then x else Some v)
key_effect (Replace h k v) x = (reply.Found x, if is_some x then Some v else x)
key_effect (ReplaceIf h k a b) x = (reply.Truth (option_eq nat_eq x (Some a)), if option_eq nat_eq x (Some a) then Some b else x)
key_effect (Remove h k) x = (reply.Found x, None)
key_effect (RemoveIf h k v) x = (reply.Truth (option_eq nat_eq x (Some v)), if option_eq nat_eq x (Some v) then None else x)
key_effect call x = (reply.NoSlots, x)

abbrev pub may_add : Call → Bool
may_add (Put h k v) = true
may_add (PutIfAbsent h k v) = true
may_add call = false

-- Or the call would add the key, and other keys crowd it: then nothing changes.
abbrev pub KeyAnswers : Call → Option ℕ → Reply → Option ℕ → Type 0
KeyAnswers call x answer next = ((answer, next) ≡ key_effect call x) ⊎ ((may_add call ≡ true) × (x ≡ None) × (answer ≡ reply.Crowded) × (next ≡ None))

-- A map that is emptied, or a handle that is taken away, has no value; a copy has what the copied map had.
abbrev pub KeyStep : Call → Option ℕ → Reply → Option ℕ → Type 0
KeyStep (Clear h) x answer next = next ≡ None
KeyStep (Close h) x answer next = next ≡ None
KeyStep (Snapshot h) x answer next = Unit {0}
KeyStep (Freeze h) x answer next = Unit {0}
KeyStep call x answer next = KeyAnswers call x answer next

-- the answers lead from the one value to the other
abbrev pub KeyReplays : List Answer → Option ℕ → Option ℕ → Type 0
KeyReplays [] x last = last ≡ x
KeyReplays (a ∷ more) x last = (next : Option ℕ) × KeyStep a.of.call x a.reply next × KeyReplays more next last

-- ---- a key that one actor has for itself

abbrev pub is_refused : Reply → Bool
is_refused reply.NoSlots = true
is_refused answer = false

-- the answer is one to a call on the key, which was done
abbrev pub is_on : ℕ → ℕ → Answer → Bool
is_on handle key a = touches handle key a.of.call a.of.opens && not (is_refused a.reply)

-- of all operations in the history those that touch the key are the actor's
abbrev pub HasToItself : List Event → ℕ → ℕ → ℕ → Type 0
HasToItself history actor handle key =
    (place id : ℕ) (operation : Operation) → BeginsAt history place id operation → touches handle key operation.call operation.opens ≡ true → operation.actor ≡ actor

-- A law for clients: where nobody else ever calls on a key of a handle, an actor's calls on it are answered one after the other as on a map of this key alone.
abbrev pub OwnKeysAreAnswered : Type 0
OwnKeysAreAnswered =
    (hash : ℕ → ℕ) (history : List Event) (order : List ℕ) (world : HandleMap) → Explains hash history order world → (actor handle key : ℕ) → HasToItself history actor handle key →
    (last : Option ℕ) × KeyReplays (filter (is_on handle key) (talk_of actor history).answers) None last

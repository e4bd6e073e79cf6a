-- The texts of calls, replies, events and orders: words, separated by one space.
use Rattle.std.specs.Prelude.{ℕ, List, [], ◌∷◌, ◌++◌, map, true, false, Option, Some, None, codes}
use Rattle.std.specs.List.{flat_map}
use Rattle.std.specs.Fmt.{decimal}
use Rattle.text_lines.specs.Words.{spaced}
use Rattle.history.specs.declared.calls.Call.{Call}
use Rattle.history.specs.declared.calls.Call.TheVariants.{Get, Put, PutIfAbsent, Replace, ReplaceIf, Remove, RemoveIf, Clear, Snapshot, Freeze, Close, Entries, Count}
use Rattle.history.specs.declared.replies.Reply.{Reply}
use Rattle.history.specs.declared.replies.Reply.TheVariants as reply
use Rattle.history.specs.declared.events.Event.{Event}
use Rattle.history.specs.declared.events.Event.TheVariants.{Begin, End}

-- each of these words behind a space
abbrev pub behind_spaces : List (List ℕ) → List ℕ
behind_spaces words = flat_map (λ word. 32 ∷ word) words

abbrev pub call_words : Call → List (List ℕ)
call_words (Get h k) = codes "get" ∷ decimal h ∷ decimal k ∷ []
call_words (Put h k v) = codes "put" ∷ decimal h ∷ decimal k ∷ decimal v ∷ []
call_words (PutIfAbsent h k v) = codes "put-if-absent" ∷ decimal h ∷ decimal k ∷ decimal v ∷ []
call_words (Replace h k v) = codes "replace" ∷ decimal h ∷ decimal k ∷ decimal v ∷ []
call_words (ReplaceIf h k a b) = codes "replace-if" ∷ decimal h ∷ decimal k ∷ decimal a ∷ decimal b ∷ []
call_words (Remove h k) = codes "remove" ∷ decimal h ∷ decimal k ∷ []
call_words (RemoveIf h k v) = codes "remove-if" ∷ decimal h ∷ decimal k ∷ decimal v ∷ []
call_words (Clear h) = codes "clear" ∷ decimal h ∷ []
call_words (Snapshot h) = codes "snapshot" ∷ decimal h ∷ []
call_words (Freeze h) = codes "freeze" ∷ decimal h ∷ []
call_words (Close h) = codes "close" ∷ decimal h ∷ []
call_words (Entries h) = codes "entries" ∷ decimal h ∷ []
call_words (Count h) = codes "count" ∷ decimal h ∷ []

-- a pair of a key and its value
abbrev pub pair_text : ℕ × ℕ → List ℕ
pair_text pair = decimal pair.0 ++ (codes "=" ++ decimal pair.1)

abbrev pub reply_words : Reply → List (List ℕ)
reply_words (reply.Found None) = codes "none" ∷ []
reply_words (reply.Found (Some v)) = codes "some" ∷ decimal v ∷ []
reply_words (reply.Truth true) = codes "true" ∷ []
reply_words (reply.Truth false) = codes "false" ∷ []
reply_words reply.Crowded = codes "crowded" ∷ []
reply_words (reply.Opened h) = codes "handle" ∷ decimal h ∷ []
reply_words reply.Closed = codes "closed" ∷ []
reply_words reply.Cleared = codes "cleared" ∷ []
reply_words (reply.Pairs pairs) = codes "pairs" ∷ map pair_text pairs
reply_words (reply.Count n) = codes "count" ∷ decimal n ∷ []
reply_words reply.NoSlots = codes "no-slots" ∷ []

-- the handle that a snapshot or a freeze opens
abbrev pub opens_words : Option ℕ → List (List ℕ)
opens_words None = []
opens_words (Some h) = codes "as" ∷ decimal h ∷ []

abbrev pub event_words : Event → List (List ℕ)
event_words (Begin id actor call opens) = codes "begin" ∷ decimal id ∷ decimal actor ∷ (call_words call ++ opens_words opens)
event_words (End id answer) = codes "end" ∷ decimal id ∷ reply_words answer

abbrev pub order_words : List ℕ → List (List ℕ)
order_words ids = codes "order" ∷ map decimal ids

-- Each text is a line without its line feed.

abbrev pub call_text : Call → List ℕ
call_text call = spaced (call_words call)

abbrev pub reply_text : Reply → List ℕ
reply_text answer = spaced (reply_words answer)

abbrev pub event_text : Event → List ℕ
event_text event = spaced (event_words event)

abbrev pub order_text : List ℕ → List ℕ
order_text ids = spaced (order_words ids)

-- How a history is spelled, apart from how it is read.
use Rattle.std.specs.Prelude.{◌≡◌, ℕ, ◌≤◌, List, [], ◌∷◌, IfSome, ◌⊎◌, codes}
use Rattle.std.specs.List.{AllByRecursion}
use Rattle.ctrie_base.specs.Hashes.{name_of}
use Rattle.history.specs.declared.calls.Call.{Call}
use Rattle.history.specs.declared.calls.Call.TheVariants.{Get, Put, PutIfAbsent, Replace, ReplaceIf, Remove, RemoveIf, Clear, Snapshot, Freeze, Close, Entries, Count}
use Rattle.history.specs.declared.replies.Reply.{Reply}
use Rattle.history.specs.declared.replies.Reply.TheVariants as reply
use Rattle.history.specs.declared.events.Event.{Event}
use Rattle.history.specs.declared.events.Event.TheVariants.{Begin, End}
use Rattle.history.specs.Histories.{IsWellFormed}
use Rattle.text_lines.specs.Words.{spaced, words_of, largest}
use Rattle.history_text.specs.Texts.{event_text, order_text}
use Rattle.text_lines.specs.Texts.{said_lines, HasLines}
use Rattle.history_text.specs.Reading.{Reading, history_format}

-- Numbers in their ranges: each has a spelling.

abbrev pub IsHandle : ℕ → Type 0
IsHandle h = h ≤ 65535

abbrev pub IsNumber : ℕ → Type 0
IsNumber n = n ≤ largest

abbrev pub CallFits : Call → Type 0
CallFits (Get h k) = IsHandle h × IsNumber k
CallFits (Put h k v) = IsHandle h × IsNumber k × IsNumber v
CallFits (PutIfAbsent h k v) = IsHandle h × IsNumber k × IsNumber v
CallFits (Replace h k v) = IsHandle h × IsNumber k × IsNumber v
CallFits (ReplaceIf h k a b) = IsHandle h × IsNumber k × IsNumber a × IsNumber b
CallFits (Remove h k) = IsHandle h × IsNumber k
CallFits (RemoveIf h k v) = IsHandle h × IsNumber k × IsNumber v
CallFits (Clear h) = IsHandle h
CallFits (Snapshot h) = IsHandle h
CallFits (Freeze h) = IsHandle h
CallFits (Close h) = IsHandle h
CallFits (Entries h) = IsHandle h
CallFits (Count h) = IsHandle h

abbrev pub PairFits : ℕ × ℕ → Type 0
PairFits pair = IsNumber pair.0 × IsNumber pair.1

abbrev pub ReplyFits : Reply → Type 0
ReplyFits (reply.Found v) = IfSome v IsNumber
ReplyFits (reply.Truth b) = Unit {0}
ReplyFits reply.Crowded = Unit {0}
ReplyFits (reply.Opened h) = IsHandle h
ReplyFits reply.Closed = Unit {0}
ReplyFits reply.Cleared = Unit {0}
ReplyFits (reply.Pairs pairs) = AllByRecursion PairFits pairs
ReplyFits (reply.Count n) = IsNumber n
ReplyFits reply.NoSlots = Unit {0}

abbrev pub EventFits : Event → Type 0
EventFits (Begin id actor call opens) = IsNumber id × (actor ≤ 255) × CallFits call × IfSome opens IsHandle
EventFits (End id answer) = IsNumber id × ReplyFits answer

-- the line's first word is this
abbrev pub BeginsWith : List ℕ → List ℕ → Type 0
BeginsWith word line = (more : List (List ℕ)) × (words_of line ≡ word ∷ more)

-- behind the order stands at most one line `slots ..`
abbrev pub AreLast : List (List ℕ) → Type 0
AreLast [] = Unit {0}
AreLast (line ∷ []) = BeginsWith (codes "slots") line
AreLast (line ∷ other ∷ more) = ⊥

-- The lines after the header: lines `denied ..`, a line for each event in order, the order's line, and at
-- most one line `slots ..`.
abbrev pub SpellEvents : List (List ℕ) → List Event → List ℕ → Type 0
SpellEvents [] events order = ⊥
SpellEvents (line ∷ more) events order =
    (BeginsWith (codes "denied") line × SpellEvents more events order)
    ⊎ ((event : Event) × (rest : List Event) × (events ≡ event ∷ rest) × (line ≡ event_text event) × EventFits event × SpellEvents more rest order)
    ⊎ ((events ≡ []) × (line ≡ order_text order) × AllByRecursion IsNumber order × AreLast more)

-- these lines, of which none is ignored, spell the history
abbrev pub Spell : List (List ℕ) → Reading → Type 0
Spell [] read = ⊥
Spell (header ∷ more) read = (header ≡ spaced (codes "hash" ∷ name_of read.hash ∷ [])) × SpellEvents more read.events read.order

-- the text's lines that aren't ignored spell the history, which is well formed
abbrev pub IsSpelling : List ℕ → Reading → Type 0
IsSpelling text read = Spell (said_lines text) read × IsWellFormed read.events

abbrev pub IsShort : List ℕ → Type 0
IsShort text = HasLines history_format.most_lines text

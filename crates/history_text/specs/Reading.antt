-- Reading a history from its lines: what each says after those before it, and the first fault.
use Rattle.std.specs.Prelude.{ℕ, ◌++◌, List, [], ◌∷◌, Option, Some, Result, Ok, Err}
use Rattle.ctrie_base.specs.declared.refusals.Refusal.{Refusal}
use Rattle.ctrie_base.specs.declared.refusals.Refusal.TheVariants.{BadLine, BadHeader, BadOrder}
use Rattle.ctrie_base.specs.declared.hashes.HashKind.{HashKind}
use Rattle.history.specs.declared.events.Event.{Event}
use Rattle.history_text.specs.declared.names.LineName.{LineName}
use Rattle.history_text.specs.declared.names.LineName.TheVariants as line
use Rattle.text_lines.specs.Words.{made}
use Rattle.text_lines.specs.Reading.{LineFault, Format, text_of}
use Rattle.history_text.specs.Names.{line_named}
use Rattle.history_text.specs.Lines.{order_of, header_of}
use Rattle.history_text.specs.Running.{begin_of, end_of}

-- a history and its order, as they are read
pub record Reading : Type 0 where
  pub hash : HashKind
  pub events : List Event
  pub order : List ℕ

-- what the lines so far have said
pub data Progress : Type 0 where
  Start : Progress
  InEvents : HashKind → List Event → Progress
  Ordered : Reading → Progress
  Ended : Reading → Progress

-- a line after the header and before the order: what its first word names, and the words behind it
abbrev pub named_line : HashKind → List Event → Option LineName → List (List ℕ) → Result Progress Refusal
named_line hash events (Some line.Begin) words = made (λ event. InEvents hash (events ++ event ∷ [])) (begin_of events words)
named_line hash events (Some line.End) words = made (λ event. InEvents hash (events ++ event ∷ [])) (end_of events words)
named_line hash events (Some line.Denied) words = Ok (InEvents hash events)
named_line hash events (Some line.Order) words = made (λ order. Ordered (record { hash = hash; events = events; order = order })) (order_of words)
named_line hash events other words = Err BadLine

-- behind the order stands at most one line `slots ..`
abbrev pub last_line : Reading → Option LineName → Result Progress Refusal
last_line read (Some line.Slots) = Ok (Ended read)
last_line read other = Err BadOrder

-- what the words of a line that isn't ignored say after what was read before
unfoldable pub words_after : Progress → List (List ℕ) → Result Progress Refusal
words_after Start words = made (λ hash. InEvents hash []) (header_of words)
words_after (InEvents hash events) [] = Err BadLine
words_after (InEvents hash events) (word ∷ words) = named_line hash events (line_named word) words
words_after (Ordered read) [] = Err BadOrder
words_after (Ordered read) (word ∷ words) = last_line read (line_named word)
words_after (Ended read) words = Err BadOrder

-- a missing line is told at the line after the last
abbrev pub all_read : Progress → Result Reading Refusal
all_read Start = Err BadHeader
all_read (InEvents hash events) = Err BadOrder
all_read (Ordered read) = Ok read
all_read (Ended read) = Ok read

-- how histories are read, of at most 300,000 lines
abbrev pub history_format : Format Progress Reading
history_format = record { most_lines = 300000; start = Start; words_after = words_after; all_read = all_read }

-- the history that a text says, or the first line with a fault
unfoldable pub history_of : List ℕ → Result Reading LineFault
history_of text = text_of history_format text

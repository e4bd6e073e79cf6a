-- What a report says: a history, and an order that is legal for it.
use Rattle.std.specs.Prelude.{ℕ, true, List, Option}
use Rattle.std.specs.Io.KnownBytes.{Appends}
use Rattle.script_commands.specs.Vocabulary.{hash_of, HashKind, IsLegal, Record, order_of}
use Rattle.history_text.specs.Reading.{Reading}
use Rattle.history_text.specs.Grammar.{IsSpelling}
use Rattle.history_commands.specs.Verdicts.{IsVerdict}

-- what a machine has to tell: which hash it uses, its history and its order
abbrev pub told_in : HashKind → Record → Reading
told_in hash past = record { hash = hash; events = past.events; order = order_of past }

-- the text spells this history and this order, and the order is legal for the history
pub record IsLegalText (text : List ℕ) (told : Reading) : Type 0 where
  pub spelled : IsSpelling text told
  pub legal : IsLegal (hash_of told.hash) told.events told.order

-- known bytes grow by such a text, and a check of it answers true
abbrev pub AppendsJudged : Option (List ℕ) → Option (List ℕ) → Type 0
AppendsJudged old new = (text : List ℕ) × (told : Reading) × IsLegalText text told × IsVerdict text true × Appends old new text

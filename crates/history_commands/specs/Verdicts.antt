-- What a check of a history answers and writes.
use Rattle.std.specs.Prelude.{◌≡◌, ◌↔◌, ℕ, Bool, true, false, List, [], ◌∷◌, ◌++◌, Option, Ok, IsTrue, codes}
use Rattle.ctrie_base.specs.Hashes.{hash_of}
use Rattle.ctrie_base.specs.declared.refusals.Refusal.{Refusal}
use Rattle.history.specs.Orders.{IsLegal}
use Rattle.history_text.specs.Reading.{Reading, history_of}
use Rattle.history_text.specs.Grammar.{IsSpelling, IsShort}
use Rattle.history_commands.specs.Faults.{IsFault, IsOf}
use Rattle.history_commands.specs.declared.faults.Fault.{Fault}
use Rattle.history_commands.specs.declared.faults.Fault.TheVariants.{Line}
use Rattle.history_commands.specs.Written.{AppendsPartOf}

-- the line that tells whether an order is legal
abbrev pub verdict_line : Bool → List ℕ
verdict_line true = codes "legal" ++ 10 ∷ []
verdict_line false = codes "not legal" ++ 10 ∷ []

-- the text spells this history and its order by the grammar, and is read so
abbrev pub SaysHistory : List ℕ → Reading → Type 0
SaysHistory text reading = IsSpelling text reading × (history_of text ≡ Ok reading)

-- the text is a history without a fault, and this says whether its order is legal for its events
abbrev pub IsVerdict : List ℕ → Bool → Type 0
IsVerdict text legal =
    (reading : Reading) × SaysHistory text reading × (IsTrue legal ↔ IsLegal (hash_of reading.hash) reading.events reading.order)

-- the text spells no history by the grammar, unless in too many lines
abbrev pub SpellsNone : List ℕ → Type 0
SpellsNone text = (reading : Reading) → IsSpelling text reading → ¬ IsShort text

-- the text spells no history, unless in too many lines, and its first line with a fault is this one, with this fault
abbrev pub HasLineFault : List ℕ → ℕ → Refusal → Type 0
HasLineFault text number refusal = SpellsNone text × IsFault (history_of text) number refusal

-- the fault is want of memory, or that of the text's line
abbrev pub IsOfHistory : List ℕ → Fault → Type 0
IsOfHistory text (Line number refusal) = HasLineFault text number refusal
IsOfHistory text fault = IsOf (history_of text) fault

-- these bytes are the line that tells the text's verdict
abbrev pub TellsVerdict : List ℕ → List ℕ → Type 0
TellsVerdict text bytes = (legal : Bool) × IsVerdict text legal × (bytes ≡ verdict_line legal)

-- known bytes grow by a beginning of that line
abbrev pub AppendsPart : Option (List ℕ) → Option (List ℕ) → List ℕ → Type 0
AppendsPart old new text = AppendsPartOf (TellsVerdict text) old new

-- What a run of a script answers and writes.
use Rattle.std.specs.Prelude.{◌≡◌, ℕ, true, List, Option, Ok}
use Rattle.script_commands.specs.Vocabulary.{Refusal}
use Rattle.script_text.specs.Reading.{Reading, script_of}
use Rattle.script_text.specs.Grammar.{IsSpelling, IsShort}
use Rattle.script_commands.specs.Endings.{EachLineEnds}
use Rattle.script_commands.specs.Reports.{last_of, report}
use Rattle.history_commands.specs.Verdicts.{IsVerdict}
use Rattle.script_commands.specs.Legality.{told_in, IsLegalText}
use Rattle.history_commands.specs.declared.faults.Fault.{Fault}
use Rattle.history_commands.specs.declared.faults.Fault.TheVariants.{Line}
use Rattle.history_commands.specs.Faults.{IsFault, IsOf}
use Rattle.history_commands.specs.Written.{AppendsSuch, AppendsPartOf}

-- the text spells this script by the grammar, and is read so
abbrev pub SaysScript : List ℕ → Reading → Type 0
SaysScript text script = IsSpelling text script × (script_of text ≡ Ok script)

-- The text is a script without a fault, and these bytes are its report. They spell the history and the order of its run; the order is legal, and a check
-- of the report answers true. Its lines have ended the operations that are sure to end.
pub record IsReport (text bytes : List ℕ) : Type 0 where
  pub script : Reading
  pub says : SaysScript text script
  pub whole : bytes ≡ report script
  pub legal : IsLegalText bytes (told_in script.limits.hash (last_of script).past)
  pub judged : IsVerdict bytes true
  pub ends : EachLineEnds script

-- the text spells no script by the grammar, unless in too many lines
abbrev pub SpellsNoScript : List ℕ → Type 0
SpellsNoScript text = (script : Reading) → IsSpelling text script → ¬ IsShort text

-- the text spells no script, unless in too many lines, and its first line with a fault is this one, with this fault
abbrev pub HasScriptFault : List ℕ → ℕ → Refusal → Type 0
HasScriptFault text number refusal = SpellsNoScript text × IsFault (script_of text) number refusal

-- the fault is want of memory, or that of the text's line
abbrev pub IsOfScript : List ℕ → Fault → Type 0
IsOfScript text (Line number refusal) = HasScriptFault text number refusal
IsOfScript text fault = IsOf (script_of text) fault

-- known bytes grow by the text's report, and by a beginning of it
abbrev pub AppendsReport : Option (List ℕ) → Option (List ℕ) → List ℕ → Type 0
AppendsReport old new text = AppendsSuch (IsReport text) old new

abbrev pub AppendsReportPart : Option (List ℕ) → Option (List ℕ) → List ℕ → Type 0
AppendsReportPart old new text = AppendsPartOf (IsReport text) old new

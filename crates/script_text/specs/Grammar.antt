-- How a script is spelled, apart from how it is read.
use Rattle.std.specs.Prelude.{◌≡◌, ℕ, ◌≤◌, ◌++◌, List, [], ◌∷◌, map, codes}
use Rattle.std.specs.List.{AllByRecursion}
use Rattle.std.specs.Fmt.{decimal}
use Rattle.ctrie_base.specs.declared.kinds.Kind.{Kind}
use Rattle.ctrie_base.specs.declared.kinds.Kind.TheVariants as kind
use Rattle.ctrie_base.specs.Kinds as kinds
use Rattle.ctrie_base.specs.Hashes as hashes
use Rattle.text_lines.specs.Words.{spaced}
use Rattle.text_lines.specs.Texts.{said_lines, HasLines}
use Rattle.history_text.specs.Texts.{call_words}
use Rattle.history_text.specs.Grammar.{CallFits}
use Rattle.machine_model.specs.declared.steps.Limits.{Limits}
use Rattle.machine_model.specs.Limits.{AreLimits}
use Rattle.script_text.specs.declared.commands.Command.{Command}
use Rattle.script_text.specs.declared.commands.Command.TheVariants.{Begin, Go, Until, Finish, Do, Sweep}
use Rattle.script_text.specs.Reading.{Reading, script_format}

-- The words of a command. Its call is that of a history, but a snapshot and a freeze name no handle to open.
abbrev pub command_words : Command → List (List ℕ)
command_words (Begin actor call) = codes "actor" ∷ decimal actor ∷ call_words call
command_words (Go actor times) = codes "go" ∷ decimal actor ∷ decimal times ∷ []
command_words (Until actor k) = codes "until" ∷ decimal actor ∷ kinds.name_of k ∷ []
command_words (Finish actor) = codes "finish" ∷ decimal actor ∷ []
command_words (Do actor call) = codes "do" ∷ decimal actor ∷ call_words call
command_words (Sweep times) = codes "sweep" ∷ decimal times ∷ []

-- the words of the three lines of the header
abbrev pub header_words : Limits → List (List (List ℕ))
header_words limits =
    (codes "slots" ∷ decimal limits.slots ∷ []) ∷ (codes "hash" ∷ hashes.name_of limits.hash ∷ []) ∷ (codes "actors" ∷ decimal limits.actors ∷ []) ∷ []

-- the lines of a script: the header, and a line for each command
abbrev pub script_lines : Reading → List (List ℕ)
script_lines script = map spaced (header_words script.limits ++ map command_words script.lines)

-- Numbers in their ranges, and kinds of an operation's steps: each has a spelling.

abbrev pub IsActor : ℕ → Type 0
IsActor actor = actor ≤ 255

abbrev pub IsTimes : ℕ → Type 0
IsTimes times = (1 ≤ times) × (times ≤ 1000000)

-- a kind of the steps behind a begin, up to the end
abbrev pub IsOfOperation : Kind → Type 0
IsOfOperation kind.Begin = ⊥
IsOfOperation kind.ScanPin = ⊥
IsOfOperation kind.Advance = ⊥
IsOfOperation kind.FreeOne = ⊥
IsOfOperation other = Unit {0}

abbrev pub CommandFits : Command → Type 0
CommandFits (Begin actor call) = IsActor actor × CallFits call
CommandFits (Go actor times) = IsActor actor × IsTimes times
CommandFits (Until actor k) = IsActor actor × IsOfOperation k
CommandFits (Finish actor) = IsActor actor
CommandFits (Do actor call) = IsActor actor × CallFits call
CommandFits (Sweep times) = IsTimes times

-- the text's lines that aren't ignored are those of the script, all of it in range
abbrev pub IsSpelling : List ℕ → Reading → Type 0
IsSpelling text script = (said_lines text ≡ script_lines script) × AreLimits script.limits × AllByRecursion CommandFits script.lines

abbrev pub IsShort : List ℕ → Type 0
IsShort text = HasLines script_format.most_lines text

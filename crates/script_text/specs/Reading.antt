-- Scripts of commands.
use Rattle.std.specs.Prelude.{ℕ, List, Result}
use Rattle.text_lines.specs.Reading.{LineFault, Format, text_of}
use Rattle.script_text.specs.declared.commands.Command.{Command}
use Rattle.script_text.specs.Headers.{actors_of}
use Rattle.script_text.specs.Commands.{command_of}
use Rattle.script_text.specs.Scripts.{Dialect, ScriptOf, Progress, format_of}

-- a script, as it is read
abbrev pub Reading : Type 0
Reading = ScriptOf Command

-- each line is a command, whichever actor it names
abbrev pub command_dialect : Dialect Command
command_dialect = record { actors_of = actors_of; line_of = λ actors words. command_of words }

abbrev pub script_format : Format (Progress Command) Reading
script_format = format_of command_dialect

-- the script that a text says, or the first line with a fault
unfoldable pub script_of : List ℕ → Result Reading LineFault
script_of text = text_of script_format text

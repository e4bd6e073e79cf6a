-- Scripts for threads among all scripts.
use Rattle.std.specs.Prelude.{◌≤◌, ℕ, List, map}
use Rattle.std.specs.List.{AllByRecursion}
use Rattle.script_text.specs.declared.commands.Command.{Command}
use Rattle.script_text.specs.declared.commands.Command.TheVariants as command
use Rattle.script_text.specs.Reading as script
use Rattle.script_text.specs.Grammar.{IsSpelling}
use Rattle.script_text.specs.declared.thread_lines.ThreadLine.{ThreadLine}
use Rattle.script_text.specs.declared.thread_lines.ThreadLine.TheVariants.{Do, Sweep}
use Rattle.script_text.specs.Threads.Reading.{Reading}

-- the command that the line is
abbrev pub command_from : ThreadLine → Command
command_from (Do actor call) = command.Do actor call
command_from (Sweep times) = command.Sweep times

-- the script, as any other
abbrev pub as_script : Reading → script.Reading
as_script reading = record { limits = reading.limits; lines = map command_from reading.lines }

-- the actor that a line names is one of so many
abbrev pub LineFits : ℕ → ThreadLine → Type 0
LineFits actors (Do actor call) = (1 ≤ actor) × (actor ≤ actors)
LineFits actors (Sweep times) = Unit {0}

-- one actor more may be had for the sweep, and all others are those that the header says
abbrev pub FitsThreads : Reading → Type 0
FitsThreads reading = (reading.limits.actors ≤ 63) × AllByRecursion (LineFits reading.limits.actors) reading.lines

-- the text's lines that aren't ignored are those of the script, which is one for threads
abbrev pub IsThreadSpelling : List ℕ → Reading → Type 0
IsThreadSpelling text reading = IsSpelling text (as_script reading) × FitsThreads reading

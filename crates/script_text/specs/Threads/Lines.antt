-- What the lines of a script for threads say.
use Rattle.std.specs.Prelude.{ℕ, ◌||◌, ◌==◌, Bool, List, [], ◌∷◌, Result, Ok, Err, codes, nat_lt, if◌then◌else◌}
use Rattle.std.specs.Str.{bytes_eq}
use Rattle.ctrie_base.specs.declared.refusals.Refusal.{Refusal}
use Rattle.ctrie_base.specs.declared.refusals.Refusal.TheVariants.{BadHeader, BadLine, BadNumber}
use Rattle.text_lines.specs.Words.{◌>>=◌}
use Rattle.script_text.specs.Headers.{actors_of}
use Rattle.script_text.specs.Commands.{command_of}
use Rattle.script_text.specs.declared.commands.Command.{Command}
use Rattle.script_text.specs.declared.commands.Command.TheVariants as command
use Rattle.script_text.specs.declared.thread_lines.ThreadLine.{ThreadLine}
use Rattle.script_text.specs.declared.thread_lines.ThreadLine.TheVariants.{Do, Sweep}

-- Of the 64 actors that a machine may have one takes the steps of the sweep.
abbrev pub at_most_63 : ℕ → Result ℕ Refusal
at_most_63 actors = if nat_lt 63 actors then Err BadHeader else Ok actors

abbrev pub thread_actors_of : List (List ℕ) → Result ℕ Refusal
thread_actors_of words = actors_of words >>= at_most_63

-- the words with which lines for threads begin
abbrev pub is_for_threads : List ℕ → Bool
is_for_threads name = bytes_eq name (codes "do") || bytes_eq name (codes "sweep")

-- the command, if it is one for so many threads
abbrev pub thread_line_from : ℕ → Command → Result ThreadLine Refusal
thread_line_from actors (command.Do actor call) = if (actor == 0) || nat_lt actors actor then Err BadNumber else Ok (Do actor call)
thread_line_from actors (command.Sweep times) = Ok (Sweep times)
thread_line_from actors other = Err BadLine

-- what the words of a line say to so many threads
unfoldable pub thread_line_of : ℕ → List (List ℕ) → Result ThreadLine Refusal
thread_line_of actors [] = Err BadLine
thread_line_of actors (name ∷ words) = if is_for_threads name then command_of (name ∷ words) >>= thread_line_from actors else Err BadLine

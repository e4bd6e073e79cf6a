-- Scripts for threads.
use Rattle.std.specs.Prelude.{ℕ, List, Result}
use Rattle.text_lines.specs.Reading.{LineFault, Format, text_of}
use Rattle.script_text.specs.declared.thread_lines.ThreadLine.{ThreadLine}
use Rattle.script_text.specs.Scripts.{Dialect, ScriptOf, Progress, format_of}
use Rattle.script_text.specs.Threads.Lines.{thread_actors_of, thread_line_of}

-- a script for threads, as it is read
abbrev pub Reading : Type 0
Reading = ScriptOf ThreadLine

-- each line is one for threads, of an actor that the header says
abbrev pub thread_dialect : Dialect ThreadLine
thread_dialect = record { actors_of = thread_actors_of; line_of = thread_line_of }

abbrev pub thread_format : Format (Progress ThreadLine) Reading
thread_format = format_of thread_dialect

-- the script for threads that a text says, or the first line with a fault
unfoldable pub thread_script_of : List ℕ → Result Reading LineFault
thread_script_of text = text_of thread_format text

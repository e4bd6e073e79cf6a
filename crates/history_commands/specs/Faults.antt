-- Faults: the exit status of each, and those that come from a text, a reader or a writer.
use Rattle.std.specs.Prelude.{◌≡◌, ℕ, Result, Err}
use Rattle.ctrie_base.specs.declared.refusals.Refusal.{Refusal}
use Rattle.text_lines.specs.Reading.{LineFault}
use Rattle.text_lines.specs.declared.faults.Told.{Told}
use Rattle.text_lines.specs.declared.faults.Told.TheVariants as told
use Rattle.counted_io.specs.declared.failures.Failure.{Failure}
use Rattle.counted_io.specs.declared.failures.Failure.TheVariants as failed
use Rattle.history_commands.specs.declared.faults.Fault.{Fault}
use Rattle.history_commands.specs.declared.faults.Fault.TheVariants.{Line, Read, Write, Memory, Usage}

-- the exit status
abbrev pub status_of : Fault → ℕ
status_of (Line number refusal) = 1
status_of Read = 2
status_of Write = 2
status_of Memory = 2
status_of Usage = 1

-- the fault that a failed reader or writer is
abbrev pub of_failure : Failure → Fault
of_failure failed.Read = Read
of_failure failed.Write = Write
of_failure failed.Memory = Memory

-- the fault of a text that wasn't read
abbrev pub of_text : Told → Fault
of_text (told.Line number refusal) = Line number refusal
of_text told.Memory = Memory

-- the first line with a fault is this one, with this fault
abbrev pub IsFault : {A : Type 0} → Result A LineFault → ℕ → Refusal → Type 0
IsFault read number refusal = read ≡ Err (record { line = number; refusal = refusal })

-- the fault is want of memory, or that of what was read
abbrev pub IsOf : {A : Type 0} → Result A LineFault → Fault → Type 0
IsOf read (Line number refusal) = IsFault read number refusal
IsOf read Memory = Unit {0}
IsOf read fault = ⊥

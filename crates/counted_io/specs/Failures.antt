-- Failures of reading.
use Rattle.counted_io.specs.declared.failures.Failure.{Failure}
use Rattle.counted_io.specs.declared.failures.Failure.TheVariants.{Read, Write, Memory}

-- the failure is want of memory, or one of reading, which this fact goes with
abbrev pub IsOfReading : Type 0 → Failure → Type 0
IsOfReading failed Read = failed
IsOfReading failed Write = ⊥
IsOfReading failed Memory = Unit {0}

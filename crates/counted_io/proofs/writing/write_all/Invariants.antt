-- The front of the text was written. Each call took a byte, or one failed.
use Rattle.counted_io.specs.Counts.{inner_of, failures}
use Rattle.counted_io.proofs.Written.{HasWritten}
use Rattle.counted_io.proofs.writing.write_all.Given as goal

abbrev pub invariant-loop : goal.invariant-loop
invariant-loop g l =
    HasWritten (g.W.Write.contents (inner_of l.initial.output)) (g.W.Write.contents (inner_of l.output))
    (failures l.initial.output) (failures l.output) l.text l.counter l.written

-- The text is what was taken from the reader.
use Rattle.std.proofs.Common.{◌≤◌}
use Rattle.std.specs.Io.KnownBytes.{Consumes}
use Rattle.counted_io.specs.Counts.{inner_of, failures}
use Rattle.counted_io.proofs.reading.read_all.Given as goal

abbrev pub invariant-loop : goal.invariant-loop
invariant-loop g l =
    (failures l.initial.input ≤ failures l.input)
    × Consumes (g.R.Read.remaining (inner_of l.initial.input)) (g.R.Read.remaining (inner_of l.input)) l.text.items

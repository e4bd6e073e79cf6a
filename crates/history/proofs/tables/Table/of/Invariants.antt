use Rattle.std.proofs.Common.{take}
use Rattle.history.specs.Tables.{Records}
use Rattle.history.proofs.tables.Table.of.Given as goal

abbrev pub invariant-loop-place : goal.invariant-loop-place
invariant-loop-place l = Records (take l.place l.events) l.table

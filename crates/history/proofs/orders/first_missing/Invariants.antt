use Rattle.std.proofs.Common.{◌≡◌, ◌<◌, ℕ, Some, false, slice_get}
use Rattle.history.specs.declared.tables.Row.{Row}
use Rattle.history.specs.Tables.{recorded}
use Rattle.history.specs.Replays.{IsAnswer}
use Rattle.history.proofs.orders.first_missing.Given as goal

abbrev pub invariant-loop-id : goal.invariant-loop-id
invariant-loop-id l =
    (id : ℕ) (row : Row) → id < l.id → slice_get l.table.rows.items id ≡ Some row → slice_get l.taken id ≡ Some false
    → ¬ IsAnswer (recorded l.events row.end)

use Rattle.std.proofs.Common.{◌≡◌, ℕ, ◌<◌, slice_get, Some}
use Rattle.sharded_gate.proofs.finishing.has_seat.Given as goal

abbrev pub invariant-loop-seat : goal.invariant-loop-seat
invariant-loop-seat g l = (k : ℕ) (s : g.row.S.Denot) → k < l.seat-index → slice_get l.seats k ≡ Some s → (g.S.HoldsShardedSeat.seat s).number ≡ l.number → ⊥

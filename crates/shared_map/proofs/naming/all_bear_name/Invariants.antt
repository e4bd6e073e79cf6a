use Rattle.std.proofs.Common.{ℕ, ◌<◌, slice_index_or}
use Rattle.shared_map.specs.Seats.{IsSeatOf, MapSeat}
use Rattle.shared_map.proofs.naming.all_bear_name.Given as goal

abbrev pub invariant-loop-seat : goal.invariant-loop-seat
invariant-loop-seat g l = (k : ℕ) (d : MapSeat) → k < l.seat-index → IsSeatOf g.N.MapName.map (slice_index_or l.seats k d)

use Rattle.std.proofs.Common.{ℕ, ◌<◌, slice_index_or}
use Rattle.lock_runner.specs.Seats.{Seated, IsTold}
use Rattle.lock_runner.proofs.finishing.all_are_told.Given as goal

abbrev pub invariant-loop-seat : goal.invariant-loop-seat
invariant-loop-seat l = (k : ℕ) (d : Seated) → k < l.seat-index → IsTold (slice_index_or l.seats k d)

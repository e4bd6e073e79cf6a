use Rattle.std.proofs.Common.{◌≡◌, [], ◌++◌}
use Rattle.gate.specs.Views.{crew_view}
use Rattle.gate.proofs.Counting.{parts_of}
use Rattle.sharded_gate.proofs.gates.ShardedGate.gather.Given as goal

abbrev pub invariant-loop-seat : goal.invariant-loop-seat
invariant-loop-seat g l =
    (l.all.me ≡ (crew_view (parts_of g.S.HoldsShardedSeat.seat l.yielded), [])) × (l.all.table_id ≡ l.table.shared.table_id) × (l.fn.seats.items ≡ l.yielded ++ l.seat-iterator.rest.items)

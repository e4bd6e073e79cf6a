-- The seats so far are there, and there is room for those that are left.
use Rattle.std.proofs.Common.{◌≡◌, ◌+◌, ◌≤◌, ◌++◌, length, map, vec_len, vec_capacity}
use Rattle.concurrent_map.specs.Seats.{state_of_seat}
use Rattle.concurrent_map.proofs.maps.ConcurrentMap.finish.Given as goal

abbrev pub invariant-loop-seat : goal.invariant-loop-seat
invariant-loop-seat l = record {
  same : map state_of_seat l.plain.items ≡ l.yielded;
  left : l.fn.seats.items ≡ l.yielded ++ l.seat-iterator.rest.items;
  room : vec_len l.plain + length l.seat-iterator.rest.items ≤ vec_capacity l.plain;
}

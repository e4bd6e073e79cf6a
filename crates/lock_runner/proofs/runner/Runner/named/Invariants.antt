-- The seats so far bear the name, and there is room for those that are left.
use Rattle.std.proofs.Common.{◌≡◌, ◌+◌, ◌≤◌, ◌++◌, length, vec_len, vec_capacity}
use Rattle.lock_runner.proofs.runner.Runner.named.Given as goal

abbrev pub invariant-loop-seat : goal.invariant-loop-seat
invariant-loop-seat g l = record {
  same : l.named.items ≡ l.yielded;
  left : l.fn.seats.items ≡ l.yielded ++ l.seat-iterator.rest.items;
  room : vec_len l.named + length l.seat-iterator.rest.items ≤ vec_capacity l.named;
}

-- The seats so far are there without the name, and there is room for those that are left.
use Rattle.std.proofs.Common.{◌≡◌, ◌+◌, ◌≤◌, ◌++◌, length, vec_len, vec_capacity, All}
use Rattle.lock_free.proofs.naming.NamedWords.finish.Given as goal

abbrev pub invariant-loop-seat : goal.invariant-loop-seat
invariant-loop-seat g l = record {
  same : l.plain.items ≡ l.yielded;
  its : All (λ seat. (seat.table ≡ g.N.MapName.map_id.table) × (seat.view.sizes ≡ g.N.MapName.map_id.sizes)) l.plain.items;
  left : l.fn.seats.items ≡ l.yielded ++ l.seat-iterator.rest.items;
  room : vec_len l.plain + length l.seat-iterator.rest.items ≤ vec_capacity l.plain;
}

-- The seats so far have the last numbers, and the one that is left has the others; it was told nothing.
use Rattle.std.proofs.Common.{◌≡◌, ◌+◌, ◌≤◌, [], vec_len, vec_capacity}
use Rattle.concurrent_map.specs.Seats.{AreNewSeats, answers_of_seat, state_of_seat}
use Rattle.concurrent_map.proofs.maps.seat_all.Given as goal

abbrev pub invariant-loop : goal.invariant-loop
invariant-loop l = record {
  table : l.first.table ≡ l.fn.words.table_id;
  sizes : l.first.view.sizes ≡ l.fn.words.key;
  actor : l.first.view.actor ≡ 1;
  last : l.first.view.last + l.counter ≡ l.fn.seats + 1;
  silent : answers_of_seat (state_of_seat l.first) ≡ [];
  count : vec_len l.made + 1 ≡ l.counter;
  made : AreNewSeats (record { table = l.fn.words.table_id; sizes = l.fn.words.key }) (l.first.view.last + 1) l.made.items (vec_len l.made);
  room : l.fn.seats ≤ vec_capacity l.made;
}

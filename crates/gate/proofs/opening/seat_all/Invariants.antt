-- The seats so far have the first numbers, the crew has the others, and there is room for these.
use Rattle.std.proofs.Common.{◌≡◌, ◌+◌, ◌-◌, ◌≤◌, [], vec_len, vec_capacity}
use Rattle.gate.specs.Rules.{crew}
use Rattle.gate.specs.Views.{crew_view}
use Rattle.gate.specs.Opening.{fresh_seats}
use Rattle.gate.proofs.opening.seat_all.Given as goal

abbrev pub invariant-loop-n : goal.invariant-loop-n
invariant-loop-n g l = record {
  rest : l.crew.me ≡ (crew_view (crew l.fn.terms.first (l.n + 1) (l.fn.terms.seats - l.n)), []);
  table : l.crew.table_id ≡ l.table.shared.table_id;
  seats : l.made.items ≡ fresh_seats l.table.shared.table_id l.fn.terms.first.first 1 l.n;
  room : vec_len l.made + (l.fn.terms.seats - l.n) ≤ vec_capacity l.made;
}

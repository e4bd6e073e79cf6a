-- The seats so far have the first numbers, the crew has the others, and there is room for these.
use Rattle.std.proofs.Common.{◌≡◌, ◌+◌, ◌-◌, ◌≤◌, All, [], vec_len, vec_capacity}
use Rattle.gate.specs.Logs.{fresh}
use Rattle.gate.specs.Rules.{crew}
use Rattle.gate.specs.Views.{crew_view}
use Rattle.gate.specs.Opening.{fresh_seats}
use Rattle.sharded_gate.specs.Opening.{seats_of}
use Rattle.sharded_gate.proofs.opening.seat_all.Given as goal

abbrev pub invariant-loop-n : goal.invariant-loop-n
invariant-loop-n g l = record {
  rest : l.crew.me ≡ (crew_view (crew (fresh l.fn.terms.first) (l.n + 1) (l.fn.terms.seats - l.n)), []);
  table : l.crew.table_id ≡ l.table.shared.table_id;
  seats : seats_of l.made.items ≡ fresh_seats l.table.shared.table_id l.fn.terms.first 1 l.n;
  first : All (λ s. s.shard ≡ 0) l.made.items;
  room : vec_len l.made + (l.fn.terms.seats - l.n) ≤ vec_capacity l.made;
}

use Rattle.std.proofs.Common.{◌≡◌}
use Rattle.std.proofs.lemmas.List.Elements.{All-same}
use Rattle.gate.specs.Seats.{Seated}
use Rattle.gate.proofs.Making.{all_fresh}
use Rattle.gate.proofs.gates.Gate.new.Goals as goal

pub returns-in-Ok-table_of-clause-seats : goal.returns-in-Ok-table_of-clause-seats
returns-in-Ok-table_of-clause-seats g c =
    let Its : Seated g.row.O.Denot g.row.C.Denot g.row.A.Denot → Type 0 = λ seat. seat.gate ≡ c.in-Ok-table_of.table.shared.table_id in
    All-same Its _ _ c.seat_all.ensures (all_fresh _ _ 1 _)

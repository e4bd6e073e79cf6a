use Rattle.std.proofs.Common.{ap}
use Rattle.history.specs.declared.calls.Call.TheVariants.{Snapshot}
use Rattle.concurrent_map.proofs.Told.{told_handle}
use Rattle.concurrent_map.proofs.seats.MapSeat.snapshot.Goals as goal

pub returns-clause-told : goal.returns-clause-told
returns-clause-told g c =
    let laws = c.histories_stay.ensures in
    told_handle _ _ _ _ _ _ _ c.self.view_is (ap (λ h. Snapshot h) c.number.ensures) c.handle_in.ensures
    laws.go_on laws.others laws.denials c.self.invariant c.snapshot.ensures.seat c.snapshot.ensures.told

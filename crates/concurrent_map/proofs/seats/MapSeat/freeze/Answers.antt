use Rattle.std.proofs.Common.{ap}
use Rattle.history.specs.declared.calls.Call.TheVariants.{Freeze}
use Rattle.concurrent_map.proofs.Told.{told_handle}
use Rattle.concurrent_map.proofs.seats.MapSeat.freeze.Goals as goal

pub returns-clause-told : goal.returns-clause-told
returns-clause-told g c =
    let laws = c.histories_stay.ensures in
    told_handle _ _ _ _ _ _ _ c.self.view_is (ap (λ h. Freeze h) c.number.ensures) c.handle_in.ensures
    laws.go_on laws.others laws.denials c.self.invariant c.freeze.ensures.seat c.freeze.ensures.told

use Rattle.std.proofs.Common.{ap}
use Rattle.history.specs.declared.calls.Call.TheVariants.{Get}
use Rattle.concurrent_map.proofs.Told.{told_at_once}
use Rattle.concurrent_map.proofs.seats.MapSeat.glance.Goals as goal

pub returns-clause-told : goal.returns-clause-told
returns-clause-told c =
    let laws = c.histories_stay.ensures in
    told_at_once _ _ _ _ _ _ c.self.view_is (ap (λ h. Get h c.args.key) c.number.ensures)
    laws.go_on laws.others c.self.invariant c.glance.ensures.seat c.glance.ensures.told

use Rattle.concurrent_map.proofs.AccessTold.{access_or_out}
use Rattle.concurrent_map.proofs.seats.MapSeat.access_within.Goals as goal

pub returns-clause-told : goal.returns-clause-told
returns-clause-told c =
    let laws = c.histories_stay.ensures in
    access_or_out laws.go_on laws.others laws.denials _ _ c.self.invariant c.access_within.ensures.seat _ c.self.view_is _ _ c.number.ensures _ c.access_within.ensures.told

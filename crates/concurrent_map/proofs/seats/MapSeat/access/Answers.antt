use Rattle.concurrent_map.proofs.AccessTold.{told_access}
use Rattle.concurrent_map.proofs.seats.MapSeat.access.Goals as goal

pub returns-clause-told : goal.returns-clause-told
returns-clause-told g c =
    let laws = c.histories_stay.ensures in
    told_access laws.go_on laws.others laws.denials _ _ c.self.invariant c.access.ensures.seat _ c.self.view_is _ _ c.number.ensures _ c.access.ensures.told

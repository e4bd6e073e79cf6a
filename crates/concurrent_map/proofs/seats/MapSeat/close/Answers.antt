use Rattle.concurrent_map.proofs.Told.{told_close}
use Rattle.concurrent_map.proofs.seats.MapSeat.close.Goals as goal

pub returns-clause-told : goal.returns-clause-told
returns-clause-told c =
    let laws = c.histories_stay.ensures in
    told_close _ _ _ _ _ _ c.self.view_is c.number.ensures
    laws.go_on laws.others laws.closes c.self.invariant c.close.ensures.seat c.close.ensures.told

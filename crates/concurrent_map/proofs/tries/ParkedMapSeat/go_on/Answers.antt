use Rattle.std.proofs.Common.{subst, sym}
use Rattle.concurrent_map.specs.Tries.{HasTried, IsUnderWay}
use Rattle.concurrent_map.proofs.TriesTold.{tried_on}
use Rattle.concurrent_map.proofs.tries.ParkedMapSeat.go_on.Goals as goal

pub returns-clause-tried : goal.returns-clause-tried
returns-clause-tried c before call tried under =
    let laws = c.histories_stay.ensures in
    let way = subst (IsUnderWay before call) (sym c.self.view_is) under in
    subst (HasTried before call) (sym c.new.ensures)
    (tried_on c.self.inside.seat before call c.go_on.result laws.go_on laws.others laws.denials c.self.invariant c.go_on.ensures.seat way (c.go_on.ensures.tried way.first.view call tried way.parked))

use Rattle.std.proofs.Common.{◌⊎◌, subst, sym}
use Rattle.concurrent_map.specs.Tries.{HasTried, NeverBegan}
use Rattle.concurrent_map.proofs.TriesTold.{tried_told}
use Rattle.concurrent_map.proofs.seats.MapSeat.try_call.Goals as goal

pub returns-clause-tried : goal.returns-clause-tried
returns-clause-tried c =
    let laws = c.histories_stay.ensures in
    subst (λ t. HasTried c.args.self c.args.call t ⊎ NeverBegan c.args.self t) (sym c.new.ensures)
    (tried_told c.self.inside.seat c.args.self c.args.call c.try_call.result c.self.view_is laws.go_on laws.others laws.denials c.self.invariant c.try_call.ensures.seat c.try_call.ensures.tried)

use Rattle.std.proofs.Common.{sym, subst}
use Rattle.shared_map.specs.Calling.{HasHeardOf}
use Rattle.shared_map.specs.Seats.{IsSeatOf, MapRoom}
use Rattle.shared_map.proofs.Seated.{has_heard}
use Rattle.shared_map.proofs.maps.SharedMap.hear.Goals as goal

pub hear-requires : goal.hear-requires
hear-requires g c = (subst (λ (m : MapRoom). IsSeatOf m c.args.seat.now) (sym c.self.view_is) c.requires).gate

pub returns : goal.returns
returns g c =
    let of = subst (λ (m : MapRoom). IsSeatOf m c.args.seat.now) (sym c.self.view_is) c.requires in
    subst (λ (m : MapRoom). HasHeardOf m c.args.seat.now c.args.count c.hear.result c.hear.new.seat) c.self.view_is
    (has_heard (record { hash = c.self.inside.hash; room = c.self.inside.gate }) c.args.seat.now c.hear.new.seat of
    c.args.count c.hear.result c.hear.ensures.heard c.hear.ensures.within c.hear.ensures.its c.hear.ensures.told)

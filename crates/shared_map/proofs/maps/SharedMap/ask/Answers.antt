use Rattle.std.proofs.Common.{sym, subst}
use Rattle.shared_map.specs.Calling.{HasAsked}
use Rattle.shared_map.specs.Seats.{IsSeatOf, MapRoom}
use Rattle.shared_map.proofs.Seated.{has_asked}
use Rattle.shared_map.proofs.maps.SharedMap.ask.Goals as goal

pub call-requires : goal.call-requires
call-requires g c = (subst (λ (m : MapRoom). IsSeatOf m c.args.seat.now) (sym c.self.view_is) c.requires).gate

pub returns : goal.returns
returns g c =
    let of = subst (λ (m : MapRoom). IsSeatOf m c.args.seat.now) (sym c.self.view_is) c.requires in
    subst (λ (m : MapRoom). HasAsked m c.args.seat.now c.args.ask c.call.result c.call.new.seat) c.self.view_is
    (has_asked (record { hash = c.self.inside.hash; room = c.self.inside.gate }) c.args.seat.now c.call.new.seat of
    c.args.ask c.call.result c.call.ensures.called c.call.ensures.about c.call.ensures.within)

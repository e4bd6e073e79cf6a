use Rattle.std.specs.Prelude.{IfSome}
use Rattle.std.proofs.Common.{sym, subst}
use Rattle.shared_map.specs.Calling.{HasAsked}
use Rattle.shared_map.specs.Seats.{IsSeatOf, MapRoom}
use Rattle.shared_map.proofs.Seated.{has_tried}
use Rattle.shared_map.proofs.maps.SharedMap.try_ask.Goals as goal

pub try_call-requires : goal.try_call-requires
try_call-requires c = (subst (λ (m : MapRoom). IsSeatOf m c.args.seat.now) (sym c.self.view_is) c.requires).gate

pub returns-clause-asked : goal.returns-clause-asked
returns-clause-asked c =
    let of = subst (λ (m : MapRoom). IsSeatOf m c.args.seat.now) (sym c.self.view_is) c.requires in
    subst (λ (m : MapRoom). IfSome c.try_call.result (λ told. HasAsked m c.args.seat.now c.args.ask told c.try_call.new.seat)) c.self.view_is
    (has_tried (record { hash = c.self.inside.hash; room = c.self.inside.gate }) c.args.seat.now c.try_call.new.seat of
    c.args.ask c.try_call.result c.try_call.ensures.called c.try_call.ensures.about c.try_call.ensures.within)

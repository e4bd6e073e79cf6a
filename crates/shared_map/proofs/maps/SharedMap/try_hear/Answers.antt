use Rattle.std.specs.Prelude.{IfSome}
use Rattle.std.proofs.Common.{sym, subst}
use Rattle.shared_map.specs.Calling.{HasHeardOf}
use Rattle.shared_map.specs.Seats.{IsSeatOf, MapRoom}
use Rattle.shared_map.proofs.Seated.{has_tried_to_hear}
use Rattle.shared_map.proofs.maps.SharedMap.try_hear.Goals as goal

pub try_hear-requires : goal.try_hear-requires
try_hear-requires c = (subst (λ (m : MapRoom). IsSeatOf m c.args.seat.now) (sym c.self.view_is) c.requires).gate

pub returns-clause-heard : goal.returns-clause-heard
returns-clause-heard c =
    let of = subst (λ (m : MapRoom). IsSeatOf m c.args.seat.now) (sym c.self.view_is) c.requires in
    subst (λ (m : MapRoom). IfSome c.try_hear.result (λ heard. HasHeardOf m c.args.seat.now c.args.count heard c.try_hear.new.seat)) c.self.view_is
    (has_tried_to_hear (record { hash = c.self.inside.hash; room = c.self.inside.gate }) c.args.seat.now c.try_hear.new.seat of
    c.args.count c.try_hear.result c.try_hear.ensures.heard c.try_hear.ensures.within c.try_hear.ensures.its c.try_hear.ensures.told)

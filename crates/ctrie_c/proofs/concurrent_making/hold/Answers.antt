use Rattle.std.proofs.Common.{Some, sym, subst}
use Rattle.std.proofs.lemmas.List.Elements.{All-pop}
use Rattle.concurrent_map.specs.Beneath.lock_free.specs.Naming.{MapId}
use Rattle.concurrent_map.specs.Seats.{AreSeatsOf, IsSeatOf}
use Rattle.ctrie_c.proofs.concurrent_making.hold.Goals as goal

pub invariant_of-new : goal.invariant_of-new
invariant_of-new c =
    let (rest, last) = All-pop (λ seat. IsSeatOf c.args.map seat) c.args.spare.items c.pop.new.self.items (Some c.in-Some.seat) c.in-Some.ensures.items c.requires.seats in (
      subst (λ (m : MapId). IsSeatOf m c.in-Some.seat) (sym c.in-Ok.ensures.ok) last,
      subst (λ (m : MapId). AreSeatsOf m c.pop.new.self.items) (sym c.in-Ok.ensures.ok) rest,
    )

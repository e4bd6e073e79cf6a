use Rattle.std.proofs.Common.{Some}
use Rattle.std.proofs.lemmas.List.Elements.{All-pop}
use Rattle.std.specs.Arc.{arc_value}
use Rattle.concurrent_map.specs.Seats.{IsSeatOf}
use Rattle.ctrie_c.proofs.threading.ThreadingSeat.hand_out.Goals as goal

pub invariant_of-self-in-Ok : goal.invariant_of-self-in-Ok
invariant_of-self-in-Ok c =
    let (rest, last) =
    All-pop (λ seat. IsSeatOf (arc_value c.self.inside.map) seat) c.self.inside.spare.items c.pop.new.self.items (Some c.in-Some.seat) c.in-Some.ensures.items c.self.invariant.1 in
    (c.self.invariant.0, rest)

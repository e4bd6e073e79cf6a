use Rattle.std.proofs.Common.{◌≡◌, ap, ◌∙◌, arith}
use Rattle.std.proofs.lemmas.List.Elements.{All-same}
use Rattle.lock_runner.specs.Seats.{Seated}
use Rattle.lock_runner.proofs.Making.{passes_fresh, seats_fresh, all_fresh}
use Rattle.lock_runner.proofs.runner.Runner.new.Goals as goal

pub seats_of-requires : goal.seats_of-requires
seats_of-requires c =
    passes_fresh _ c.args.limits c.in_ok-machine.machine c.args.seats _ c.in_ok-machine.ensures.made (omega (arith, c.if-seats-limits.false)) c.in-Ok.ensures.made.fresh

pub returns-clause-made : goal.returns-clause-made
returns-clause-made c =
    let made = c.in-Ok.ensures.made in
    record {
      sizes = ap (λ o. o.machine.limits) made.first ∙ ap (λ m. m.limits) c.in_ok-machine.ensures.made;
      number = made.number;
      fresh = seats_fresh _ c.args.limits c.in_ok-machine.machine c.args.seats _ _ c.in_ok-machine.ensures.made made.fresh c.in-Ok-seats_of.ensures;
    }

pub returns-clause-seats : goal.returns-clause-seats
returns-clause-seats c =
    All-same (λ (seat : Seated). seat.runner ≡ c.in-Ok.gate.id) _ _
    (seats_fresh _ c.args.limits c.in_ok-machine.machine c.args.seats _ _ c.in_ok-machine.ensures.made c.in-Ok.ensures.made.fresh c.in-Ok-seats_of.ensures)
    (all_fresh c.in-Ok.gate.id c.args.limits 1 c.args.seats)

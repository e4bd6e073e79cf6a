use Rattle.std.proofs.Common.{rules, refl, sym, ◌∙◌}
use Rattle.std.proofs.lemmas.Option.{slice_get_read}
use Rattle.gate.proofs.Making.{none_so_far, not_here}
use Rattle.sharded_gate.proofs.finishing.has_seat.Goals as goal

pub returns-then-seat_number-number : goal.returns-then-seat_number-number
returns-then-seat_number-number g c =
    let at = slice_get_read c.args.seats.now _ c.loop-seat.seat-index c.seat-item.result refl c.loop-seat-test.true c.seat-item.is in
    ((λ yes. (c.loop-seat.seat-index, c.seat-item.result, at, sym c.seat_number.ensures ∙ c.if-seat_number-number.true)), (λ here. search rules))

pub loop-seat-preserved : goal.loop-seat-preserved
loop-seat-preserved g c =
    let at = slice_get_read c.args.seats.now _ c.loop-seat.seat-index c.seat-item.result refl c.loop-seat-test.true c.seat-item.is in
    none_so_far g.S.HoldsShardedSeat.seat c.args.seats.now c.args.number c.loop-seat.seat-index c.seat-item.result at
    (λ same. c.if-seat_number-number.false (c.seat_number.ensures ∙ same)) c.loop-seat.invariant

pub returns : goal.returns
returns g c = (
  (λ no. absurd (search (rules, no))),
  (λ here. absurd (not_here g.S.HoldsShardedSeat.seat c.args.seats.now c.args.number c.loop-seat.seat-index c.loop-seat-test.false c.loop-seat.invariant here)),
)

use Rattle.std.proofs.Common.{[], rules, ap, ◌∙◌, inr}
use Rattle.gate.proofs.Holds.{came_in, has_slot, may_leave, came_out, is_called}
use Rattle.gate.proofs.gates.Gate.try_call.Goals as goal

pub try_enter-requires-clause-number : goal.try_enter-requires-clause-number
try_enter-requires-clause-number g c = (c.seat.inside.seen, [], ap (λ m. m.0) c.seat.invariant.place)

pub slot_mut-board-requires : goal.slot_mut-board-requires
slot_mut-board-requires g c = (
  c.try_enter.ensures.seat ∙ search rules,
  has_slot c.seat.inside.number c.seat.inside.seen _ (came_in _ _ _ _ c.seat.invariant.place (c.try_enter.ensures.inside (search (rules, c.if-not-try_enter.false)))),
)

pub leave-requires-clause-inside : goal.leave-requires-clause-inside
leave-requires-clause-inside g c =
    may_leave g.O.Object.answers c.seat.inside.number c.seat.inside.seen _ (came_in _ _ _ _ c.seat.invariant.place (c.try_enter.ensures.inside (search (rules, c.if-not-try_enter.false))))
    _ _ c.slot_mut-board.ensures.value (inr (c.args.call, c.call-answer.result, c.call-answer.ensures))

pub returns-clause-called : goal.returns-clause-called
returns-clause-called g c =
    let within = came_in c.seat.inside.number c.seat.inside.seen _ _ c.seat.invariant.place (c.try_enter.ensures.inside (search (rules, c.if-not-try_enter.false))) in
    let out = came_out g.O.Object.answers c.seat.inside.number c.seat.inside.seen _ within _ _ _ c.slot_mut-board.ensures.value c.leave.ensures.left in
    is_called g.O.Object.answers c.seat.inside.number c.seat.inside.seen _ within
    _ _ _ _ _ _ _ _ _ c.seat.view_is (c.leave.ensures.seat ∙ c.try_enter.ensures.seat) out c.call-answer.ensures c.of-seat-inside.ensures

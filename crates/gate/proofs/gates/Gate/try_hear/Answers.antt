use Rattle.std.proofs.Common.{[], rules, refl, ap, ◌∙◌, inl}
use Rattle.gate.proofs.Holds.{came_in, has_slot, may_leave}
use Rattle.gate.proofs.gates.Gate.try_hear.Goals as goal

pub try_enter-requires-clause-number : goal.try_enter-requires-clause-number
try_enter-requires-clause-number g c = (c.seat.inside.seen, [], ap (λ m. m.0) c.seat.invariant.place)

pub slot_mut-board-requires : goal.slot_mut-board-requires
slot_mut-board-requires g c = (
  c.try_enter.ensures.seat ∙ search rules,
  has_slot c.seat.inside.number c.seat.inside.seen _ (came_in _ _ _ _ c.seat.invariant.place (c.try_enter.ensures.inside (search (rules, c.if-not-try_enter.false)))),
)

pub leave-requires-clause-inside : goal.leave-requires-clause-inside
leave-requires-clause-inside g c =
    may_leave g.O.Object.answers c.seat.inside.number c.seat.inside.seen _ (came_in _ _ _ _ c.seat.invariant.place (c.try_enter.ensures.inside (search (rules, c.if-not-try_enter.false))))
    _ _ c.slot_mut-board.ensures.value (inl refl)

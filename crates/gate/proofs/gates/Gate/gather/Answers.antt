use Rattle.std.proofs.Common.{rules, arith, ◌≡◌, [], ◌++◌, ap, sym, subst, ◌∙◌, append-nil}
use Rattle.gate.specs.Seats.{IsSeatOf}
use Rattle.gate.specs.Rules.{first_view, only_slot, same_word}
use Rattle.gate.specs.Finishing.{IsGathered}
use Rattle.gate.proofs.Crews.{sit_allowed}
use Rattle.gate.proofs.Ends.{of_each, next_at, moved_on, none_left, gather_allowed, gathered_one, gathers, alone_in}
use Rattle.gate.proofs.gates.Gate.gather.Goals as goal

pub load_new_seat-all-requires : goal.load_new_seat-all-requires
load_new_seat-all-requires g c = (search rules, sit_allowed g.O.Object.answers only_slot same_word 1 _ _ _ (first_view c.self.inside.table.shared.key.first c.self.inside.table.shared.key.seats, []))

pub loop-seat-init : goal.loop-seat-init
loop-seat-init g c =
    let e = c.load_new_seat-all.ensures in
    (e.2, e.0, sym c.into_iter-seat-iterator.ensures.into_iter_gives.0)

pub join_seat-requires : goal.join_seat-requires
join_seat-requires g c =
    let inv = c.loop-seat.invariant in
    let at = next_at _ _ _ _ c.in-Some.seat inv.2 c.in-Some.ensures.steps.0 in
    let its = of_each (λ s. IsSeatOf c.args.self (g.S.HoldsSeat.seat s)) _ _ _ c.requires.seats at in
    let here = c.into_pass-pass.ensures.table ∙ ap (λ s. s.gate) c.into_seat.ensures ∙ its ∙ ap (λ r. r.id) (sym c.self.view_is) in
    let allowed = gather_allowed g.O.Object.answers only_slot same_word 1 _ _ _ _ _ _ _ _ inv.0 c.into_pass-pass.ensures.view in
    (inv.1, here, ap (λ m. m.1) c.into_pass-pass.ensures.view, omega (arith, c.self.invariant.0), allowed)

pub loop-seat-preserved : goal.loop-seat-preserved
loop-seat-preserved g c =
    let inv = c.loop-seat.invariant in
    let e = c.join_seat.ensures in (
      gathered_one g.S.HoldsSeat.seat _ _ _ _ c.in-Some.seat c.into_seat.result inv.0 c.into_seat.ensures c.into_pass-pass.ensures.view e.2,
      e.0 ∙ inv.1,
      moved_on _ _ _ _ c.in-Some.seat inv.2 c.in-Some.ensures.steps.0,
    )

pub close_with-closed-requires : goal.close_with-closed-requires
close_with-closed-requires g c = c.loop-seat.invariant.1

pub returns : goal.returns
returns g c =
    let inv = c.loop-seat.invariant in
    let none : c.loop-seat.seat-iterator.rest.items ≡ [] = none_left _ _ c.loop-seat.seat-iterator.rest.ok.0 c.in-None.ensures.steps.0 in
    let whole = sym (inv.2 ∙ ap (λ xs. c.loop-seat.yielded ++ xs) none ∙ append-nil _) in
    let v = c.self.view_is in
    let whole_board = gathers g.O.Object.answers only_slot same_word 1 g.S.HoldsSeat.seat c.args.self c.self.inside.table.shared.key.seats
    c.self.inside.table.shared.key.first.first _ c.loop-seat.all.me
    c.args.seats.items c.loop-seat.yielded _ _
    (ap (λ t. t.seats) c.self.invariant.2 ∙ ap (λ r. r.seats) v) (ap (λ t. t.first.first) c.self.invariant.2 ∙ ap (λ r. r.first) v) whole inv.0 c.requires.all
    c.close_with-closed.ensures.values.2 in
    rw c.into_object.ensures
    (subst (λ b. IsGathered g.O.Object.answers g.S.HoldsSeat.seat c.args.self c.args.seats.items b.object)
    (alone_in whole_board.0 c.take-board.result _ whole_board.1 c.take-board.ensures.value) whole_board.2)

-- One place more of the order, from its end.
use Rattle.std.proofs.Common.{◌-◌, ◌∙◌, ℕ, Bool, get_or, set, sym, ap, arith, subst, length-set}
use Rattle.history_scene.specs.Placing.{AreLate, IsEarliest, earlier}
use Rattle.history.proofs.Standing.{not_begun}
use Rattle.history_scene.proofs.Lateness.{one_begun, one_unbegun}
use Rattle.history_scene.proofs.late.late_of.Goals as goal

pub loop-place-preserved-in-Some : goal.loop-place-preserved-in-Some
loop-place-preserved-in-Some c =
    let so_far = c.loop-place.invariant in
    let above = c.loop-place-test.true in
    let n : ℕ = c.loop-place.place - 1 in
    let late = c.loop-place.late.items in
    let first = c.loop-place.earliest in
    let is = c.requires.row_of (get_or c.args.order.now n 0) c.in-Some.row (sym c.row.ensures ∙ c.in-Some.is) in
    let next = one_begun c.args.events.now c.args.order.now c.loop-place.place n c.in-Some.row first late (omega arith) (omega arith) is so_far.2 so_far.3 in (
      omega arith,
      length-set late n c.is_behind.result ∙ so_far.1,
      subst (λ o. IsEarliest c.args.events.now c.args.order.now n o) (sym (c.earlier-earliest.ensures ∙ ap (earlier first) c.swap_end.ensures)) next.0,
      subst (λ (b : Bool). AreLate c.args.events.now c.args.order.now n (set late n b)) (sym c.is_behind.ensures) next.1,
    )

pub loop-place-preserved : goal.loop-place-preserved
loop-place-preserved c =
    let so_far = c.loop-place.invariant in
    let above = c.loop-place-test.true in
    let n : ℕ = c.loop-place.place - 1 in
    let never = not_begun c.args.events.now (get_or c.args.order.now n 0) c.args.table.now.rows.items c.args.table.now.running c.requires (sym c.row.ensures ∙ c.in_default.is) in
    let next = one_unbegun c.args.events.now c.args.order.now c.loop-place.place n c.loop-place.earliest c.loop-place.late.items (omega arith) (omega arith) never so_far.2 so_far.3 in
    (omega arith, so_far.1, next.0, next.1)

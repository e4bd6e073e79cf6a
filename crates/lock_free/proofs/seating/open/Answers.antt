use Rattle.std.proofs.Common.{sym, ap, subst}
use Rattle.lock_free.specs.Loading.{IsSound}
use Rattle.lock_free.specs.Seated.{IsSeated}
use Rattle.lock_free.proofs.SeatsMade.{first_seated}
use Rattle.lock_free.proofs.seating.open.Goals as goal

pub invariant_of-seat : goal.invariant_of-seat
invariant_of-seat c =
    let made = c.in_ok-board.ensures {u = tt} in
    let v = c.in_ok-board.actor.me.0 in
    let none = c.new.ensures in
    subst (IsSeated c.in_ok-board.actor.table_id.words v 1 c.args.sizes.seats) (sym (c.in-Ok.ensures {u = tt}).ok)
    (first_seated c.args.sizes made.in_range c.in_ok-board.actor.table_id.words v (ap (λ me. me.0) made.actor.1) (subst (λ t. IsSound t.words v) (sym made.actor.0) made.sound) c.new.result none.sizes
    (record { small = none.small; medium = none.medium; wide = none.wide; parted = none.parted; made = none.made; limbo = none.limbo }))

use Rattle.std.proofs.Common.{sym, subst}
use Rattle.lock_free.specs.Seated.{Seated}
use Rattle.lock_free.specs.TriedCalls.{HasTriedCall, IsParkedCall}
use Rattle.lock_free.proofs.TriesTold.{has_tried}
use Rattle.lock_free.proofs.parked_seats.ParkedSeat.go_on.Goals as goal

pub returns-clause-tried : goal.returns-clause-tried
returns-clause-tried c before call tried on =
    let after = c.try_on-ran.new.actor in
    let run = c.try_on-ran.ensures.run before call tried (subst (λ (x : Seated). IsParkedCall before call x.view) (sym c.self.view_is) on) in
    subst (HasTriedCall before call) (sym c.tried_by.ensures) (has_tried before after.me.0 call after.table_id c.try_on-ran.result run)

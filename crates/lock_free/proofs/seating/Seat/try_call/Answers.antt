use Rattle.std.proofs.Common.{◌⊎◌, inl, inr, sym, subst}
use Rattle.lock_free.specs.Seated.{Seated}
use Rattle.lock_free.specs.TriedCalls.{HasTriedCall, NeverBegan}
use Rattle.lock_free.proofs.TriesTold.{has_tried, never_began}
use Rattle.lock_free.proofs.seating.Seat.try_call.Goals as goal

pub returns-clause-tried : goal.returns-clause-tried
returns-clause-tried c =
    let v = c.self.inside.actor.me.0 in
    let ran = c.try_within-ran in
    let after = ran.new.actor in
    subst (λ (x : Seated). HasTriedCall x.view c.args.call c.tried_by.result ⊎ NeverBegan x.view c.tried_by.result) c.self.view_is
    (subst (λ t. HasTriedCall v c.args.call t ⊎ NeverBegan v t) (sym c.tried_by.ensures)
    (elim ran.ensures.run [
      | inl run ↦ inl (has_tried v after.me.0 c.args.call after.table_id ran.result run)
      | inr out ↦ inr (never_began v after.me.0 after.table_id ran.result out)
    ]))

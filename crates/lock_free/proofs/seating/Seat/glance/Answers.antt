use Rattle.std.proofs.Common.{subst}
use Rattle.history.specs.declared.calls.Call.TheVariants.{Get}
use Rattle.lock_free.specs.GetRuns.{IsToldAtOnce}
use Rattle.lock_free.specs.Seated.{Seated}
use Rattle.lock_free.proofs.seating.Seat.glance.Goals as goal

pub returns-clause-told : goal.returns-clause-told
returns-clause-told c =
    subst (λ (x : Seated). IsToldAtOnce x.view (Get c.args.handle c.args.key) c.glance_alone.result c.glance_alone.new.actor.me.0) c.self.view_is c.glance_alone.ensures.told

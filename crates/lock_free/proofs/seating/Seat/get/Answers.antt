use Rattle.std.proofs.Common.{subst}
use Rattle.history.specs.declared.calls.Call.TheVariants.{Get}
use Rattle.history.specs.declared.replies.Reply.TheVariants as reply
use Rattle.lock_free.specs.Seated.{Seated}
use Rattle.lock_free.specs.SlotWaits.{IsToldAtLast}
use Rattle.lock_free.proofs.seating.Seat.get.Goals as goal

pub returns-clause-told : goal.returns-clause-told
returns-clause-told g c =
    subst (λ (x : Seated). IsToldAtLast reply.Found x.view (Get c.args.handle c.args.key) c.run_get.result c.run_get.new.actor.me.0) c.self.view_is c.run_get.ensures.told.0

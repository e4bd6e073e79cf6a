use Rattle.std.proofs.Common.{subst}
use Rattle.lock_free.specs.Seated.{Seated}
use Rattle.lock_free.specs.SlotWaits.{IsToldAtLast}
use Rattle.lock_free.proofs.ToldAtLast.{plain_at_last}
use Rattle.lock_free.proofs.WholeCalls.{keyed_plain}
use Rattle.lock_free.proofs.seating.Seat.call_key.Goals as goal

pub returns-clause-told : goal.returns-clause-told
returns-clause-told g c =
    let v = c.self.inside.actor.me.0 in
    let w = c.key_at_last.new.actor.me.0 in
    subst (λ (x : Seated). IsToldAtLast (λ r. r) x.view c.args.call c.key_at_last.result w) c.self.view_is
    (plain_at_last v w c.args.call (keyed_plain c.args.call c.requires.keyed).0 c.key_at_last.result c.key_at_last.ensures.told)

pub returns-clause-fits : goal.returns-clause-fits
returns-clause-fits g c = c.key_at_last.ensures.told.3.fits

pub returns-clause-why : goal.returns-clause-why
returns-clause-why g c = c.key_at_last.ensures.told.3.why

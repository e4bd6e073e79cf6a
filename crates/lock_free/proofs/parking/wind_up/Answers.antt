use Rattle.std.proofs.Common.{sym, subst}
use Rattle.machine_model.specs.Calls.{changed_reply}
use Rattle.lock_free.specs.Parking.{HasWoundUp}
use Rattle.lock_free.proofs.CutShort.{ends_run, wound_up}
use Rattle.lock_free.proofs.ParkedOn.{cut_owns}
use Rattle.lock_free.proofs.parking.wind_up.Goals as goal

pub cut_short-requires-clause-runs : goal.cut_short-requires-clause-runs
cut_short-requires-clause-runs c = ends_run c.args.actor.now.me.0 (changed_reply c.args.call c.args.former) c.requires.ends

pub returns-clause-stays : goal.returns-clause-stays
returns-clause-stays c =
    cut_owns c.args.actor.now.me.0 c.cut_short.new.actor.me.0 (changed_reply c.args.call c.args.former) c.requires.ends c.requires.bare c.cut_short.ensures.cut

pub returns-clause-wound : goal.returns-clause-wound
returns-clause-wound c =
    let v = c.args.actor.now.me.0 in
    let w = c.cut_short.new.actor.me.0 in
    subst (λ r. HasWoundUp v r w) (sym c.changed_reply.ensures) (wound_up v w (changed_reply c.args.call c.args.former) c.requires.ends c.cut_short.ensures.cut)

use Rattle.std.proofs.Common.{sym, subst}
use Rattle.lock_free.specs.Parking.{HasRunTo}
use Rattle.lock_free.proofs.CallsRunOn.{tried_runs_on}
use Rattle.lock_free.proofs.KeyTries.{attempted_later, left_run, own_left, try_sought}
use Rattle.lock_free.proofs.attempts.try_once.Goals as goal

pub left_so-requires : goal.left_so-requires
left_so-requires c = own_left c.args.actor.now.me.0 c.in-Err.left c.try_key_within.new.actor.me.0 (c.in-Err.ensures {u = tt}).left

pub returns-in-Err-clause-attempted : goal.returns-in-Err-clause-attempted
returns-in-Err-clause-attempted c =
    let v = c.args.actor.now.me.0 in
    let w = c.try_key_within.new.actor.me.0 in
    subst (λ r. HasRunTo v r w) (sym c.left_so.ensures) (left_run v c.requires.at c.in-Err.left w (c.in-Err.ensures {u = tt}).left)

pub conclude-requires-clause-at : goal.conclude-requires-clause-at
conclude-requires-clause-at c =
    let x = c.try_key_within in try_sought c.args.actor.now.me.0 c.requires.at x.new.path.items c.in-Ok.task x.new.actor.me.0 c.in-Ok.sought (c.in-Ok.ensures {u = tt}).tried

pub returns-in-Ok-clause-attempted : goal.returns-in-Ok-clause-attempted
returns-in-Ok-clause-attempted c =
    let x = c.try_key_within in
    attempted_later c.args.actor.now.me.0 x.new.actor.me.0 c.conclude.new.actor.me.0 c.conclude.result
    (tried_runs_on c.args.actor.now.me.0 x.new.actor.me.0 x.new.path.items c.in-Ok.task c.in-Ok.sought (c.in-Ok.ensures {u = tt}).tried) c.conclude.ensures.attempted

use Rattle.std.proofs.Common.{refl, ◌∙◌}
use Rattle.lock_free.specs.declared.attempts.Attempt.TheVariants as attempt
use Rattle.lock_free.proofs.KeyTries.{attempted_later, called_on, tries_spent}
use Rattle.lock_free.proofs.RunningOn.{runs_on_self}
use Rattle.lock_free.proofs.attempts.run_key.Goals as goal

pub loop-init : goal.loop-init
loop-init c = (refl, c.requires.sound, c.requires.stock, runs_on_self c.args.actor.now.me.0, c.requires.at)

pub try_once-requires-clause-table : goal.try_once-requires-clause-table
try_once-requires-clause-table c = c.loop.invariant.0 ∙ c.requires.table

pub try_once-requires-clause-called : goal.try_once-requires-clause-called
try_once-requires-clause-called c =
    let at = c.requires.at in called_on c.args.actor.now.me.0 c.loop.actor.me.0 at.0 at.1 c.loop.invariant.3 c.args.call c.args.access c.requires.called

pub loop-preserved : goal.loop-preserved
loop-preserved c =
    let x = c.try_once in
    let again = attempted_later c.args.actor.now.me.0 c.loop.actor.me.0 x.new.actor.me.0 attempt.Again c.loop.invariant.3 (c.in-Again.ensures {u = tt}).attempted in
    (x.ensures.table ∙ c.loop.invariant.0, x.ensures.sound, x.ensures.stock, again.0, again.1)

pub returns-in-Comes-clause-table : goal.returns-in-Comes-clause-table
returns-in-Comes-clause-table c = c.try_once.ensures.table ∙ c.loop.invariant.0

pub returns-in-Comes-clause-run : goal.returns-in-Comes-clause-run
returns-in-Comes-clause-run c =
    attempted_later c.args.actor.now.me.0 c.loop.actor.me.0 c.try_once.new.actor.me.0 (attempt.Comes c.in-Comes.came) c.loop.invariant.3 (c.in-Comes.ensures {u = tt}).attempted

pub returns-clause-table : goal.returns-clause-table
returns-clause-table c = c.loop.invariant.0

pub returns-clause-run : goal.returns-clause-run
returns-clause-run c = tries_spent c.args.actor.now.me.0 c.loop.actor.me.0 c.loop.invariant.3 c.loop.invariant.4

use Rattle.lock_free.specs.Leaving.{HasCompletedOn}
use Rattle.lock_free.specs.Rooting.{HasHelped}
use Rattle.lock_free.proofs.CompletesLeft.{begins, helped_all, on_all}
use Rattle.lock_free.proofs.Leavings.{if_ok, if_err}
use Rattle.lock_free.proofs.rooting.complete_within.Goals as goal

pub complete_on-requires-clause-completing : goal.complete_on-requires-clause-completing
complete_on-requires-clause-completing c =
    begins c.args.words.now.table_id.words c.args.actor.now.me.0 c.requires.sound c.args.way c.args.offer c.requires.completing c.see_olds-root.new.actor.me.0 c.see_olds-root.result
    c.see_olds-root.ensures.seen

pub returns-clause-helped : goal.returns-clause-helped
returns-clause-helped c =
    if_ok (λ b. HasHelped c.see_olds-root.new.actor.me.0 b c.complete_on.new.actor.me.0) (λ b. HasHelped c.args.actor.now.me.0 b c.complete_on.new.actor.me.0)
    (λ b h. helped_all c.args.words.now.table_id.words c.args.actor.now.me.0 c.requires.sound c.args.way c.args.offer c.requires.completing c.see_olds-root.new.actor.me.0 c.see_olds-root.result
    c.see_olds-root.ensures.seen b c.complete_on.new.actor.me.0 h) c.complete_on.result c.complete_on.ensures.helped

pub returns-clause-on : goal.returns-clause-on
returns-clause-on c =
    if_err (λ s. HasCompletedOn c.see_olds-root.new.actor.me.0 c.args.way.handle c.args.offer s c.complete_on.new.actor.me.0)
    (λ s. HasCompletedOn c.args.actor.now.me.0 c.args.way.handle c.args.offer s c.complete_on.new.actor.me.0)
    (λ s h. on_all c.args.words.now.table_id.words c.args.actor.now.me.0 c.requires.sound c.args.way c.args.offer c.requires.completing c.see_olds-root.new.actor.me.0 c.see_olds-root.result
    c.see_olds-root.ensures.seen s c.complete_on.new.actor.me.0 h) c.complete_on.result c.complete_on.ensures.on

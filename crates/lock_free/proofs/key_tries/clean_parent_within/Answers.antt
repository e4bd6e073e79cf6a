use Rattle.std.proofs.Common.{length, nat_lt, refl, subst}
use Rattle.lock_free.specs.Repairing.{HasCleanedBelow}
use Rattle.lock_free.proofs.OfTasks.{on_way}
use Rattle.lock_free.proofs.Seekings.{clean_ready, again, full}
use Rattle.lock_free.proofs.key_tries.clean_parent_within.Goals as goal

pub clean_below_within-requires-clause-way : goal.clean_below_within-requires-clause-way
clean_below_within-requires-clause-way c = on_way c.args.actor.now.me.0 c.args.task.now c.requires.task c.way-way.result c.way-way.ensures.0 c.way-way.ensures.1

pub clean_below_within-requires-clause-at : goal.clean_below_within-requires-clause-at
clean_below_within-requires-clause-at c = clean_ready c.args.actor.now.me.0 c.args.path.now c.requires.at (nat_lt 2 (length c.args.path.now)) refl

pub returns-then-done-clause-sought : goal.returns-then-done-clause-sought
returns-then-done-clause-sought c =
    again c.args.actor.now.me.0 c.args.path.now c.requires.at c.clean_below_within.new.actor.me.0
    (subst (λ b. HasCleanedBelow c.args.actor.now.me.0 b c.clean_below_within.new.actor.me.0) c.if-done.true (c.in-Ok.ensures {u = tt}).cleaned)

pub returns-else-done-clause-sought : goal.returns-else-done-clause-sought
returns-else-done-clause-sought c =
    full c.args.actor.now.me.0 c.args.path.now c.requires.at c.clean_below_within.new.actor.me.0
    (subst (λ b. HasCleanedBelow c.args.actor.now.me.0 b c.clean_below_within.new.actor.me.0) c.if-done.false (c.in-Ok.ensures {u = tt}).cleaned)

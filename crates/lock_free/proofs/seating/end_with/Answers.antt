use Rattle.std.proofs.Common.{subst}
use Rattle.history.specs.declared.replies.Reply.TheVariants as reply
use Rattle.lock_free.specs.Attempts.{IsEnding}
use Rattle.lock_free.proofs.CallEnds.{cancelled_with, ended_with}
use Rattle.lock_free.proofs.seating.end_with.Goals as goal

pub returns-in-Some-clause-ended : goal.returns-in-Some-clause-ended
returns-in-Some-clause-ended c =
    let v = c.args.actor.now.me.0 in
    ended_with v c.end.new.actor.me.0 c.in-Some.reply (subst (IsEnding v) c.in-Some.is c.requires.ending) c.end.ensures.ended

pub returns-in-None-clause-ended : goal.returns-in-None-clause-ended
returns-in-None-clause-ended c =
    let v = c.args.actor.now.me.0 in
    cancelled_with v c.refuse.new.actor.me.0 reply.NoSlots (subst (IsEnding v) c.in-None.is c.requires.ending) c.refuse.ensures.refused

use Rattle.lock_free.proofs.CallsRunOn.{may_give_up}
use Rattle.lock_free.proofs.KeyEntombs.{climb_given_up}
use Rattle.lock_free.proofs.attempts.leave_climb.Goals as goal

pub give_all_up-requires-clause-may : goal.give_all_up-requires-clause-may
give_all_up-requires-clause-may c = may_give_up c.args.actor.now.me.0 c.args.reply c.requires.may

pub returns-clause-left : goal.returns-clause-left
returns-clause-left c = climb_given_up c.args.actor.now.me.0 c.args.reply c.requires.may c.give_all_up.new.actor.me.0 c.give_all_up.ensures.gave

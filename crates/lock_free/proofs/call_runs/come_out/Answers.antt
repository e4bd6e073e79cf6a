use Rattle.std.proofs.Common.{refl, subst}
use Rattle.lock_free.specs.Parking.{IsCome}
use Rattle.lock_free.proofs.call_runs.come_out.Goals as goal

pub finish_call-requires-clause-ending : goal.finish_call-requires-clause-ending
finish_call-requires-clause-ending c = subst (IsCome c.args.actor.now.me.0) c.in-Answered.is c.requires.come

pub finish_call-requires-in-Spent-clause-ending : goal.finish_call-requires-in-Spent-clause-ending
finish_call-requires-in-Spent-clause-ending c = subst (IsCome c.args.actor.now.me.0) c.in-Spent.is c.requires.come

pub returns-in-Parked-clause-out : goal.returns-in-Parked-clause-out
returns-in-Parked-clause-out c = (refl, refl, subst (IsCome c.args.actor.now.me.0) c.in-Parked.is c.requires.come)

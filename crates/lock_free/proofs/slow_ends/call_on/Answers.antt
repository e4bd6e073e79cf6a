use Rattle.lock_free.proofs.KeyEnds.{calling_on, done_since}
use Rattle.lock_free.proofs.slow_ends.call_on.Goals as goal

pub end_call-requires-clause-running : goal.end_call-requires-clause-running
end_call-requires-clause-running g c = (calling_on c.args.actor.now.me.0 c.came_of-came.new.actor.me.0 c.came_of-came.ensures.run.0 c.args.call c.args.access c.requires.calling).running

pub end_call-requires-clause-keyed : goal.end_call-requires-clause-keyed
end_call-requires-clause-keyed g c = c.requires.calling.keyed

pub end_call-requires-clause-tried : goal.end_call-requires-clause-tried
end_call-requires-clause-tried g c = c.requires.calling.tried

pub end_call-requires-clause-called : goal.end_call-requires-clause-called
end_call-requires-clause-called g c = (calling_on c.args.actor.now.me.0 c.came_of-came.new.actor.me.0 c.came_of-came.ensures.run.0 c.args.call c.args.access c.requires.calling).called

pub end_call-requires-clause-none : goal.end_call-requires-clause-none
end_call-requires-clause-none g c = (calling_on c.args.actor.now.me.0 c.came_of-came.new.actor.me.0 c.came_of-came.ensures.run.0 c.args.call c.args.access c.requires.calling).none

pub returns-clause-out : goal.returns-clause-out
returns-clause-out g c =
    done_since c.args.actor.now.me.0 c.came_of-came.new.actor.me.0 c.came_of-came.ensures.run.0 c.args.call c.end_call.result c.end_call.new.actor.me.0
    (c.end_call.ensures.told, c.end_call.ensures.left)

use Rattle.lock_free.proofs.KeyEnds.{attempted_as, attempted_runs, calling_on, done_since}
use Rattle.lock_free.proofs.RunningOn.{runs_on_both}
use Rattle.lock_free.proofs.slow_ends.found_on.Goals as goal

pub call_on-requires-clause-calling : goal.call_on-requires-clause-calling
call_on-requires-clause-calling g c =
    let v = c.args.actor.now.me.0 in
    let w = c.found_on_within-tried.new.actor.me.0 in
    let x = c.attempt_of-attempt.new.actor.me.0 in
    calling_on v x (runs_on_both v w x c.found_on_within-tried.ensures.runs (attempted_runs w x c.attempt_of-attempt.result c.attempt_of-attempt.ensures.attempted)) c.args.task.now.call
    c.args.task.now.access c.requires.calling

pub call_on-requires-clause-at : goal.call_on-requires-clause-at
call_on-requires-clause-at g c = attempted_as c.found_on_within-tried.new.actor.me.0 c.attempt_of-attempt.new.actor.me.0 c.attempt_of-attempt.result c.attempt_of-attempt.ensures.attempted

pub returns-clause-out : goal.returns-clause-out
returns-clause-out g c =
    let v = c.args.actor.now.me.0 in
    let w = c.found_on_within-tried.new.actor.me.0 in
    let x = c.attempt_of-attempt.new.actor.me.0 in
    done_since v x (runs_on_both v w x c.found_on_within-tried.ensures.runs (attempted_runs w x c.attempt_of-attempt.result c.attempt_of-attempt.ensures.attempted)) c.args.task.now.call
    c.call_on.result
    c.call_on.new.actor.me.0 c.call_on.ensures.out

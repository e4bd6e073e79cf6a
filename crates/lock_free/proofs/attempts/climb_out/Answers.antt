use Rattle.std.proofs.Common.{sym, subst}
use Rattle.lock_free.specs.declared.parking.Came.TheVariants as came
use Rattle.lock_free.specs.Climbs.{HasClimbedUp}
use Rattle.lock_free.specs.Parking.{HasRunTo}
use Rattle.lock_free.specs.RunningOn.{MayAnswer}
use Rattle.lock_free.proofs.KeyEntombs.{climb_parked, climbed_out, left, left_out}
use Rattle.lock_free.proofs.OfTasks.{on_way}
use Rattle.lock_free.proofs.attempts.climb_out.Goals as goal

pub climb_within-requires-clause-way : goal.climb_within-requires-clause-way
climb_within-requires-clause-way c = on_way c.args.actor.now.me.0 c.args.task.now c.requires.task c.way-way.result c.way-way.ensures.0 c.way-way.ensures.1

pub climb_within-requires-clause-start : goal.climb_within-requires-clause-start
climb_within-requires-clause-start c o r = (c.requires.task.calls o r).2

pub climb_within-requires-clause-at : goal.climb_within-requires-clause-at
climb_within-requires-clause-at c = c.requires.at.climbing

pub returns-in-Ok-true-clause-climbed : goal.returns-in-Ok-true-clause-climbed
returns-in-Ok-true-clause-climbed c =
    let v = c.args.actor.now.me.0 in
    let w = c.climb_within.new.actor.me.0 in
    subst (λ r. HasRunTo v (came.Answered r) w) (sym c.changed_reply-reply.ensures)
    (climbed_out v c.args.task.now c.requires.task c.args.path.now.items c.args.single c.args.former c.requires.at w
    (subst (λ b. HasClimbedUp v b w) c.in-Ok-true.field-0-test (c.in-Ok-true.ensures {u = tt}).climbed))

pub leave_climb-requires-clause-may : goal.leave_climb-requires-clause-may
leave_climb-requires-clause-may c =
    let v = c.args.actor.now.me.0 in
    let w = c.climb_within.new.actor.me.0 in
    subst (MayAnswer w) (sym c.changed_reply-reply.ensures)
    (left v c.args.task.now c.requires.task c.args.path.now.items c.args.single c.args.former c.requires.at w
    (subst (λ b. HasClimbedUp v b w) c.in-Ok-false.field-0-test (c.in-Ok-false.ensures {u = tt}).climbed))

pub returns-in-Ok-false-clause-climbed : goal.returns-in-Ok-false-clause-climbed
returns-in-Ok-false-clause-climbed c =
    let v = c.args.actor.now.me.0 in
    let w = c.climb_within.new.actor.me.0 in
    left_out v c.args.task.now c.requires.task c.args.path.now.items c.args.single c.args.former c.requires.at w
    (subst (λ b. HasClimbedUp v b w) c.in-Ok-false.field-0-test (c.in-Ok-false.ensures {u = tt}).climbed) c.leave_climb.result c.leave_climb.new.actor.me.0 c.leave_climb.ensures.left

pub returns-in-Err-clause-climbed : goal.returns-in-Err-clause-climbed
returns-in-Err-clause-climbed c =
    climb_parked c.args.actor.now.me.0 c.args.task.now c.requires.task c.args.path.now.items c.args.single c.args.former c.requires.at c.in-Err.left c.climb_within.new.actor.me.0
    (c.in-Err.ensures {u = tt}).left

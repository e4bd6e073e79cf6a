use Rattle.std.proofs.Common.{sym, subst}
use Rattle.lock_free.specs.declared.parking.Came.TheVariants as came
use Rattle.lock_free.specs.CopySteps.{HasLeftCopy, HasMadeCopy, IsCopying}
use Rattle.lock_free.specs.Parking.{HasRunTo}
use Rattle.lock_free.proofs.CopiesParked.{left_parked, left_spent, made_answered, made_spent}
use Rattle.lock_free.proofs.copy_runs.run_copy.Goals as goal

pub make_copy_within-requires-clause-copying : goal.make_copy_within-requires-clause-copying
make_copy_within-requires-clause-copying c =
    subst (λ k. IsCopying c.args.actor.now.me.0 k c.args.way.handle c.args.opens) (sym c.kind_of.ensures) c.requires.copying

pub returns-in-Ok-true-clause-run : goal.returns-in-Ok-true-clause-run
returns-in-Ok-true-clause-run c =
    subst (λ a. HasRunTo c.args.actor.now.me.0 (came.Answered a) c.make_copy_within.new.actor.me.0) (sym c.copied_reply.ensures)
    (made_answered c.args.actor.now.me.0 c.requires.at.0 c.requires.at.1 c.args.call (c.requires.called c.requires.at.0 c.requires.at.1).0 c.args.opens
    (c.requires.copying.on c.requires.at.0 c.requires.at.1).1 c.requires.at.3 c.make_copy_within.new.actor.me.0
    (subst (λ b. HasMadeCopy c.args.actor.now.me.0 b c.make_copy_within.new.actor.me.0) c.in-Ok-true.field-0-test (c.in-Ok-true.ensures {u = tt}).made))

pub returns-in-Ok-false-clause-run : goal.returns-in-Ok-false-clause-run
returns-in-Ok-false-clause-run c =
    made_spent c.args.actor.now.me.0 c.requires.at.0 c.requires.at.1 c.args.call (c.requires.called c.requires.at.0 c.requires.at.1).0 c.args.opens
    (c.requires.copying.on c.requires.at.0 c.requires.at.1).1 c.requires.at.3 c.make_copy_within.new.actor.me.0
    (subst (λ b. HasMadeCopy c.args.actor.now.me.0 b c.make_copy_within.new.actor.me.0) c.in-Ok-false.field-0-test (c.in-Ok-false.ensures {u = tt}).made)

pub returns-in-MayGiveUp-clause-run : goal.returns-in-MayGiveUp-clause-run
returns-in-MayGiveUp-clause-run c =
    left_spent c.args.actor.now.me.0 c.requires.at.0 c.requires.at.1 c.args.call (c.requires.called c.requires.at.0 c.requires.at.1).0 c.args.opens
    (c.requires.copying.on c.requires.at.0 c.requires.at.1).1 c.requires.at.3 c.make_copy_within.new.actor.me.0
    c.kind_of.result c.args.way.handle
    (subst (λ l. HasLeftCopy c.args.actor.now.me.0 c.kind_of.result c.args.way.handle c.args.opens l c.make_copy_within.new.actor.me.0) c.in-MayGiveUp.is (c.in-Err.ensures {u = tt}).left)

pub returns-in-Completing-clause-run : goal.returns-in-Completing-clause-run
returns-in-Completing-clause-run c =
    left_parked c.args.actor.now.me.0 c.requires.at.0 c.requires.at.1 c.args.call (c.requires.called c.requires.at.0 c.requires.at.1).0 c.args.opens
    (c.requires.copying.on c.requires.at.0 c.requires.at.1).1 c.requires.at.3 c.make_copy_within.new.actor.me.0
    c.kind_of.result c.kind_of.ensures c.args.way.handle c.in-Completing.next
    (subst (λ l. HasLeftCopy c.args.actor.now.me.0 c.kind_of.result c.args.way.handle c.args.opens l c.make_copy_within.new.actor.me.0) c.in-Completing.is (c.in-Err.ensures {u = tt}).left)

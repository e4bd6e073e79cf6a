use Rattle.std.proofs.Common.{ap, sym, subst, ◌∙◌}
use Rattle.lock_free.specs.declared.parking.Came.TheVariants as came
use Rattle.lock_free.specs.CopySteps.{copy_kind, HasSettledCopy}
use Rattle.lock_free.specs.Parking.{HasRunTo}
use Rattle.lock_free.proofs.CopiesParked.{its_call, its_completing, its_copy, left_parked, settled_answered, settled_spent}
use Rattle.lock_free.proofs.ParkedOn.{way_called}
use Rattle.lock_free.proofs.copy_runs.copy_goes_on.Goals as goal

pub settle_own-requires-clause-way : goal.settle_own-requires-clause-way
settle_own-requires-clause-way c =
    way_called c.args.actor.now.me.0 c.args.call c.args.access c.requires.called c.handle-handle.result c.handle-handle.ensures

pub settle_own-requires-clause-completing : goal.settle_own-requires-clause-completing
settle_own-requires-clause-completing c =
    its_completing c.args.actor.now.me.0 c.args.completing c.args.opens c.requires.parked c.args.call c.args.access c.requires.called c.handle-handle.result c.handle-handle.ensures

pub settle_own-requires-clause-which : goal.settle_own-requires-clause-which
settle_own-requires-clause-which c o runs = ap copy_kind (c.requires.called o runs).0 ∙ sym c.kind_of.ensures

pub settle_own-requires-clause-own : goal.settle_own-requires-clause-own
settle_own-requires-clause-own c =
    its_copy c.args.actor.now.me.0 c.args.completing c.args.opens c.requires.parked c.args.call c.args.access c.requires.called c.kind_of.result c.kind_of.ensures c.handle-handle.result
    c.handle-handle.ensures

pub returns-in-Ok-true-clause-run : goal.returns-in-Ok-true-clause-run
returns-in-Ok-true-clause-run c =
    subst (λ a. HasRunTo c.args.actor.now.me.0 (came.Answered a) c.settle_own.new.actor.me.0) (sym c.copied_reply.ensures)
    (settled_answered c.args.actor.now.me.0 c.requires.parked.is.at.0 c.requires.parked.is.at.1 c.args.call
    (its_call c.args.actor.now.me.0 c.args.completing c.args.opens c.requires.parked c.args.call c.args.access c.requires.called)
    c.args.opens c.requires.parked.number c.requires.parked.copies c.settle_own.new.actor.me.0
    (subst (λ b. HasSettledCopy c.args.actor.now.me.0 b c.settle_own.new.actor.me.0) c.in-Ok-true.field-0-test (c.in-Ok-true.ensures {u = tt}).settled))

pub returns-in-Ok-false-clause-run : goal.returns-in-Ok-false-clause-run
returns-in-Ok-false-clause-run c =
    settled_spent c.args.actor.now.me.0 c.requires.parked.is.at.0 c.requires.parked.is.at.1 c.args.call
    (its_call c.args.actor.now.me.0 c.args.completing c.args.opens c.requires.parked c.args.call c.args.access c.requires.called)
    c.args.opens c.requires.parked.number c.requires.parked.copies c.settle_own.new.actor.me.0
    (subst (λ b. HasSettledCopy c.args.actor.now.me.0 b c.settle_own.new.actor.me.0) c.in-Ok-false.field-0-test (c.in-Ok-false.ensures {u = tt}).settled)

pub returns-in-Err-clause-run : goal.returns-in-Err-clause-run
returns-in-Err-clause-run c =
    left_parked c.args.actor.now.me.0 c.requires.parked.is.at.0 c.requires.parked.is.at.1 c.args.call
    (its_call c.args.actor.now.me.0 c.args.completing c.args.opens c.requires.parked c.args.call c.args.access c.requires.called)
    c.args.opens c.requires.parked.number c.requires.parked.copies c.settle_own.new.actor.me.0
    c.kind_of.result c.kind_of.ensures c.handle-handle.result c.in-Err.next (c.in-Err.ensures {u = tt}).on

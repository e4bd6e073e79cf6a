use Rattle.std.proofs.Common.{subst}
use Rattle.lock_free.specs.declared.renewing.Renewed.TheVariants as renewed
use Rattle.lock_free.specs.Leaving.{IsRepair, LeavesSwap}
use Rattle.lock_free.specs.Seeking.{HasRenewedLast, HasSought}
use Rattle.lock_free.proofs.Leavings.{if_err, if_ok}
use Rattle.lock_free.proofs.Seekings.{as_renewed}
use Rattle.lock_free.proofs.SoughtOn.{read_ready, read_task, read_sought, read_leaves}
use Rattle.lock_free.proofs.finds.renew_and_seek_within.Goals as goal

pub seek_within-requires-clause-task : goal.seek_within-requires-clause-task
seek_within-requires-clause-task c =
    read_task c.args.actor.now.me.0 c.args.path.now.items c.args.given c.requires.at c.renew_last_within.new.actor.me.0
    (subst (λ xs. HasRenewedLast c.args.actor.now.me.0 xs renewed.Reads c.renew_last_within.new.actor.me.0) c.as_slice.ensures.value (as_renewed c.args.actor.now.me.0 _ c.in-Ok-Reads.field-0
    renewed.Reads c.renew_last_within.new.actor.me.0 c.in-Ok-Reads.field-0-is
    (c.in-Ok-Reads.ensures {u = tt}).renewed)) c.args.task.now c.requires.task

pub seek_within-requires-clause-at : goal.seek_within-requires-clause-at
seek_within-requires-clause-at c =
    read_ready c.args.actor.now.me.0 c.args.path.now.items c.args.given c.requires.at c.renew_last_within.new.actor.me.0
    (subst (λ xs. HasRenewedLast c.args.actor.now.me.0 xs renewed.Reads c.renew_last_within.new.actor.me.0) c.as_slice.ensures.value (as_renewed c.args.actor.now.me.0 _ c.in-Ok-Reads.field-0
    renewed.Reads c.renew_last_within.new.actor.me.0 c.in-Ok-Reads.field-0-is
    (c.in-Ok-Reads.ensures {u = tt}).renewed)) c.requires.some

pub returns-in-Ok-Reads-clause-sought : goal.returns-in-Ok-Reads-clause-sought
returns-in-Ok-Reads-clause-sought c =
    let slots = c.seek_within.new.path.items in
    if_ok (λ r. HasSought c.renew_last_within.new.actor.me.0 slots r c.seek_within.new.actor.me.0) (λ r. HasSought c.args.actor.now.me.0 slots r c.seek_within.new.actor.me.0)
    (λ r h. read_sought c.args.actor.now.me.0 c.args.path.now.items c.args.given c.requires.at c.renew_last_within.new.actor.me.0
    (subst (λ xs. HasRenewedLast c.args.actor.now.me.0 xs renewed.Reads c.renew_last_within.new.actor.me.0) c.as_slice.ensures.value (as_renewed c.args.actor.now.me.0 _ c.in-Ok-Reads.field-0
    renewed.Reads c.renew_last_within.new.actor.me.0 c.in-Ok-Reads.field-0-is
    (c.in-Ok-Reads.ensures {u = tt}).renewed)) c.seek_within.new.actor.me.0 slots r h) c.seek_within.result c.seek_within.ensures.sought

pub returns-in-Ok-Reads-clause-left : goal.returns-in-Ok-Reads-clause-left
returns-in-Ok-Reads-clause-left c =
    if_err (λ s. LeavesSwap IsRepair c.renew_last_within.new.actor.me.0 s c.seek_within.new.actor.me.0) (λ s. LeavesSwap IsRepair c.args.actor.now.me.0 s c.seek_within.new.actor.me.0)
    (λ s h. read_leaves c.args.actor.now.me.0 c.args.path.now.items c.args.given c.requires.at c.renew_last_within.new.actor.me.0
    (subst (λ xs. HasRenewedLast c.args.actor.now.me.0 xs renewed.Reads c.renew_last_within.new.actor.me.0) c.as_slice.ensures.value (as_renewed c.args.actor.now.me.0 _ c.in-Ok-Reads.field-0
    renewed.Reads c.renew_last_within.new.actor.me.0 c.in-Ok-Reads.field-0-is
    (c.in-Ok-Reads.ensures {u = tt}).renewed)) c.seek_within.new.actor.me.0 s h) c.seek_within.result c.seek_within.ensures.left

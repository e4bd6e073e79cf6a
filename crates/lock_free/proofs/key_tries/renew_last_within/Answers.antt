use Rattle.lock_free.proofs.OfTasks.{on_way}
use Rattle.lock_free.proofs.Seekings.{starts, renew_ready, is_branch_there, renewed_done}
use Rattle.lock_free.specs.Repairing.{HasRenewedBranch}
use Rattle.lock_free.specs.Seeking.{HasRenewedLast}
use Rattle.lock_free.proofs.Leavings.{if_ok}
use Rattle.lock_free.proofs.key_tries.renew_last_within.Goals as goal

pub renew_within-requires-clause-way : goal.renew_within-requires-clause-way
renew_within-requires-clause-way c = on_way c.args.actor.now.me.0 c.args.task.now c.requires.task c.way.result c.way.ensures.0 c.way.ensures.1

pub renew_within-requires-clause-start : goal.renew_within-requires-clause-start
renew_within-requires-clause-start c =
    starts c.args.words.now.table_id.words c.args.actor.now.me.0 c.requires.sound c.args.task.now c.requires.task c.args.path.now c.requires.some c.args.given c.requires.at

pub renew_within-requires-clause-at : goal.renew_within-requires-clause-at
renew_within-requires-clause-at c =
    renew_ready c.args.words.now.table_id.words c.args.actor.now.me.0 c.requires.sound c.args.task.now c.requires.task c.args.path.now c.requires.some c.args.given c.requires.at c.in-Branch.bitmap
    c.in-Branch.is

pub unreachable-requires : goal.unreachable-requires
unreachable-requires c =
    is_branch_there c.args.words.now.table_id.words c.args.actor.now.me.0 c.requires.sound c.args.task.now c.requires.task c.args.path.now c.requires.some c.args.given c.requires.at c.in-Tomb.is

pub returns-clause-renewed : goal.returns-clause-renewed
returns-clause-renewed c =
    if_ok (λ r. HasRenewedBranch c.args.actor.now.me.0 r c.renew_within.new.actor.me.0) (λ r. HasRenewedLast c.args.actor.now.me.0 c.args.path.now r c.renew_within.new.actor.me.0)
    (λ r h. renewed_done c.args.words.now.table_id.words c.args.actor.now.me.0 c.requires.sound c.args.task.now c.requires.task c.args.path.now c.requires.some c.args.given c.requires.at r
    c.renew_within.new.actor.me.0 h) c.renew_within.result c.renew_within.ensures.renewed

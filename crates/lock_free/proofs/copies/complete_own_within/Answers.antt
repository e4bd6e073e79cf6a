use Rattle.lock_free.specs.CopySteps.{HasCopied, HasCopiedOn}
use Rattle.lock_free.proofs.CopiesLeft.{begins_own, own_copied, own_on, own_stock, own_way}
use Rattle.lock_free.proofs.CopyOutcome.{kind_saw}
use Rattle.lock_free.proofs.Leavings.{if_err, if_ok}
use Rattle.lock_free.proofs.copies.complete_own_within.Goals as goal

pub see_olds-root-requires-clause-known : goal.see_olds-root-requires-clause-known
see_olds-root-requires-clause-known c = (c.args.way.handle, c.requires.standing.its)

pub complete_own_on-requires-clause-way : goal.complete_own_on-requires-clause-way
complete_own_on-requires-clause-way c = own_way c.args.words.now.table_id.words c.args.actor.now.me.0 c.requires.sound c.args.way.handle c.args.slot c.requires.standing
    c.see_olds-root.new.actor.me.0 c.see_olds-root.result c.see_olds-root.ensures.seen c.args.way c.requires.way

pub complete_own_on-requires-clause-which : goal.complete_own_on-requires-clause-which
complete_own_on-requires-clause-which c =
    kind_saw c.args.actor.now.me.0 c.see_olds-root.new.actor.me.0 c.see_olds-root.ensures.seen.0 c.requires.standing.at.0 c.requires.standing.at.1 c.args.which c.requires.which

pub complete_own_on-requires-clause-completing : goal.complete_own_on-requires-clause-completing
complete_own_on-requires-clause-completing c = begins_own c.args.words.now.table_id.words c.args.actor.now.me.0 c.requires.sound c.args.way.handle c.args.slot c.requires.standing
    c.see_olds-root.new.actor.me.0 c.see_olds-root.result c.see_olds-root.ensures.seen

pub complete_own_on-requires-clause-stock : goal.complete_own_on-requires-clause-stock
complete_own_on-requires-clause-stock c = own_stock c.args.words.now.table_id.words c.args.actor.now.me.0 c.requires.sound c.args.way.handle c.args.slot c.requires.standing
    c.see_olds-root.new.actor.me.0 c.see_olds-root.result c.see_olds-root.ensures.seen c.args.stock.now c.requires.stock

pub returns-clause-copied : goal.returns-clause-copied
returns-clause-copied c =
    if_ok (λ b. HasCopied c.see_olds-root.new.actor.me.0 b c.complete_own_on.new.actor.me.0) (λ b. HasCopied c.args.actor.now.me.0 b c.complete_own_on.new.actor.me.0)
    (λ b h. own_copied c.args.words.now.table_id.words c.args.actor.now.me.0 c.requires.sound c.args.way.handle c.args.slot c.requires.standing c.see_olds-root.new.actor.me.0 c.see_olds-root.result
    c.see_olds-root.ensures.seen b c.complete_own_on.new.actor.me.0 h) c.complete_own_on.result c.complete_own_on.ensures.copied

pub returns-clause-on : goal.returns-clause-on
returns-clause-on c =
    if_err (λ s. HasCopiedOn c.see_olds-root.new.actor.me.0 c.args.way.handle c.args.slot s c.complete_own_on.new.actor.me.0)
    (λ s. HasCopiedOn c.args.actor.now.me.0 c.args.way.handle c.args.slot s c.complete_own_on.new.actor.me.0)
    (λ s h. own_on c.args.words.now.table_id.words c.args.actor.now.me.0 c.requires.sound c.args.way.handle c.args.slot c.requires.standing c.see_olds-root.new.actor.me.0 c.see_olds-root.result
    c.see_olds-root.ensures.seen s c.complete_own_on.new.actor.me.0 h) c.complete_own_on.result c.complete_own_on.ensures.on

use Rattle.lock_free.proofs.RepairLooks.{renew_single, renew_link}
use Rattle.lock_free.proofs.renewing.keeps.Goals as goal

pub returns-then-entry-clause-looked : goal.returns-then-entry-clause-looked
returns-then-entry-clause-looked c =
    let n = c.args.words.now.table_id.words in
    renew_single n c.args.actor.now.me.0 c.look_at_key.new.actor.me.0 c.requires.sound c.look_at_key.ensures.sound c.args.entry c.requires.at c.look_at_key.ensures.read.0 c.if-entry.true

pub returns-else-entry-clause-looked : goal.returns-else-entry-clause-looked
returns-else-entry-clause-looked c =
    let n = c.args.words.now.table_id.words in
    renew_link n c.args.actor.now.me.0 c.look_at_link.new.actor.me.0 c.requires.sound c.look_at_link.ensures.sound c.args.entry c.requires.at c.look_at_link.result c.look_at_link.ensures.read
    c.args.start c.requires.start c.if-entry.false

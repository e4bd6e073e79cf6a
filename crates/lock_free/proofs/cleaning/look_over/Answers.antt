use Rattle.std.proofs.Common.{refl}
use Rattle.lock_free.proofs.RepairLooks.{clean_single, clean_link}
use Rattle.lock_free.proofs.cleaning.look_over.Goals as goal

pub returns-then-entry-clause-looked : goal.returns-then-entry-clause-looked
returns-then-entry-clause-looked c =
    let n = c.args.words.now.table_id.words in
    clean_single n c.args.actor.now.me.0 c.look_at_key.new.actor.me.0 c.requires.sound c.look_at_key.ensures.sound c.args.entry c.requires.at c.look_at_key.ensures.read.0 c.args.entry.is_single
    c.if-entry.true refl

pub returns-else-entry-clause-looked : goal.returns-else-entry-clause-looked
returns-else-entry-clause-looked c =
    let n = c.args.words.now.table_id.words in
    clean_link n c.args.actor.now.me.0 c.look_at_link.new.actor.me.0 c.requires.sound c.look_at_link.ensures.sound c.args.entry c.requires.at c.look_at_link.ensures.read.0 c.args.entry.is_single
    c.if-entry.false refl

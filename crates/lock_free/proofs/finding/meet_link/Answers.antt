use Rattle.lock_free.proofs.LinkMeets.{meets_link}
use Rattle.lock_free.proofs.finding.meet_link.Goals as goal

pub returns-clause-met : goal.returns-clause-met
returns-clause-met c =
    let n = c.args.words.now.table_id.words in
    meets_link n c.args.actor.now.me.0 c.look_at_link.new.actor.me.0 c.requires.sound c.args.indirection c.requires.at c.look_at_link.ensures.sound c.look_at_link.result c.look_at_link.ensures.read

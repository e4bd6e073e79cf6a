use Rattle.std.proofs.Common.{sym, ◌∙◌}
use Rattle.lock_free.proofs.ClimbLooks.{has_position, holds_tombed, no_flag, is_seen}
use Rattle.lock_free.proofs.climbing.holds_it.Goals as goal

pub leads_to-requires-clause-held : goal.leads_to-requires-clause-held
leads_to-requires-clause-held c =
    has_position c.args.words.now.table_id.words c.args.actor.now.me.0 c.requires.sound c.args.main c.args.bitmap c.args.flag c.args.tombed c.requires.at
    (sym c.has_flag.ensures ∙ c.if-not-has_flag.false) c.position_of.result c.position_of.ensures.position

pub leads_to-requires-clause-other : goal.leads_to-requires-clause-other
leads_to-requires-clause-other c =
    holds_tombed c.args.words.now.table_id.words c.args.actor.now.me.0 c.requires.sound c.args.main c.args.bitmap c.args.flag c.args.tombed c.requires.at

pub returns-then-not-has_flag-clause-seen : goal.returns-then-not-has_flag-clause-seen
returns-then-not-has_flag-clause-seen c =
    no_flag c.args.words.now.table_id.words c.args.actor.now.me.0 c.requires.sound c.args.main c.args.bitmap c.args.flag c.args.tombed c.requires.at
    (sym c.has_flag.ensures ∙ c.if-not-has_flag.true)

pub returns-clause-seen : goal.returns-clause-seen
returns-clause-seen c =
    is_seen c.args.words.now.table_id.words c.args.actor.now.me.0 c.requires.sound c.args.main c.args.bitmap c.args.flag c.args.tombed c.requires.at
    (sym c.has_flag.ensures ∙ c.if-not-has_flag.false) c.position_of.result c.position_of.ensures.position c.leads_to.new.actor.me.0 c.leads_to.result c.leads_to.ensures.compared

use Rattle.std.proofs.Common.{sym, ◌∙◌}
use Rattle.lock_free.proofs.SwapsEnded.{ended_since, stays_hung, stays_sized, still_checks}
use Rattle.lock_free.proofs.swapping.end_swap.Goals as goal

pub end_told-requires-clause-checking : goal.end_told-requires-clause-checking
end_told-requires-clause-checking c =
    still_checks c.args.words.now.table_id.words c.args.actor.now.me.0 c.requires.sound c.args.swapping c.requires.checking c.is_told.new.actor.me.0 c.is_told.ensures.stayed

pub end_told-requires-clause-sizes : goal.end_told-requires-clause-sizes
end_told-requires-clause-sizes c =
    c.requires.sizes ∙ sym (stays_sized c.args.words.now.table_id.words c.args.actor.now.me.0 c.requires.sound c.args.swapping c.requires.checking c.is_told.new.actor.me.0 c.is_told.ensures.stayed)

pub end_told-requires-clause-limbo : goal.end_told-requires-clause-limbo
end_told-requires-clause-limbo c =
    stays_hung c.args.words.now.table_id.words c.args.actor.now.me.0 c.requires.sound c.args.swapping c.requires.checking c.is_told.new.actor.me.0 c.is_told.ensures.stayed c.args.stock.now.limbo
    c.requires.limbo

pub end_looking-requires-clause-checking : goal.end_looking-requires-clause-checking
end_looking-requires-clause-checking c =
    still_checks c.args.words.now.table_id.words c.args.actor.now.me.0 c.requires.sound c.args.swapping c.requires.checking c.is_told.new.actor.me.0 c.is_told.ensures.stayed

pub end_looking-requires-clause-sizes : goal.end_looking-requires-clause-sizes
end_looking-requires-clause-sizes c =
    c.requires.sizes ∙ sym (stays_sized c.args.words.now.table_id.words c.args.actor.now.me.0 c.requires.sound c.args.swapping c.requires.checking c.is_told.new.actor.me.0 c.is_told.ensures.stayed)

pub end_looking-requires-clause-limbo : goal.end_looking-requires-clause-limbo
end_looking-requires-clause-limbo c =
    stays_hung c.args.words.now.table_id.words c.args.actor.now.me.0 c.requires.sound c.args.swapping c.requires.checking c.is_told.new.actor.me.0 c.is_told.ensures.stayed c.args.stock.now.limbo
    c.requires.limbo

pub returns-then-is_told-clause-ended : goal.returns-then-is_told-clause-ended
returns-then-is_told-clause-ended c =
    ended_since c.args.words.now.table_id.words c.args.actor.now.me.0 c.requires.sound c.args.swapping c.requires.checking c.is_told.new.actor.me.0 c.is_told.ensures.stayed c.end_told.result
    c.end_told.new.actor.me.0 c.end_told.ensures.ended

pub returns-else-is_told-clause-ended : goal.returns-else-is_told-clause-ended
returns-else-is_told-clause-ended c =
    ended_since c.args.words.now.table_id.words c.args.actor.now.me.0 c.requires.sound c.args.swapping c.requires.checking c.is_told.new.actor.me.0 c.is_told.ensures.stayed c.end_looking.result
    c.end_looking.new.actor.me.0 c.end_looking.ensures.ended

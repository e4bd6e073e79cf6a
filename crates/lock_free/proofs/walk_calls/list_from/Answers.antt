use Rattle.std.proofs.Common.{sym, subst}
use Rattle.history.specs.declared.calls.Call.TheVariants.{Entries}
use Rattle.history.specs.declared.replies.Reply.TheVariants as reply
use Rattle.lock_free.specs.Attempts.{HasEndedWith}
use Rattle.lock_free.specs.WholeCalls.{IsWalkLack}
use Rattle.lock_free.proofs.OneWalk.Whole.{all_ended, all_ending, all_stock, at_start, lacking_ended, lacking_stock, lacks_so, may_lack}
use Rattle.lock_free.proofs.walk_calls.list_from.Goals as goal

pub all_pairs_within-requires-clause-at : goal.all_pairs_within-requires-clause-at
all_pairs_within-requires-clause-at c = at_start c.args.words.now.table_id.words c.args.actor.now.me.0 c.requires.sound Entries c.requires.at

pub end-requires-clause-stock : goal.end-requires-clause-stock
end-requires-clause-stock c =
    all_stock c.args.words.now.table_id.words c.args.actor.now.me.0 c.requires.sound Entries c.requires.at c.all_pairs_within.new.actor.me.0 c.in-Ok.pairs.items
    (c.in-Ok.ensures {u = tt}).walked c.args.stock.now c.requires.stock

pub end-requires-clause-ending : goal.end-requires-clause-ending
end-requires-clause-ending c =
    all_ending c.args.words.now.table_id.words c.args.actor.now.me.0 c.requires.sound Entries c.requires.at c.all_pairs_within.new.actor.me.0 c.in-Ok.pairs.items (c.in-Ok.ensures {u = tt}).walked

pub refuse-requires-clause-stock : goal.refuse-requires-clause-stock
refuse-requires-clause-stock c =
    lacking_stock c.args.words.now.table_id.words c.args.actor.now.me.0 c.requires.sound Entries c.requires.at c.all_pairs_within.new.actor.me.0 (c.in-Err.ensures {u = tt}).left
    c.args.stock.now c.requires.stock

pub refuse-requires-clause-may : goal.refuse-requires-clause-may
refuse-requires-clause-may c = may_lack c.args.words.now.table_id.words c.args.actor.now.me.0 c.requires.sound Entries c.requires.at c.all_pairs_within.new.actor.me.0 (c.in-Err.ensures {u = tt}).left

pub returns-in-Ok-clause-ended : goal.returns-in-Ok-clause-ended
returns-in-Ok-clause-ended c =
    subst (λ ps. HasEndedWith c.args.actor.now.me.0 (reply.Pairs ps) c.end.new.actor.me.0) (sym c.in_order.ensures)
    (all_ended c.args.words.now.table_id.words c.args.actor.now.me.0 c.requires.sound Entries c.requires.at c.all_pairs_within.new.actor.me.0 c.in-Ok.pairs.items
    (c.in-Ok.ensures {u = tt}).walked c.end.new.actor.me.0 c.end.ensures.ended)

pub returns-in-Err-clause-ended : goal.returns-in-Err-clause-ended
returns-in-Err-clause-ended c =
    lacking_ended c.args.words.now.table_id.words c.args.actor.now.me.0 c.requires.sound Entries c.requires.at c.all_pairs_within.new.actor.me.0 (c.in-Err.ensures {u = tt}).left
    c.refuse.new.actor.me.0 c.refuse.ensures.refused

pub returns-in-Err-clause-lacks : goal.returns-in-Err-clause-lacks
returns-in-Err-clause-lacks c = subst IsWalkLack (sym c.from.ensures) (lacks_so c.in-Err.why)

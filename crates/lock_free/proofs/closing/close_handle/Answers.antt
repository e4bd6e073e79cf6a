use Rattle.lock_free.proofs.Shutting.{resting_seen, seen_stock, watched_saw}
use Rattle.lock_free.proofs.closing.close_handle.Goals as goal

pub close_marked-requires-clause-rests : goal.close_marked-requires-clause-rests
close_marked-requires-clause-rests c = resting_seen c.args.actor.now.me.0 c.see_root-word.new.actor.me.0 c.see_root-word.ensures.seen.0 c.requires.rests

pub close_marked-requires-clause-stock : goal.close_marked-requires-clause-stock
close_marked-requires-clause-stock c = seen_stock c.args.stock.now c.args.actor.now.me.0 c.see_root-word.new.actor.me.0 c.see_root-word.ensures.seen.0 c.requires.rests.idle c.requires.stock

pub returns-in_default-clause-shut : goal.returns-in_default-clause-shut
returns-in_default-clause-shut c = watched_saw c.args.actor.now.me.0 c.see_root-word.new.actor.me.0 c.see_root-word.ensures.seen.0 c.requires.rests

pub returns-in_default-clause-stock : goal.returns-in_default-clause-stock
returns-in_default-clause-stock c = seen_stock c.args.stock.now c.args.actor.now.me.0 c.see_root-word.new.actor.me.0 c.see_root-word.ensures.seen.0 c.requires.rests.idle c.requires.stock

pub returns-in-Closed-clause-stock : goal.returns-in-Closed-clause-stock
returns-in-Closed-clause-stock c = seen_stock c.args.stock.now c.args.actor.now.me.0 c.see_root-word.new.actor.me.0 c.see_root-word.ensures.seen.0 c.requires.rests.idle c.requires.stock

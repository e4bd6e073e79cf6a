use Rattle.lock_free.proofs.AbortStep.{abort_allowed, abort_told}
use Rattle.lock_free.proofs.offers.abort.Goals as goal

pub compare_exchange-requires : goal.compare_exchange-requires
compare_exchange-requires c = (
  c.requires.table,
  c.requires.within,
  abort_allowed c.args.words.now.key c.args.words.now.table_id.slots c.args.actor.now.id c.args.actor.now.me c.requires.sound.bounds.1 c.args.offer c.requires.aborting,
)

pub returns-clause-aborted : goal.returns-clause-aborted
returns-clause-aborted c = abort_told c.args.actor.now.me.0 c.args.offer c.requires.aborting c.compare_exchange.result c.compare_exchange.new.seat.me.0 c.compare_exchange.ensures.2.0

use Rattle.std.proofs.Common.{arith}
use Rattle.lock_free.proofs.Hearing.{empties, emptied_rests, emptied_some, hearing_joins, has_heard, has_heard_more}
use Rattle.lock_free.proofs.finishing.hear.Goals as goal

pub load-requires : goal.load-requires
load-requires c =
    let size = c.requires.sound.1.size in (
      c.requires.table.1,
      omega (arith, size),
      empties c.args.words.now.key c.args.words.now.table_id.slots c.args.other.id c.args.other.me 0 c.requires.sound.1.bounds.1,
    )

pub hear_as-requires-clause-joins : goal.hear_as-requires-clause-joins
hear_as-requires-clause-joins c =
    hearing_joins c.args.words.now.key c.args.actor.now.id c.args.actor.now.me.0 c.requires.sound.0.bounds.1 c.load.new.seat.id c.load.new.seat.me.0
    (emptied_some c.args.other.me.0 0 c.load.result c.load.new.seat.me.0 c.load.ensures.2.0 c.requires.sound.1.bounds.1)
    (emptied_rests c.args.other.me.0 0 c.load.result c.load.new.seat.me.0 c.load.ensures.2.0 (c.requires.rests.pin, c.requires.rests.opens))

pub returns-clause-more : goal.returns-clause-more
returns-clause-more c = has_heard_more c.args.actor.now.me.0 c.load.new.seat.me.0 c.hear_as.new.actor.me.0 c.hear_as.ensures.heard

pub returns-clause-heard : goal.returns-clause-heard
returns-clause-heard c =
    has_heard c.args.actor.now.me.0 c.args.other.me.0 0 c.load.result c.load.new.seat.me.0 c.load.ensures.2.0 c.hear_as.new.actor.me.0 c.hear_as.ensures.heard

use Rattle.std.proofs.Common.{◌==◌}
use Rattle.lock_free.proofs.OneGlance.Clears.{clear_allowed, cleared_sound, glance_inside}
use Rattle.lock_free.proofs.glances.count_up.Goals as goal

pub compare_exchange-requires : goal.compare_exchange-requires
compare_exchange-requires c = (
  c.requires.table,
  glance_inside c.args.words.now.table_id.words c.args.actor.now.me.0 c.requires.sound,
  clear_allowed c.args.words.now.key c.args.words.now.table_id.slots c.args.actor.now.id c.args.actor.now.me c.requires.sound.bounds.1 c.args.count,
)

pub returns-clause-sound : goal.returns-clause-sound
returns-clause-sound c =
    cleared_sound c.args.words.now.table_id.words c.args.actor.now.me.0 (c.compare_exchange.result == c.args.count) c.compare_exchange.new.seat.me.0 c.compare_exchange.ensures.2.0 c.requires.sound

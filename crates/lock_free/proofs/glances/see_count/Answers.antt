use Rattle.lock_free.proofs.OneGlance.Clears.{cleared_sound, glance_inside, see_count_allowed}
use Rattle.lock_free.specs.Glances.{is_last}
use Rattle.lock_free.proofs.glances.see_count.Goals as goal

pub load-count-requires : goal.load-count-requires
load-count-requires c = (
  c.requires.table,
  glance_inside c.args.words.now.table_id.words c.args.actor.now.me.0 c.requires.sound,
  see_count_allowed c.args.words.now.key c.args.words.now.table_id.slots c.args.actor.now.id c.args.actor.now.me c.requires.sound.bounds.1,
)

pub returns-then-count-clause-sound : goal.returns-then-count-clause-sound
returns-then-count-clause-sound c =
    cleared_sound c.args.words.now.table_id.words c.args.actor.now.me.0 (is_last c.load-count.result) c.load-count.new.seat.me.0 c.load-count.ensures.2.0 c.requires.sound

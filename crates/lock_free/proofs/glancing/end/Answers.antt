use mathlib.Core.Option.{none}
use Rattle.atomic_table.specs.Table.{step}
use Rattle.lock_free.specs.Places.{glance_word}
use Rattle.lock_free.proofs.OneGlance.Clears.{glance_inside}
use Rattle.lock_free.proofs.OneGlance.Steps.{end_glance_allowed, ended_by, ended_sound}
use Rattle.lock_free.specs.Shadows.{inner}
use Rattle.lock_free.proofs.glancing.end.Goals as goal

pub load-requires : goal.load-requires
load-requires c =
    let v = c.args.actor.now.me.0 in
    let it = c.requires.glances in
    let slots = c.args.words.now.table_id.slots in (
      c.requires.table,
      glance_inside c.args.words.now.table_id.words (inner v it.glance) it.sound,
      end_glance_allowed v it.glance it.is c.args.words.now.key c.args.actor.now.id slots c.args.actor.now.me.1 (step slots glance_word 0 0 none) (c.requires.ends it.glance it.is).1,
    )

pub returns-clause-sound : goal.returns-clause-sound
returns-clause-sound c =
    let v = c.args.actor.now.me.0 in
    let it = c.requires.glances in
    ended_sound v it.glance it.is c.load.result c.load.new.seat.me.0 c.args.actor.now.me.1 c.load.new.seat.me.1
    (step c.args.words.now.table_id.slots glance_word 0 0 none) c.load.ensures.2 c.args.words.now.table_id.words it.sound

pub returns-clause-ended : goal.returns-clause-ended
returns-clause-ended c g is =
    ended_by c.args.actor.now.me.0 g is c.load.result c.load.new.seat.me.0 c.args.actor.now.me.1 c.load.new.seat.me.1
    (step c.args.words.now.table_id.slots glance_word 0 0 none) c.load.ensures.2 c.args.count (c.requires.ends g is).0

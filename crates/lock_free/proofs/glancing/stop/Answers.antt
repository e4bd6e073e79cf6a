use mathlib.Core.Option.{none}
use Rattle.atomic_table.specs.Table.{step}
use Rattle.lock_free.specs.Places.{glance_word}
use Rattle.lock_free.specs.Shadows.{inner}
use Rattle.lock_free.proofs.OneGlance.Clears.{glance_inside}
use Rattle.lock_free.proofs.OneGlance.Steps.{fallen_sound, stop_allowed}
use Rattle.lock_free.proofs.glancing.stop.Goals as goal

pub load-requires : goal.load-requires
load-requires c =
    let v = c.args.actor.now.me.0 in
    let it = c.requires.glances in
    let slots = c.args.words.now.table_id.slots in (
      c.requires.table,
      glance_inside c.args.words.now.table_id.words (inner v it.glance) it.sound,
      stop_allowed v it.glance it.is c.args.words.now.key c.args.actor.now.id slots c.args.actor.now.me.1 glance_word (step slots glance_word 0 0 none),
    )

pub returns-clause-sound : goal.returns-clause-sound
returns-clause-sound c =
    let v = c.args.actor.now.me.0 in
    let it = c.requires.glances in
    fallen_sound c.args.words.now.table_id.words (inner v it.glance) c.load.new.seat.me.0 (c.load.ensures.2 it.glance it.is).0 it.sound

pub returns-clause-stopped : goal.returns-clause-stopped
returns-clause-stopped c g is = (c.load.ensures.2 g is).0

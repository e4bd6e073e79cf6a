use Rattle.std.proofs.Common.{refl}
use mathlib.Core.Option.{none}
use Rattle.atomic_table.specs.Table.{step}
use Rattle.lock_free.specs.Loading.{has_gone, HasGone}
use Rattle.lock_free.specs.Shadows.{inner}
use Rattle.lock_free.proofs.OneGlance.Loads.{glanced_on, gone_hides, gone_on_way, is_reading}
use Rattle.lock_free.proofs.OneGlance.Steps.{glance_allowed}
use Rattle.lock_free.proofs.OneGlance.Together.{glance_sound}
use Rattle.lock_free.proofs.Moments.{go_ruled}
use Rattle.lock_free.proofs.glancing.go.Goals as goal

pub load-requires : goal.load-requires
load-requires c =
    let v = c.args.actor.now.me.0 in
    let it = c.requires.glances.3 in
    let sizes = c.args.words.now.key in
    let slots = c.args.words.now.table_id.slots in
    let id = c.args.actor.now.id in
    let b = c.args.actor.now.me.1 in
    let word = c.args.word in (
      c.requires.table,
      c.requires.inside,
      glance_allowed v it.glance it.is sizes id slots b word has_gone (step slots word 0 0 none)
          (λ known. (
          let (does, look, way) = c.requires.looks it.glance it.is known in
          go_ruled sizes slots id (inner v it.glance, b) word it.its.sound.bounds.1 way.acts.operation way.acts.runs (is_reading (inner v it.glance) does look way)))
          (λ known hidden found w d told. gone_hides c.args.words.now.table_id.words (inner v it.glance) refl c.requires.glances.0 c.requires.glances.1 c.requires.glances.2 it.its
          (c.requires.looks it.glance it.is known) hidden word found w told.0 told.1),
    )

pub returns-clause-on : goal.returns-clause-on
returns-clause-on c =
    let n = c.args.words.now.table_id.words in
    let v = c.args.actor.now.me.0 in
    let b = c.args.actor.now.me.1 in
    let word = c.args.word in
    let found = c.load.result in
    let st = step c.args.words.now.table_id.slots word 0 0 none in
    glanced_on n (λ x y. HasGone x word found y) v c.load.new.seat.me.0 b c.load.new.seat.me.1 (λ x y. has_gone st x found y) c.load.ensures.2
    (λ g is known w told. (
    let (does, look, way) = c.requires.looks g is known in
    gone_on_way n (inner v g) (glance_sound n v c.requires.glances g is) refl word found w.0 does look way told.0 told.1))

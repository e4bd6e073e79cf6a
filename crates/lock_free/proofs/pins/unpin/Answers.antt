use Rattle.std.proofs.Common.{◌<◌, ◌∙◌, ap, sym, subst}
use mathlib.Core.Option.{none}
use Rattle.atomic_table.specs.Table.{Allows, step}
use Rattle.lock_free.specs.Loading.{IsSound}
use Rattle.lock_free.specs.Places.{pin_word}
use Rattle.lock_free.specs.Shadows.{IsShadowed}
use Rattle.lock_free.specs.SeatWords.{has_unpinned}
use Rattle.lock_free.proofs.EndStep.{pin_inside}
use Rattle.lock_free.proofs.PinStep.{unpin_allowed, unpin_sound}
use Rattle.lock_free.proofs.pins.unpin.Goals as goal

pub store-requires : goal.store-requires
store-requires c =
    let sizes = c.args.words.now.key in
    let slots = c.args.words.now.table_id.slots in
    let id = c.args.actor.now.id in
    let me = c.args.actor.now.me in
    let word_is = c.pin_word_of.ensures ∙ ap pin_word (sym c.requires.its) in (
      c.requires.table,
      subst (λ n. n < c.args.words.now.table_id.words) (sym word_is) (pin_inside c.args.words.now.table_id.words me.0 c.requires.sound c.requires.few),
      subst (λ n. Allows (IsShadowed sizes) slots id me n (λ x. 0) (λ x. has_unpinned (step slots n 0 0 none) me 0)) (sym word_is)
          (unpin_allowed sizes slots id me c.requires.sound.bounds.1 c.requires.idle),
    )

pub returns-clause-sound : goal.returns-clause-sound
returns-clause-sound c =
    subst (λ v. IsSound c.args.words.now.table_id.words v) (sym (ap (λ me. me.0) c.store.ensures.2)) (unpin_sound c.args.words.now.table_id.words c.args.actor.now.me.0 c.requires.sound)

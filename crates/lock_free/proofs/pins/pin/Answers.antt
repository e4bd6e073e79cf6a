use Rattle.std.proofs.Common.{◌==◌, ◌<◌, ◌∙◌, ap, sym, subst, refl}
use mathlib.Core.Option.{some}
use prog.Atomic.{either}
use Rattle.atomic_table.specs.Table.{Allows, step}
use Rattle.trie_words.specs.Codes.{pin_of}
use Rattle.lock_free.specs.Loading.{IsSound}
use Rattle.lock_free.specs.Places.{pin_word}
use Rattle.lock_free.specs.Shadows.{IsShadowed}
use Rattle.lock_free.specs.SeatWords.{has_pinned}
use Rattle.lock_free.proofs.EndStep.{pin_inside}
use Rattle.lock_free.proofs.PinStep.{pin_allowed, pin_back, pin_sound}
use Rattle.lock_free.proofs.pins.pin.Goals as goal

pub compare_exchange_with-requires : goal.compare_exchange_with-requires
compare_exchange_with-requires c =
    let sizes = c.args.words.now.key in
    let slots = c.args.words.now.table_id.slots in
    let id = c.args.actor.now.id in
    let me = c.args.actor.now.me in
    let call = c.args.call.now in
    let word_is = c.pin_word_of.ensures ∙ ap pin_word (sym c.requires.its) in (
      c.requires.table,
      subst (λ n. n < c.args.words.now.table_id.words) (sym word_is) (pin_inside c.args.words.now.table_id.words me.0 c.requires.sound c.requires.few),
      subst (λ n. Allows (IsShadowed sizes) slots id me n (λ x. either (x == 0) c.to_word-pinned.result x) (has_pinned (step slots n 0 c.to_word-pinned.result (some call)) me)) (sym word_is)
          (subst (λ y. Allows (IsShadowed sizes) slots id me (pin_word me.0.actor) (λ x. either (x == 0) y x) (has_pinned (step slots (pin_word me.0.actor) 0 y (some call)) me))
          (sym c.to_word-pinned.ensures) (pin_allowed sizes slots id me c.requires.sound.bounds.1 c.args.pin call c.requires.fits c.requires.late c.requires.idle c.requires.free)),
    )

pub returns-clause-pinned : goal.returns-clause-pinned
returns-clause-pinned c = c.compare_exchange_with.ensures.2 c.args.pin c.args.call.now (ap pin_of c.to_word-pinned.ensures ∙ pin_back c.args.pin c.requires.fits) refl

pub returns-clause-sound : goal.returns-clause-sound
returns-clause-sound c =
    let x = c.compare_exchange_with.ensures.2 c.args.pin c.args.call.now (ap pin_of c.to_word-pinned.ensures ∙ pin_back c.args.pin c.requires.fits) refl in
    subst (λ v. IsSound c.args.words.now.table_id.words v) (sym (ap (λ me. me.0) x.2))
    (pin_sound c.args.words.now.table_id.words c.args.actor.now.me.0 x.0 c.args.call.now c.requires.sound)

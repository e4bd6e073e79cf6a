use Rattle.std.proofs.Common.{◌==◌, ◌||◌, ◌<◌, ◌+◌, sym, subst, ap, ◌∙◌}
use mathlib.Core.Option.{none}
use Rattle.atomic_table.specs.Table.{Allows, step}
use Rattle.trie_words.specs.Codes.{pin_of}
use Rattle.lock_free.specs.Shadows.{IsShadowed}
use Rattle.lock_free.specs.SeatWords.{HasPassed, is_out, is_passed, has_passed}
use Rattle.lock_free.proofs.PassStep.{pass_allowed, pass_sound, next_inside}
use Rattle.lock_free.proofs.pins.pass.Goals as goal

pub load-found-requires : goal.load-found-requires
load-found-requires c =
    let sizes = c.args.words.now.key in
    let slots = c.args.words.now.table_id.slots in
    let id = c.args.actor.now.id in
    let me = c.args.actor.now.me in (
      c.requires.table,
      subst (λ n. n < c.args.words.now.table_id.words) (sym c.pin_word_of.ensures) (next_inside c.args.words.now.table_id.words me.0 c.requires.sound (c.args.looked + 1) c.requires.few),
      subst (λ n. Allows (IsShadowed sizes) slots id me n (λ x. x) (has_passed (step slots n 0 0 none) me)) (sym c.pin_word_of.ensures)
          (pass_allowed sizes slots id me c.requires.sound.bounds.1 c.args.handle c.args.looked c.requires.low c.requires.closing),
    )

pub returns-clause-passed : goal.returns-clause-passed
returns-clause-passed c =
    subst (λ b. HasPassed c.args.actor.now.me.0 c.args.handle c.args.looked b c.load-found.new.seat.me.0)
    (sym (c.is_no_hindrance.ensures ∙ ap (λ p. is_out c.args.handle p || (c.args.looked + 1 == c.args.own)) c.of_word.ensures
    ∙ ap (λ n. is_out c.args.handle (pin_of c.load-found.result) || (c.args.looked + 1 == n)) (sym c.requires.its)))
    (c.load-found.ensures.2.0 c.args.handle c.args.looked c.requires.closing c.pin_word_of.ensures)

pub returns-clause-sound : goal.returns-clause-sound
returns-clause-sound c =
    pass_sound c.args.words.now.table_id.words c.args.actor.now.me.0 c.args.handle c.args.looked (is_passed c.args.actor.now.me.0 c.args.handle c.args.looked c.load-found.result)
    c.load-found.new.seat.me.0 (c.load-found.ensures.2.0 c.args.handle c.args.looked c.requires.closing c.pin_word_of.ensures) c.requires.sound

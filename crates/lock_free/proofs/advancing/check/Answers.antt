use Rattle.std.proofs.Common.{◌+◌, ◌<◌, ◌∙◌, ap, sym, subst}
use mathlib.Core.Option.{none}
use Rattle.atomic_table.specs.Table.{Allows, step}
use Rattle.trie_words.specs.Codes.{pin_of}
use Rattle.lock_free.specs.Epochs.{HasChecked, has_checked, is_in}
use Rattle.lock_free.specs.Places.{pin_word}
use Rattle.lock_free.specs.Shadows.{IsShadowed}
use Rattle.lock_free.proofs.EpochSteps.{check_allowed, checked_sound}
use Rattle.lock_free.proofs.PassStep.{next_inside}
use Rattle.lock_free.proofs.advancing.check.Goals as goal

pub load-found-requires : goal.load-found-requires
load-found-requires c =
    let sizes = c.args.words.now.key in
    let slots = c.args.words.now.table_id.slots in
    let id = c.args.actor.now.id in
    let me = c.args.actor.now.me in
    let word_is = c.pin_word_of.ensures ∙ ap (λ n. pin_word (n + 1)) (sym c.requires.next) in (
      c.requires.table,
      subst (λ n. n < c.args.words.now.table_id.words) (sym c.pin_word_of.ensures) (next_inside c.args.words.now.table_id.words me.0 c.requires.sound (c.args.passed + 1) c.requires.few),
      subst (λ n. Allows (IsShadowed sizes) slots id me n (λ x. x) (has_checked (step slots n 0 0 none) me)) (sym word_is) (check_allowed sizes slots id me c.requires.sound.bounds.1),
    )

pub returns-clause-checked : goal.returns-clause-checked
returns-clause-checked c =
    subst (λ b. HasChecked c.args.actor.now.me.0 b c.load-found.new.seat.me.0)
    (sym (c.is_in.ensures ∙ ap (is_in c.args.epoch) c.of_word.ensures ∙ ap (λ e. is_in e (pin_of c.load-found.result)) (sym c.requires.seen))) c.load-found.ensures.2.0

pub returns-clause-sound : goal.returns-clause-sound
returns-clause-sound c =
    checked_sound c.args.words.now.table_id.words c.args.actor.now.me.0 (is_in c.args.actor.now.me.0.epoch (pin_of c.load-found.result)) c.load-found.new.seat.me.0 c.load-found.ensures.2.0
    c.requires.sound

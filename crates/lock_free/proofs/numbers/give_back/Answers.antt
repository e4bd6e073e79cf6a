use Rattle.std.proofs.Common.{◌<◌, ap, sym, subst, None}
use mathlib.Core.Option.{none}
use Rattle.atomic_table.specs.Table.{Allows, step}
use Rattle.lock_free.specs.Loading.{IsSound}
use Rattle.lock_free.specs.Numbers.{has_given_back}
use Rattle.lock_free.specs.Shadows.{IsShadowed}
use Rattle.lock_free.proofs.NumberSteps.{give_back_allowed, opens_sound}
use Rattle.lock_free.proofs.SeenRoots.{root_inside}
use Rattle.lock_free.proofs.numbers.give_back.Goals as goal

pub store-requires : goal.store-requires
store-requires c =
    let sizes = c.args.words.now.key in
    let slots = c.args.words.now.table_id.slots in
    let id = c.args.actor.now.id in
    let me = c.args.actor.now.me in (
      c.requires.table,
      subst (λ n. n < c.args.words.now.table_id.words) (sym c.root_word_of.ensures) (root_inside c.args.words.now.table_id.words me.0 c.requires.sound c.args.number c.requires.low),
      subst (λ n. Allows (IsShadowed sizes) slots id me n (λ x. 0) (λ x. has_given_back (step slots n 0 0 none) me 0)) (sym c.root_word_of.ensures)
          (give_back_allowed sizes slots id me c.requires.sound.bounds.1 c.args.number c.requires.idle c.requires.reserved),
    )

pub returns-clause-sound : goal.returns-clause-sound
returns-clause-sound c =
    subst (λ v. IsSound c.args.words.now.table_id.words v) (sym (ap (λ me. me.0) c.store.ensures.2)) (opens_sound c.args.words.now.table_id.words c.args.actor.now.me.0 None None c.requires.sound)

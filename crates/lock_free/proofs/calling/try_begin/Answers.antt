use Rattle.std.proofs.Common.{◌<◌, ◌∙◌, ap, sym, subst}
use mathlib.Core.Option.{none}
use Rattle.atomic_table.specs.Table.{Allows, step}
use Rattle.lock_free.specs.Calling.{started_by, HasTriedToStart, has_started}
use Rattle.lock_free.specs.Loading.{IsSound}
use Rattle.lock_free.specs.Places.{root_word}
use Rattle.lock_free.specs.Shadows.{IsShadowed}
use Rattle.lock_free.proofs.BeginStep.{begin_step_allowed}
use Rattle.lock_free.proofs.SeenRoots.{root_inside}
use Rattle.lock_free.proofs.calling.try_begin.Goals as goal

pub load-found-requires : goal.load-found-requires
load-found-requires c =
    let sizes = c.args.words.now.key in
    let slots = c.args.words.now.table_id.slots in
    let id = c.args.actor.now.id in
    let me = c.args.actor.now.me in
    let call = c.args.call.now in
    let word_is = c.root_word_of.ensures ∙ ap root_word c.handle.ensures in (
      c.requires.table,
      subst (λ n. n < c.args.words.now.table_id.words) (sym word_is) (root_inside c.args.words.now.table_id.words me.0 c.requires.sound _ c.requires.low),
      subst (λ n. Allows (IsShadowed sizes) slots id me n (λ x. x) (has_started (step slots n 0 0 none) me)) (sym word_is)
          (begin_step_allowed sizes slots id me c.requires.sound.bounds.1 call c.requires.beginner c.requires.low c.key_fits.ensures),
    )

pub returns-clause-tried : goal.returns-clause-tried
returns-clause-tried c =
    let word_is = c.root_word_of.ensures ∙ ap root_word c.handle.ensures in
    subst (λ x. HasTriedToStart c.args.actor.now.me.0 c.args.call.now x c.load-found.new.seat.me.0) (sym (c.started_by.ensures ∙ ap (λ w. started_by w c.args.call.now) c.of_word.ensures))
    (c.load-found.ensures.2.0 c.args.call.now c.requires.beginner.asks word_is)

pub returns-clause-sound : goal.returns-clause-sound
returns-clause-sound c = subst (λ n. IsSound n c.load-found.new.seat.me.0) (sym c.requires.sound.size) c.load-found.ensures.2.1

use Rattle.std.proofs.Common.{◌==◌, ◌<◌, sym, subst}
use mathlib.Core.Option.{none}
use prog.Atomic.{either}
use Rattle.atomic_table.specs.Table.{Allows, step}
use Rattle.lock_free.specs.HandleWords.{has_closed}
use Rattle.lock_free.specs.Loading.{IsSound}
use Rattle.lock_free.specs.Places.{root_word}
use Rattle.lock_free.specs.Shadows.{IsShadowed}
use Rattle.lock_free.proofs.CloseStep.{close_allows}
use Rattle.lock_free.proofs.SeenRoots.{root_inside}
use Rattle.lock_free.proofs.handles.close.Goals as goal

pub compare_exchange-requires : goal.compare_exchange-requires
compare_exchange-requires c =
    let sizes = c.args.words.now.key in
    let slots = c.args.words.now.table_id.slots in
    let id = c.args.actor.now.id in
    let me = c.args.actor.now.me in (
      c.requires.table,
      subst (λ n. n < c.args.words.now.table_id.words) (sym c.root_word_of.ensures) (root_inside c.args.words.now.table_id.words me.0 c.requires.sound c.args.handle c.requires.low),
      subst (λ n. Allows (IsShadowed sizes) slots id me n (λ x. either (x == c.to_word-open.result) 0 x) (has_closed (step slots n c.to_word-open.result 0 none) me)) (sym c.root_word_of.ensures)
          (subst (λ n. Allows (IsShadowed sizes) slots id me (root_word c.args.handle) (λ x. either (x == n) 0 x) (has_closed (step slots (root_word c.args.handle) n 0 none) me))
          (sym c.to_word-open.ensures)
          (close_allows sizes slots id me c.requires.sound.bounds.1 c.args.handle c.args.looked c.requires.low c.requires.closing c.requires.all
          c.requires.outside c.requires.idle c.args.word c.requires.fits c.requires.marked)),
    )

pub returns-clause-closed : goal.returns-clause-closed
returns-clause-closed c = c.compare_exchange.ensures.2.0 c.args.handle c.args.looked c.args.word c.requires.closing c.requires.fits c.to_word-open.ensures

pub returns-clause-sound : goal.returns-clause-sound
returns-clause-sound c =
    subst (λ n. IsSound n c.compare_exchange.new.seat.me.0) (sym c.requires.sound.size)
    (c.compare_exchange.ensures.2.1 (subst (λ n. IsSound n c.args.actor.now.me.0) c.requires.sound.size c.requires.sound))

use Rattle.std.proofs.Common.{◌==◌, ◌<◌, ◌^◌, sym, subst, ap, ◌∙◌}
use mathlib.Core.Option.{none}
use prog.Atomic.{either}
use Rattle.atomic_table.specs.Table.{Allows, step}
use Rattle.trie_words.specs.Codes.{root_code}
use Rattle.lock_free.specs.HandleWords.{marked_by, has_marked}
use Rattle.lock_free.specs.Places.{root_word}
use Rattle.lock_free.specs.Shadows.{IsShadowed}
use Rattle.lock_free.proofs.MarkStep.{mark_allowed, mark_sound}
use Rattle.lock_free.proofs.SeenRoots.{root_inside}
use Rattle.lock_free.proofs.handles.mark.Goals as goal

pub compare_exchange-requires : goal.compare_exchange-requires
compare_exchange-requires c =
    let sizes = c.args.words.now.key in
    let slots = c.args.words.now.table_id.slots in
    let id = c.args.actor.now.id in
    let me = c.args.actor.now.me in
    let small = subst (λ n. n < 2 ^ 8) c.requires.own c.ranges.seat.fits in
    let open_is = c.to_word-open.ensures in
    let marked_is = c.to_word-marked.ensures ∙ ap root_code c.once_marked.ensures ∙ ap (λ n. root_code (marked_by n c.args.word)) c.requires.own in (
      c.requires.table,
      subst (λ n. n < c.args.words.now.table_id.words) (sym c.root_word_of.ensures) (root_inside c.args.words.now.table_id.words me.0 c.requires.sound c.args.handle c.requires.low),
      subst (λ n. Allows (IsShadowed sizes) slots id me n (λ x. either (x == c.to_word-open.result) c.to_word-marked.result x)
          (has_marked (step slots n c.to_word-open.result c.to_word-marked.result none) me))
          (sym c.root_word_of.ensures)
          (subst (λ n. Allows (IsShadowed sizes) slots id me (root_word c.args.handle) (λ x. either (x == n) c.to_word-marked.result x)
          (has_marked (step slots (root_word c.args.handle) n c.to_word-marked.result none) me))
          (sym open_is)
          (subst (λ n. Allows (IsShadowed sizes) slots id me (root_word c.args.handle) (λ x. either (x == root_code c.args.word) n x)
          (has_marked (step slots (root_word c.args.handle) (root_code c.args.word) n none) me))
          (sym marked_is) (mark_allowed sizes slots id me c.requires.sound.bounds.1 c.args.handle c.requires.low small c.args.word c.requires.fits c.requires.unmarked))),
    )

pub returns-clause-sound : goal.returns-clause-sound
returns-clause-sound c =
    mark_sound c.args.words.now.table_id.words c.args.actor.now.me.0 c.args.handle (c.compare_exchange.result == c.to_word-open.result) c.compare_exchange.new.seat.me.0
    (c.compare_exchange.ensures.2.0 c.args.handle c.root_word_of.ensures) c.requires.sound

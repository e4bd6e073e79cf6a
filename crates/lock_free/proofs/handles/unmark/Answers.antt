use Rattle.std.proofs.Common.{◌==◌, ◌<◌, ◌∙◌, ap, sym, subst}
use mathlib.Core.Option.{none}
use prog.Atomic.{either}
use Rattle.atomic_table.specs.Table.{Allows, step}
use Rattle.trie_words.specs.Codes.{root_code, IsRootWord}
use Rattle.lock_free.specs.HandleWords.{has_unmarked}
use Rattle.lock_free.specs.Places.{root_word}
use Rattle.lock_free.specs.Shadows.{IsShadowed}
use Rattle.lock_free.proofs.SeenRoots.{root_inside}
use Rattle.lock_free.proofs.UnmarkStep.{unmark_allowed, unmarked_fits}
use Rattle.lock_free.proofs.handles.unmark.Goals as goal

pub to_word-open-requires : goal.to_word-open-requires
to_word-open-requires c = subst IsRootWord (sym c.once_unmarked.ensures) (unmarked_fits c.args.word c.requires.fits c.requires.marked)

pub compare_exchange-requires : goal.compare_exchange-requires
compare_exchange-requires c =
    let sizes = c.args.words.now.key in
    let slots = c.args.words.now.table_id.slots in
    let id = c.args.actor.now.id in
    let me = c.args.actor.now.me in
    let open_is = c.to_word-open.ensures ∙ ap root_code c.once_unmarked.ensures in (
      c.requires.table,
      subst (λ n. n < c.args.words.now.table_id.words) (sym c.root_word_of.ensures) (root_inside c.args.words.now.table_id.words me.0 c.requires.sound c.args.handle c.requires.low),
      subst (λ n. Allows (IsShadowed sizes) slots id me n (λ x. either (x == c.to_word-marked.result) c.to_word-open.result x)
          (has_unmarked (step slots n c.to_word-marked.result c.to_word-open.result none) me))
          (sym c.root_word_of.ensures)
          (subst (λ n. Allows (IsShadowed sizes) slots id me (root_word c.args.handle) (λ x. either (x == n) c.to_word-open.result x)
          (has_unmarked (step slots (root_word c.args.handle) n c.to_word-open.result none) me))
          (sym c.to_word-marked.ensures)
          (subst (λ n. Allows (IsShadowed sizes) slots id me (root_word c.args.handle) (λ x. either (x == root_code c.args.word) n x)
          (has_unmarked (step slots (root_word c.args.handle) (root_code c.args.word) n none) me))
          (sym open_is) (unmark_allowed sizes slots id me c.requires.sound.bounds.1 c.args.handle c.requires.low c.args.word c.requires.fits c.requires.marked))),
    )

use Rattle.std.proofs.Common.{◌==◌, ◌<◌, sym, subst, arith}
use mathlib.Core.Option.{none}
use prog.Atomic.{either}
use Rattle.atomic_table.specs.Table.{Allows, step}
use Rattle.trie_words.specs.Codes.{root_code}
use Rattle.trie_words.specs.declared.roots.RootWord.TheVariants as word
use Rattle.lock_free.specs.Places.{root_word}
use Rattle.lock_free.specs.RootWords.{has_cleaned, settled_root}
use Rattle.lock_free.specs.Shadows.{IsShadowed}
use Rattle.lock_free.proofs.CleanStep.{clean_allowed, placed_small}
use Rattle.lock_free.proofs.SeenRoots.{root_inside}
use Rattle.lock_free.proofs.handles.clean.Goals as goal

pub to_word-offered-requires : goal.to_word-offered-requires
to_word-offered-requires c =
    let inside = c.requires.cleaning.its.inside in let range = c.requires.sound.range in omega (arith, inside, range)

pub to_word-plain-requires : goal.to_word-plain-requires
to_word-plain-requires c =
    let a = c.requires.cleaning in placed_small c.args.words.now.table_id.words c.args.actor.now.me.0 c.requires.sound (settled_root a.outcome a.its.its.offer) c.args.root a.place

pub compare_exchange-requires : goal.compare_exchange-requires
compare_exchange-requires c =
    let sizes = c.args.words.now.key in
    let slots = c.args.words.now.table_id.slots in
    let id = c.args.actor.now.id in
    let me = c.args.actor.now.me in (
      c.requires.table,
      subst (λ n. n < c.args.words.now.table_id.words) (sym c.root_word_of.ensures) (root_inside c.args.words.now.table_id.words me.0 c.requires.sound c.args.handle c.requires.low),
      subst (λ n. Allows (IsShadowed sizes) slots id me n (λ x. either (x == c.to_word-offered.result) c.to_word-plain.result x)
          (has_cleaned (step slots n c.to_word-offered.result c.to_word-plain.result none) me))
          (sym c.root_word_of.ensures)
          (subst (λ n. Allows (IsShadowed sizes) slots id me (root_word c.args.handle) (λ x. either (x == n) c.to_word-plain.result x)
          (has_cleaned (step slots (root_word c.args.handle) n c.to_word-plain.result none) me))
          (sym c.to_word-offered.ensures)
          (subst (λ n. Allows (IsShadowed sizes) slots id me (root_word c.args.handle) (λ x. either (x == root_code (word.Offered c.args.offer)) n x)
          (has_cleaned (step slots (root_word c.args.handle) (root_code (word.Offered c.args.offer)) n none) me))
          (sym c.to_word-plain.ensures) (clean_allowed sizes slots id me c.requires.sound.bounds.1 c.args.handle c.args.offer c.args.root c.requires.low c.requires.cleaning))),
    )

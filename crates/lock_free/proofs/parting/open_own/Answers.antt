use Rattle.std.proofs.Common.{◌==◌, ◌<◌, ap, sym, subst, arith}
use Rattle.lock_free.specs.Loading.{IsSound}
use mathlib.Core.Option.{none}
use prog.Atomic.{either}
use Rattle.atomic_table.specs.Table.{Allows, step}
use Rattle.trie_words.specs.Codes.{root_code}
use Rattle.trie_words.specs.declared.roots.RootWord.TheVariants as word
use Rattle.lock_free.specs.Places.{root_word}
use Rattle.lock_free.specs.OwnOffers.{has_opened_own}
use Rattle.lock_free.specs.Shadows.{IsShadowed}
use Rattle.lock_free.proofs.OpenStep.{opened_fits}
use Rattle.lock_free.proofs.OwnCleans.{open_own_allowed, opened_kind, unopening_sound}
use Rattle.lock_free.proofs.SeenRoots.{root_inside}
use Rattle.lock_free.proofs.parting.open_own.Goals as goal

pub to_word-opening-requires : goal.to_word-opening-requires
to_word-opening-requires c =
    let inside = c.requires.opening.0.its.inside in let range = c.requires.sound.range in omega (arith, inside, range)

pub to_word-plain-requires : goal.to_word-plain-requires
to_word-plain-requires c = opened_fits c.args.words.now.table_id.words c.args.actor.now.me.0 c.requires.sound c.args.handle c.args.offer c.args.opened c.requires.opening.0

pub compare_exchange-requires : goal.compare_exchange-requires
compare_exchange-requires c =
    let sizes = c.args.words.now.key in
    let slots = c.args.words.now.table_id.slots in
    let id = c.args.actor.now.id in
    let me = c.args.actor.now.me in (
      c.requires.table,
      subst (λ n. n < c.args.words.now.table_id.words) (sym c.root_word_of.ensures) (root_inside c.args.words.now.table_id.words me.0 c.requires.sound c.args.handle c.requires.low),
      subst (λ n. Allows (IsShadowed sizes) slots id me n (λ x. either (x == c.to_word-opening.result) c.to_word-plain.result x)
          (has_opened_own (step slots n c.to_word-opening.result c.to_word-plain.result none) me))
          (sym c.root_word_of.ensures)
          (subst (λ n. Allows (IsShadowed sizes) slots id me (root_word c.args.handle) (λ x. either (x == n) c.to_word-plain.result x)
          (has_opened_own (step slots (root_word c.args.handle) n c.to_word-plain.result none) me))
          (sym c.to_word-opening.ensures)
          (subst (λ n. Allows (IsShadowed sizes) slots id me (root_word c.args.handle) (λ x. either (x == root_code (word.Opening c.args.offer)) n x)
          (has_opened_own (step slots (root_word c.args.handle) (root_code (word.Opening c.args.offer)) n none) me))
          (sym c.to_word-plain.ensures) (open_own_allowed sizes slots id me c.requires.sound.bounds.1 c.args.handle c.args.offer c.args.opened c.requires.low
          (opened_fits c.args.words.now.table_id.words me.0 c.requires.sound c.args.handle c.args.offer c.args.opened c.requires.opening.0)
          (opened_kind me.0 c.args.handle c.args.offer c.args.opened c.requires.opening.0) c.requires.opening.0 c.requires.opening.1))),
    )

pub returns-clause-sound : goal.returns-clause-sound
returns-clause-sound c =
    subst (λ v. IsSound c.args.words.now.table_id.words v) (sym (ap (λ me. me.0) c.compare_exchange.ensures.2)) (unopening_sound c.args.words.now.table_id.words c.args.actor.now.me.0 c.requires.sound)

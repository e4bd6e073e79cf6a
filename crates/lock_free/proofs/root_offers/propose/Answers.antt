use Rattle.std.proofs.Common.{◌==◌, ◌<◌, sym, subst}
use mathlib.Core.Option.{none}
use prog.Atomic.{either}
use Rattle.atomic_table.specs.Table.{Allows, step}
use Rattle.trie_words.specs.Codes.{root_code}
use Rattle.trie_words.specs.declared.roots.RootWord.TheVariants as word
use Rattle.lock_free.specs.Places.{root_word}
use Rattle.lock_free.specs.RootOffers.{has_proposed}
use Rattle.lock_free.specs.Shadows.{IsShadowed}
use Rattle.lock_free.proofs.OfferStep.{offer_allowed, offer_fits}
use Rattle.lock_free.proofs.SeenRoots.{root_inside}
use Rattle.lock_free.proofs.root_offers.propose.Goals as goal

pub to_word-before-requires : goal.to_word-before-requires
to_word-before-requires c = (offer_fits c.args.words.now.table_id.words c.args.actor.now.me.0 c.args.handle c.args.root c.args.slot c.requires.sound c.requires.offering).0

pub to_word-offered-requires : goal.to_word-offered-requires
to_word-offered-requires c = (offer_fits c.args.words.now.table_id.words c.args.actor.now.me.0 c.args.handle c.args.root c.args.slot c.requires.sound c.requires.offering).1

pub compare_exchange-found-requires : goal.compare_exchange-found-requires
compare_exchange-found-requires c =
    let sizes = c.args.words.now.key in
    let slots = c.args.words.now.table_id.slots in
    let id = c.args.actor.now.id in
    let me = c.args.actor.now.me in (
      c.requires.table,
      subst (λ n. n < c.args.words.now.table_id.words) (sym c.root_word_of.ensures) (root_inside c.args.words.now.table_id.words me.0 c.requires.sound c.args.handle c.requires.low),
      subst (λ n. Allows (IsShadowed sizes) slots id me n (λ x. either (x == c.to_word-before.result) c.to_word-offered.result x)
          (has_proposed (step slots n c.to_word-before.result c.to_word-offered.result none) me))
          (sym c.root_word_of.ensures)
          (subst (λ n. Allows (IsShadowed sizes) slots id me (root_word c.args.handle) (λ x. either (x == n) c.to_word-offered.result x)
          (has_proposed (step slots (root_word c.args.handle) n c.to_word-offered.result none) me))
          (sym c.to_word-before.ensures)
          (subst (λ n. Allows (IsShadowed sizes) slots id me (root_word c.args.handle) (λ x. either (x == root_code (word.Writable c.args.root)) n x)
          (has_proposed (step slots (root_word c.args.handle) (root_code (word.Writable c.args.root)) n none) me))
          (sym c.to_word-offered.ensures) (offer_allowed sizes slots id me c.requires.sound.bounds.1 c.args.handle c.args.root c.args.slot c.requires.offering))),
    )

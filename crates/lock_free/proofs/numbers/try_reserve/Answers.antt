use Rattle.std.proofs.Common.{◌==◌, ◌<◌, sym, subst}
use mathlib.Core.Option.{none}
use prog.Atomic.{either}
use Rattle.atomic_table.specs.Table.{Allows, step}
use Rattle.trie_words.specs.Codes.{root_code}
use Rattle.trie_words.specs.declared.roots.RootWord.TheVariants as word
use Rattle.lock_free.specs.Numbers.{has_reserved}
use Rattle.lock_free.specs.Shadows.{IsShadowed}
use Rattle.lock_free.proofs.NumberSteps.{reserve_allowed, tried_sound}
use Rattle.lock_free.proofs.SeenRoots.{root_inside}
use Rattle.lock_free.proofs.numbers.try_reserve.Goals as goal

pub compare_exchange-requires : goal.compare_exchange-requires
compare_exchange-requires c =
    let sizes = c.args.words.now.key in
    let slots = c.args.words.now.table_id.slots in
    let id = c.args.actor.now.id in
    let me = c.args.actor.now.me in (
      c.requires.table,
      subst (λ n. n < c.args.words.now.table_id.words) (sym c.root_word_of.ensures) (root_inside c.args.words.now.table_id.words me.0 c.requires.sound c.args.number c.requires.low),
      subst (λ n. Allows (IsShadowed sizes) slots id me n (λ x. either (x == 0) (root_code word.Reserved) x) (has_reserved (step slots n 0 (root_code word.Reserved) none) me))
          (sym c.root_word_of.ensures)
          (reserve_allowed sizes slots id me c.requires.sound.bounds.1 c.args.number c.requires.low c.requires.idle c.requires.none),
    )

pub returns-clause-tried : goal.returns-clause-tried
returns-clause-tried c = c.compare_exchange.ensures.2.0 c.args.number c.root_word_of.ensures

pub returns-clause-sound : goal.returns-clause-sound
returns-clause-sound c =
    tried_sound c.args.words.now.table_id.words c.args.actor.now.me.0 c.args.number (c.compare_exchange.result == 0) c.compare_exchange.new.seat.me.0
    (c.compare_exchange.ensures.2.0 c.args.number c.root_word_of.ensures) c.requires.sound

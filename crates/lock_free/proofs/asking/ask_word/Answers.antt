use Rattle.std.proofs.Common.{◌<◌, sym, subst, ap, ◌∙◌}
use mathlib.Core.Option.{none}
use Rattle.atomic_table.specs.Table.{Allows, step}
use Rattle.trie_words.specs.Codes.{root_of}
use Rattle.lock_free.specs.Loading.{IsSound}
use Rattle.lock_free.specs.RootWords.{HasAskedRoot, LoadedAs, has_asked, named_by}
use Rattle.lock_free.specs.Shadows.{IsShadowed}
use Rattle.lock_free.proofs.RootAsked.{ask_allowed, ask_told, asks_low}
use Rattle.lock_free.proofs.SeenRoots.{root_inside}
use Rattle.lock_free.proofs.asking.ask_word.Goals as goal

pub load-found-requires : goal.load-found-requires
load-found-requires c =
    let sizes = c.args.words.now.key in
    let slots = c.args.words.now.table_id.slots in
    let id = c.args.actor.now.id in
    let me = c.args.actor.now.me in (
      c.requires.table,
      subst (λ n. n < c.args.words.now.table_id.words) (sym c.root_word_of.ensures)
          (root_inside c.args.words.now.table_id.words me.0 c.requires.sound c.args.handle (asks_low c.args.words.now.table_id.words me.0 c.requires.sound c.args.handle c.requires.asking)),
      subst (λ n. Allows (IsShadowed sizes) slots id me n (λ x. x) (has_asked (step slots n 0 0 none) me)) (sym c.root_word_of.ensures)
          (ask_allowed sizes slots id me c.requires.sound.bounds.1 c.args.handle c.requires.asking),
    )

pub returns-clause-asked : goal.returns-clause-asked
returns-clause-asked c =
    let v = c.args.actor.now.me.0 in
    let after = c.load-found.new.seat.me.0 in
    subst (λ n. HasAskedRoot v c.args.handle n after) (sym (c.named_of.ensures ∙ ap named_by c.of_word.ensures))
    (ask_told v c.args.handle (asks_low c.args.words.now.table_id.words v c.requires.sound c.args.handle c.requires.asking) c.requires.asking c.load-found.result after
    (subst (λ n. LoadedAs (named_by (root_of c.load-found.result)) v n c.load-found.result after) c.root_word_of.ensures c.load-found.ensures.2.0))

pub returns-clause-sound : goal.returns-clause-sound
returns-clause-sound c = subst (λ n. IsSound n c.load-found.new.seat.me.0) (sym c.requires.sound.size) c.load-found.ensures.2.1

pub root_word_of-requires : goal.root_word_of-requires
root_word_of-requires c = asks_low c.args.words.now.table_id.words c.args.actor.now.me.0 c.requires.sound c.args.handle c.requires.asking

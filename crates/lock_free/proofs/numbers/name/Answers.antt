use Rattle.std.proofs.Common.{◌<◌, ◌∙◌, ap, sym, subst, Some}
use mathlib.Core.Option.{none}
use Rattle.atomic_table.specs.Table.{Allows, step}
use Rattle.trie_words.specs.Codes.{root_of}
use Rattle.trie_words.specs.declared.roots.RootWord.TheVariants as word
use Rattle.lock_free.specs.Loading.{IsSound}
use Rattle.lock_free.specs.Numbers.{has_named}
use Rattle.lock_free.specs.Places.{root_word}
use Rattle.lock_free.specs.Shadows.{IsShadowed}
use Rattle.lock_free.proofs.NumberSteps.{name_allowed, opens_sound, slot_in_range}
use Rattle.lock_free.proofs.RootCodes.{root_back}
use Rattle.lock_free.proofs.SeenRoots.{root_inside}
use Rattle.lock_free.proofs.numbers.name.Goals as goal

pub to_word-named-requires : goal.to_word-named-requires
to_word-named-requires c = slot_in_range c.args.words.now.table_id.words c.args.actor.now.me.0 c.requires.sound c.args.slot c.requires.naming.free

pub store-requires : goal.store-requires
store-requires c =
    let sizes = c.args.words.now.key in
    let slots = c.args.words.now.table_id.slots in
    let id = c.args.actor.now.id in
    let me = c.args.actor.now.me in
    let fits = slot_in_range c.args.words.now.table_id.words me.0 c.requires.sound c.args.slot c.requires.naming.free in (
      c.requires.table,
      subst (λ n. n < c.args.words.now.table_id.words) (sym c.root_word_of.ensures) (root_inside c.args.words.now.table_id.words me.0 c.requires.sound c.args.number c.requires.low),
      subst (λ n. Allows (IsShadowed sizes) slots id me n (λ x. c.to_word-named.result) (λ x. has_named (step slots n c.to_word-named.result 0 none) me c.to_word-named.result))
          (sym c.root_word_of.ensures)
          (subst (λ y. Allows (IsShadowed sizes) slots id me (root_word c.args.number) (λ x. y) (λ x. has_named (step slots (root_word c.args.number) y 0 none) me y)) (sym c.to_word-named.ensures)
          (name_allowed sizes slots id me c.requires.sound.bounds.1 c.args.number c.args.slot c.requires.low c.requires.naming fits)),
    )

pub returns-clause-named : goal.returns-clause-named
returns-clause-named c =
    let fits = slot_in_range c.args.words.now.table_id.words c.args.actor.now.me.0 c.requires.sound c.args.slot c.requires.naming.free in
    c.store.ensures.2 c.args.slot (ap root_of c.to_word-named.ensures ∙ root_back (word.Opening c.args.slot) fits)

pub returns-clause-sound : goal.returns-clause-sound
returns-clause-sound c =
    let fits = slot_in_range c.args.words.now.table_id.words c.args.actor.now.me.0 c.requires.sound c.args.slot c.requires.naming.free in
    let v = c.args.actor.now.me.0 in
    subst (λ v. IsSound c.args.words.now.table_id.words v)
    (sym (ap (λ me. me.0) (c.store.ensures.2 c.args.slot (ap root_of c.to_word-named.ensures ∙ root_back (word.Opening c.args.slot) fits))))
    (opens_sound c.args.words.now.table_id.words v v.opens (Some c.args.slot) c.requires.sound)

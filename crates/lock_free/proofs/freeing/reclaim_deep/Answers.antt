use Rattle.std.proofs.Common.{◌∙◌, ap, sym, subst}
use Rattle.lock_free.specs.Freeing.{HasFreed}
use Rattle.lock_free.specs.Loading.{IsSound}
use Rattle.lock_free.specs.Places.{count_word}
use Rattle.lock_free.proofs.CountSteps.{count_in, count_is}
use Rattle.lock_free.proofs.FreeStep.{free_allowed}
use Rattle.lock_free.proofs.LinkSteps.{retired_word}
use Rattle.lock_free.proofs.freeing.reclaim_deep.Goals as goal

pub fetch_add-requires : goal.fetch_add-requires
fetch_add-requires c =
    let me = c.args.actor.now.me in
    let is = count_is me.0 c.args.sizes.now c.requires.sizes c.args.class c.args.slot c.count_word.result c.requires.class c.requires.slot c.count_word.ensures in
    let (x, there, class, name, late, deep) = c.requires.ripe in (
      c.requires.table,
      count_in c.args.words.now.table_id.words me.0 c.requires.sound c.count_word.result is,
      free_allowed c.args.words.now.key c.args.words.now.table_id.slots c.args.actor.now.id me c.requires.sound.bounds.1 (subst (λ n. IsSound n me.0) c.requires.sound.size c.requires.sound)
          c.requires.running x there late deep c.count_word.result
          (sym (retired_word me.0 c.args.sizes.now c.requires.sizes x c.args.class c.args.slot class name c.count_word.result c.count_word.ensures)),
    )

pub returns-clause-sound : goal.returns-clause-sound
returns-clause-sound c = subst (λ n. IsSound n c.fetch_add.new.seat.me.0) (sym c.requires.sound.size) c.fetch_add.ensures.2.1

pub returns-clause-freed : goal.returns-clause-freed
returns-clause-freed c =
    let word = c.count_word.ensures ∙ ap (λ z. count_word z c.args.class c.args.slot) (sym c.requires.sizes) in
    subst (λ n. HasFreed c.args.actor.now.me.0 c.args.class c.args.slot n c.fetch_add.new.seat.me.0) (sym c.link_in.ensures)
    (c.fetch_add.ensures.2.0 c.args.class c.args.slot c.requires.ripe word)

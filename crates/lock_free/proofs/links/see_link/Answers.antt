use Rattle.std.proofs.Common.{sym, ap, subst, ◌∙◌}
use Rattle.lock_free.specs.Linking.{linking}
use Rattle.lock_free.specs.Links.{link_in}
use Rattle.lock_free.specs.Loading.{IsSound}
use Rattle.lock_free.specs.Places.{count_word}
use Rattle.lock_free.proofs.CountSteps.{count_in, count_is}
use Rattle.lock_free.proofs.LinkSteps.{linking_sound, retired_word, see_link_allowed}
use Rattle.lock_free.proofs.links.see_link.Goals as goal

pub load-requires : goal.load-requires
load-requires c =
    let me = c.args.actor.now.me in
    let is = count_is me.0 c.args.sizes.now c.requires.sizes c.args.class c.args.slot c.count_word.result c.requires.class c.requires.slot c.count_word.ensures in
    let (x, there, class, name) = c.requires.retired in (
      c.requires.table,
      count_in c.args.words.now.table_id.words me.0 c.requires.sound c.count_word.result is,
      see_link_allowed c.args.words.now.key c.args.words.now.table_id.slots c.args.actor.now.id me c.requires.sound.bounds.1 c.count_word.result is x there
          (retired_word me.0 c.args.sizes.now c.requires.sizes x c.args.class c.args.slot class name c.count_word.result c.count_word.ensures),
    )

pub returns-clause-sound : goal.returns-clause-sound
returns-clause-sound c =
    let n = c.args.words.now.table_id.words in
    subst (λ (me : _). IsSound n me.0) (sym c.load.ensures.2) (linking_sound n c.args.actor.now.me.0 c.count_word.result _ c.requires.sound)

pub returns-clause-seen : goal.returns-clause-seen
returns-clause-seen c =
    let v = c.args.actor.now.me.0 in
    ap (λ (me : _). me.0) c.load.ensures.2 ∙ ap (λ n. linking v n (link_in c.load.result)) c.count_word.ensures
    ∙ ap (linking v (count_word c.args.sizes.now c.args.class c.args.slot)) (sym c.link_in.ensures)

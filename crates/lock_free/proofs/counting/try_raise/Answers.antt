use Rattle.std.proofs.Common.{◌∙◌, ◌∷◌, sym, ap, subst, arith}
use Rattle.lock_free.specs.Loading.{IsSound}
use Rattle.lock_free.specs.Places.{count_word}
use Rattle.lock_free.proofs.CountSteps.{count_in, count_is, held_sound, raise_by}
use Rattle.lock_free.proofs.counting.try_raise.Goals as goal

pub compare_exchange-requires : goal.compare_exchange-requires
compare_exchange-requires c =
    let me = c.args.actor.now.me in
    let (k, hand) = c.requires.at_hand in
    let is = count_is me.0 c.args.sizes.now c.requires.sizes c.args.class c.args.slot c.count_word-word.result c.requires.class c.requires.slot c.count_word-word.ensures in (
      c.requires.table,
      count_in c.args.words.now.table_id.words me.0 c.requires.sound c.count_word-word.result is,
      raise_by c.args.words.now.key c.args.words.now.table_id.slots c.args.actor.now.id me c.requires.sound.bounds.1 k c.args.class c.args.slot hand c.count_word-word.result
          (c.count_word-word.ensures ∙ ap (λ z. count_word z c.args.class c.args.slot) (sym c.requires.sizes)) c.peek-count.result c.peek-count.type_inv (omega (arith, c.if-extra-ge-FULL.false)),
    )

-- another seat was before it
pub returns-then-compare_exchange-count-clause-sound : goal.returns-then-compare_exchange-count-clause-sound
returns-then-compare_exchange-count-clause-sound c =
    let n = c.args.words.now.table_id.words in
    let (k, hand) = c.requires.at_hand in
    let is = c.count_word-word.ensures ∙ ap (λ z. count_word z c.args.class c.args.slot) (sym c.requires.sizes) in
    subst (λ (me : _). IsSound n me.0) (sym ((c.compare_exchange.ensures.2 k c.args.class c.args.slot hand is).1 c.if-compare_exchange-count.true)) c.requires.sound

pub returns-then-compare_exchange-count-clause-raised : goal.returns-then-compare_exchange-count-clause-raised
returns-then-compare_exchange-count-clause-raised c k hand =
    let is = c.count_word-word.ensures ∙ ap (λ z. count_word z c.args.class c.args.slot) (sym c.requires.sizes) in
    ap (λ (me : _). me.0) ((c.compare_exchange.ensures.2 k c.args.class c.args.slot hand is).1 c.if-compare_exchange-count.true)

-- it is counted
pub returns-clause-sound : goal.returns-clause-sound
returns-clause-sound c =
    let n = c.args.words.now.table_id.words in
    let v = c.args.actor.now.me.0 in
    let (k, hand) = c.requires.at_hand in
    let is = c.count_word-word.ensures ∙ ap (λ z. count_word z c.args.class c.args.slot) (sym c.requires.sizes) in
    subst (λ (me : _). IsSound n me.0) (sym ((c.compare_exchange.ensures.2 k c.args.class c.args.slot hand is).0 c.if-compare_exchange-count.false)) (held_sound n v (k ∷ v.owed) c.requires.sound)

pub returns-clause-raised : goal.returns-clause-raised
returns-clause-raised c k hand =
    let is = c.count_word-word.ensures ∙ ap (λ z. count_word z c.args.class c.args.slot) (sym c.requires.sizes) in
    ap (λ (me : _). me.0) ((c.compare_exchange.ensures.2 k c.args.class c.args.slot hand is).0 c.if-compare_exchange-count.false)

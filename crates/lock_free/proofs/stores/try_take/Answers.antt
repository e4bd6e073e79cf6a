use Rattle.std.proofs.Common.{◌+◌, ◌*◌, ◌<◌, ◌==◌, sym, ap, subst, arith, ◌∙◌}
use mathlib.Core.Option.{none}
use prog.Atomic.{either}
use Rattle.atomic_table.specs.Table.{Allows, step}
use Rattle.lock_free.specs.Loading.{IsSound}
use Rattle.lock_free.specs.Places.{part_of, slots_in, stride}
use Rattle.lock_free.specs.Shadows.{IsShadowed}
use Rattle.lock_free.specs.Storing.{has_taken}
use Rattle.lock_free.proofs.OwnSlots.{take_allowed, taken_sound}
use Rattle.lock_free.proofs.stores.try_take.Goals as goal

pub compare_exchange-requires : goal.compare_exchange-requires
compare_exchange-requires c =
    let few = subst (λ n. c.peek-count.result < n) (c.from.ensures ∙ c.slots.ensures ∙ ap (λ z. slots_in z c.args.class) (sym c.requires.sizes)) c.if-count-from.false in
    let size = c.requires.sound.size in
    let class = c.requires.class in
    let word = c.taken_word_of-word.ensures in
    let me = c.args.actor.now.me in (
      c.requires.table,
      omega (arith, size, class, word),
      subst (λ w. Allows (IsShadowed c.args.words.now.key) c.args.words.now.table_id.slots c.args.actor.now.id me w (λ n. either (n == c.peek-count.result) (c.peek-count.result + 1) n)
          (has_taken (step c.args.words.now.table_id.slots w c.peek-count.result (c.peek-count.result + 1) none) me)) (sym word)
          (take_allowed c.args.words.now.key c.args.words.now.table_id.slots c.args.actor.now.id me c.args.class c.requires.class c.peek-count.result few c.requires.sound.bounds.1),
    )

pub returns-clause-sound : goal.returns-clause-sound
returns-clause-sound c =
    let v = c.args.actor.now.me.0 in
    let n = c.args.words.now.table_id.words in
    let few = subst (λ n. c.peek-count.result < n) (c.from.ensures ∙ c.slots.ensures ∙ ap (λ z. slots_in z c.args.class) (sym c.requires.sizes)) c.if-count-from.false in
    let slot = c.slot.ensures ∙ ap (λ z. part_of z c.args.class + stride c.args.class * c.peek-count.result) (sym c.requires.sizes) in
    let found = c.if-compare_exchange-count.false in
    let is = c.compare_exchange.ensures.2.0 found c.args.class c.slot.result c.requires.class c.taken_word_of-word.ensures
    (slot ∙ ap (λ m. part_of v.sizes c.args.class + stride c.args.class * m) (sym found)) in
    subst (λ w. IsSound n w) (sym (ap (λ me. me.0) is)) (taken_sound n v c.args.class c.peek-count.result c.slot.result c.requires.class few slot c.requires.sound)

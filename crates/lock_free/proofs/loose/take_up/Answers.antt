use Rattle.std.proofs.Common.{◌≤◌, ◌==◌, sym, ap, subst, ◌∙◌, arith}
use mathlib.Core.Option.{none}
use prog.Atomic.{either}
use Rattle.atomic_table.specs.Table.{Allows, step}
use Rattle.lock_free.specs.Cells.{loose_link}
use Rattle.lock_free.specs.CellWords.{has_taken_up}
use Rattle.lock_free.specs.Links.{link_in, with_link}
use Rattle.lock_free.specs.Loading.{IsSound}
use Rattle.lock_free.specs.Places.{count_word, IsSlot}
use Rattle.lock_free.specs.Shadows.{IsShadowed}
use Rattle.lock_free.proofs.Aside.CellSteps.{fetch_sound}
use Rattle.lock_free.proofs.Aside.LooseSteps.{take_up_allowed}
use Rattle.lock_free.proofs.CountSteps.{count_in, count_is}
use Rattle.lock_free.proofs.loose.take_up.Goals as goal

pub compare_exchange-requires : goal.compare_exchange-requires
compare_exchange-requires c =
    let me = c.args.actor.now.me in
    let word = c.count_word-word.ensures ∙ ap (λ z. count_word z c.args.class c.args.slot) (sym c.requires.sizes) in
    let slot = subst (λ z. IsSlot z c.args.class c.args.slot) (sym c.requires.sizes) c.requires.slot in
    let above = c.if-link-lt-LOOSE.false in
    let link = c.link_in-link.ensures in
    let was : loose_link ≤ link_in c.peek-count.result = omega (arith, above, link) in (
      c.requires.table,
      count_in c.args.words.now.table_id.words me.0 c.requires.sound c.count_word-word.result
          (count_is me.0 c.args.sizes.now c.requires.sizes c.args.class c.args.slot c.count_word-word.result c.requires.class c.requires.slot c.count_word-word.ensures),
      subst (λ x. Allows (IsShadowed c.args.words.now.key) c.args.words.now.table_id.slots c.args.actor.now.id me c.count_word-word.result (λ n. either (n == c.peek-count.result) x n)
          (has_taken_up (step c.args.words.now.table_id.slots c.count_word-word.result c.peek-count.result x none) me)) (sym c.with_link.ensures)
          (subst (λ i. Allows (IsShadowed c.args.words.now.key) c.args.words.now.table_id.slots c.args.actor.now.id me i (λ n. either (n == c.peek-count.result) (with_link c.peek-count.result 0) n)
          (has_taken_up (step c.args.words.now.table_id.slots i c.peek-count.result (with_link c.peek-count.result 0) none) me)) (sym word)
          (take_up_allowed c.args.words.now.key c.args.words.now.table_id.slots c.args.actor.now.id me c.requires.sound.bounds.1 c.args.class c.requires.class c.args.slot slot c.peek-count.result 0
          (omega arith) was (omega arith))),
    )

pub returns-clause-sound : goal.returns-clause-sound
returns-clause-sound c =
    let word = c.count_word-word.ensures ∙ ap (λ z. count_word z c.args.class c.args.slot) (sym c.requires.sizes) in
    let slot = subst (λ z. IsSlot z c.args.class c.args.slot) (sym c.requires.sizes) c.requires.slot in
    let its = c.compare_exchange.ensures.2.0 c.if-compare_exchange-count.false c.args.class c.args.slot c.requires.class slot word in
    subst (λ w. IsSound c.args.words.now.table_id.words w) (sym (ap (λ me. me.0) its))
    (fetch_sound c.args.words.now.table_id.words c.args.actor.now.me.0 c.args.class c.args.slot c.requires.class slot c.requires.sound)

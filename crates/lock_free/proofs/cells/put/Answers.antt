use Rattle.std.proofs.Common.{◌≡◌, ◌+◌, ◌*◌, ◌^◌, ◌<◌, ◌==◌, ◌++◌, ◌∷◌, [], ℕ, sym, ap, subst, ◌∙◌, arith}
use mathlib.Core.Option.{none}
use prog.Atomic.{either}
use Rattle.atomic_table.specs.Table.{Allows, step}
use Rattle.lock_free.specs.CellWords.{has_put}
use Rattle.lock_free.specs.Cells.{IsCell}
use Rattle.lock_free.specs.Links.{link_in}
use Rattle.lock_free.specs.Loading.{IsSound}
use Rattle.lock_free.specs.Places.{cell_word}
use Rattle.lock_free.specs.Shadows.{IsShadowed}
use Rattle.lock_free.proofs.Aside.CellSteps.{cell_inside, put_allowed, put_sound}
use Rattle.lock_free.proofs.cells.put.Goals as goal

abbrev both : ℕ → ℕ → ℕ
both next slot = 2 ^ 32 * next + slot

-- the low half is the slot
low_half : (n m slot : ℕ) → slot < 2 ^ 32 → m ≡ slot → link_in (both n m) ≡ slot
low_half n m slot fits is = omega (arith, fits, is)

pub compare_exchange-requires : goal.compare_exchange-requires
compare_exchange-requires c =
    let me = c.args.actor.now.me in
    let word = c.cell_word-cell.ensures ∙ ap (λ z. cell_word z c.args.class c.args.number) (sym c.requires.sizes) in
    let names = low_half c.from.result c.from-2.result c.args.slot c.ranges.slot.fits c.from-2.ensures in
    let stored = both c.from.result c.from-2.result in
    let cell : IsCell c.args.class c.args.number = (c.requires.class, c.requires.number) in (
      c.requires.table,
      subst (λ i. i < c.args.words.now.table_id.words) (sym word) (cell_inside c.args.words.now.table_id.words me.0 c.requires.sound c.args.class c.args.number cell),
      subst (λ i. Allows (IsShadowed c.args.words.now.key) c.args.words.now.table_id.slots c.args.actor.now.id me i (λ n. either (n == 0) stored n)
          (has_put (step c.args.words.now.table_id.slots i 0 stored none) me)) (sym word)
          (put_allowed c.args.words.now.key c.args.words.now.table_id.slots c.args.actor.now.id me c.args.class c.args.number cell c.requires.last.0 c.args.slot c.requires.last.1
          c.requires.unopened stored names c.requires.sound.bounds.1),
    )

pub returns-clause-sound : goal.returns-clause-sound
returns-clause-sound c =
    let v = c.args.actor.now.me.0 in
    let word = c.cell_word-cell.ensures ∙ ap (λ z. cell_word z c.args.class c.args.number) (sym c.requires.sizes) in
    let names = low_half c.from.result c.from-2.result c.args.slot c.ranges.slot.fits c.from-2.ensures in
    let pool = c.requires.last.1 ∙ ap (λ n. c.requires.last.0 ++ n ∷ []) (sym names) in
    let is = c.compare_exchange.ensures.2.0 c.if-compare_exchange-ne0.false c.args.class c.args.number c.requires.last.0 (c.requires.class, c.requires.number) word pool in
    subst (λ w. IsSound c.args.words.now.table_id.words w) (sym (ap (λ me. me.0) is))
    (put_sound c.args.words.now.table_id.words v c.args.class c.requires.last.0 c.args.slot c.requires.class c.requires.last.1 c.requires.sound)

pub returns-clause-put : goal.returns-clause-put
returns-clause-put c =
    let word = c.cell_word-cell.ensures ∙ ap (λ z. cell_word z c.args.class c.args.number) (sym c.requires.sizes) in
    let names = low_half c.from.result c.from-2.result c.args.slot c.ranges.slot.fits c.from-2.ensures in
    let pool = c.requires.last.1 ∙ ap (λ n. c.requires.last.0 ++ n ∷ []) (sym names) in
    let is = c.compare_exchange.ensures.2.0 c.if-compare_exchange-ne0.false c.args.class c.args.number c.requires.last.0 (c.requires.class, c.requires.number) word pool in
    (c.requires.last.0, c.args.slot, c.requires.last.1, ap (λ me. me.0) is)

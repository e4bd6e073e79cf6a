use Rattle.std.proofs.Common.{◌≢◌, ◌<◌, ◌==◌, sym, ap, subst, ◌∙◌}
use mathlib.Core.Option.{none}
use prog.Atomic.{either}
use Rattle.atomic_table.specs.Table.{Allows, step}
use Rattle.lock_free.specs.CellWords.{has_fetched}
use Rattle.lock_free.specs.Cells.{IsCell}
use Rattle.lock_free.specs.Links.{link_in}
use Rattle.lock_free.specs.Loading.{IsSound}
use Rattle.lock_free.specs.Places.{cell_word}
use Rattle.lock_free.specs.Shadows.{IsShadowed}
use Rattle.lock_free.specs.Storing.{with_free}
use Rattle.lock_free.proofs.Aside.CellSteps.{cell_inside, fetch_allowed, fetch_sound}
use Rattle.lock_free.proofs.cells.fetch.Goals as goal

pub compare_exchange-requires : goal.compare_exchange-requires
compare_exchange-requires c =
    let me = c.args.actor.now.me in
    let word = c.cell_word-cell.ensures ∙ ap (λ z. cell_word z c.args.class c.args.number) (sym c.requires.sizes) in
    let some_name : link_in c.peek-stored.result ≢ 0 = λ none. c.if-slot-eq0.false (c.link_in-slot.ensures ∙ none) in
    let cell : IsCell c.args.class c.args.number = (c.requires.class, c.requires.number) in (
      c.requires.table,
      subst (λ i. i < c.args.words.now.table_id.words) (sym word) (cell_inside c.args.words.now.table_id.words me.0 c.requires.sound c.args.class c.args.number cell),
      subst (λ i. Allows (IsShadowed c.args.words.now.key) c.args.words.now.table_id.slots c.args.actor.now.id me i (λ n. either (n == c.peek-stored.result) 0 n)
          (has_fetched (step c.args.words.now.table_id.slots i c.peek-stored.result 0 none) me)) (sym word)
          (fetch_allowed c.args.words.now.key c.args.words.now.table_id.slots c.args.actor.now.id me c.args.class c.args.number cell c.peek-stored.result some_name
          c.requires.sound.bounds.1),
    )

pub returns-clause-sound : goal.returns-clause-sound
returns-clause-sound c =
    let word = c.cell_word-cell.ensures ∙ ap (λ z. cell_word z c.args.class c.args.number) (sym c.requires.sizes) in
    let its = c.compare_exchange.ensures.2.0 c.if-compare_exchange-stored.false c.args.class c.args.number (c.requires.class, c.requires.number) word in
    subst (λ w. IsSound c.args.words.now.table_id.words w) (sym (ap (λ me. me.0) its.1))
    (fetch_sound c.args.words.now.table_id.words c.args.actor.now.me.0 c.args.class (link_in c.compare_exchange.result) c.requires.class its.0 c.requires.sound)

pub returns-clause-fetched : goal.returns-clause-fetched
returns-clause-fetched c =
    let word = c.cell_word-cell.ensures ∙ ap (λ z. cell_word z c.args.class c.args.number) (sym c.requires.sizes) in
    let found = c.if-compare_exchange-stored.false in
    let its = c.compare_exchange.ensures.2.0 found c.args.class c.args.number (c.requires.class, c.requires.number) word in
    ap (λ me. me.0) its.1 ∙ ap (with_free c.args.actor.now.me.0 c.args.class) (ap link_in found ∙ sym c.link_in-slot.ensures)

-- The event may come exactly where the row is there and has no end yet.
use Rattle.std.proofs.Common.{◌≡◌, length, slice_get, Some, refl, sym, ◌∙◌, arith}
use Rattle.std.proofs.lemmas.Option.{slice_get_past, slice_get_read}
use Rattle.history.proofs.Places.{option_tested, option_untested}
use Rattle.history.proofs.Noting.{end_noted, not_begun, not_again}
use Rattle.history.proofs.tables.Table.note_end.Goals as goal

pub returns-in_default : goal.returns-in_default
returns-in_default c = λ history answer known last may.
    let rows = c.args.self.now.rows.items in
    let past = slice_get_past rows c.args.id (c.in_default.ensures.item.3) in
    not_begun history rows c.args.self.now.running c.args.id answer known past may

pub returns-then-is_some : goal.returns-then-is_some
returns-then-is_some c = λ history answer known last may.
    let rows = c.args.self.now.rows.items in
    let row = c.in-Some.row.now in
    let here : slice_get rows c.args.id ≡ Some row = slice_get_read rows (length rows) c.args.id row refl
    (let below = c.in-Some.ensures.variant.0 refl in omega (arith, c.args.self.now.rows.ok.0)) c.in-Some.ensures.value in
    let end = option_tested row.end (sym c.is_some.ensures ∙ c.if-is_some.true) in
    not_again history rows c.args.self.now.running c.args.id end.0 row answer known here end.1 may

pub returns : goal.returns
returns c = λ history answer known last.
    let rows = c.args.self.now.rows.items in
    let row = c.in-Some.row.now in
    let here : slice_get rows c.args.id ≡ Some row = slice_get_read rows (length rows) c.args.id row refl
    (let below = c.in-Some.ensures.variant.0 refl in omega (arith, c.args.self.now.rows.ok.0)) c.in-Some.ensures.value in
    let no_end = option_untested row.end (sym c.is_some.ensures ∙ c.if-is_some.false) in
    end_noted history rows c.args.self.now.running c.args.id answer row c.args.place known last here no_end

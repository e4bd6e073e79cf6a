-- An operation that ended, and has no mark.
use Rattle.std.proofs.Common.{◌≡◌, Bool, Some, false, slice_get, sym, ap, ◌∙◌, arith}
use Rattle.std.proofs.lemmas.Option.{slice_get-get_or}
use Rattle.order_search.specs.Vocabulary.{Row}
use Rattle.history.proofs.Places.{option_tested}
use Rattle.order_search.specs.Marks.{HasNoMark}
use Rattle.order_search.proofs.Turns.{lacks_at}
use Rattle.order_search.proofs.choosing.lacks_answered.Goals as goal

pub returns-then-is_some : goal.returns-then-is_some
returns-then-is_some c = λ is history known.
    let sizes = c.requires in
    let rows = c.args.table.now.rows.items in
    let row = c.index.result.now in
    let at : slice_get rows c.loop-id.id ≡ Some row = slice_get-get_or rows c.loop-id.id row (omega arith) ∙ ap (λ (r : Row). Some r) (sym c.index.ensures) in
    let none : HasNoMark c.args.taken.now c.loop-id.id = slice_get-get_or c.args.taken.now c.loop-id.id false (omega arith) ∙ ap (λ (b : Bool). Some b) c.if-not-taken-id.true in
    let end = option_tested row.end (sym c.is_some.ensures ∙ c.if-is_some.true) in
    lacks_at history c.args.table.now c.args.taken.now c.loop-id.id end.0 row known at none end.1

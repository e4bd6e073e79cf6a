-- What the scan finds, or where it stops.
use Rattle.std.proofs.Common.{◌≡◌, Bool, Some, false, slice_get, sym, ap, ◌∙◌, arith}
use Rattle.std.proofs.lemmas.Bool.{false≢true}
use Rattle.std.proofs.lemmas.Option.{slice_get-get_or}
use Rattle.order_search.specs.Vocabulary.{Row}
use Rattle.order_search.specs.Marks.{HasMark, HasNoMark}
use Rattle.order_search.proofs.Turns.{scan_starts, scan_marked, scan_passed, scan_stops, scan_ends, scan_finds}
use Rattle.order_search.proofs.choosing.choose.Goals as goal

pub loop-id-init : goal.loop-id-init
loop-id-init c = scan_starts c.args.table.now.rows.items c.args.taken.now c.args.from c.args.low c.requires.low

pub returns-then-is_before : goal.returns-then-is_before
returns-then-is_before c = λ history known.
    let rows = c.args.table.now.rows.items in
    let row = c.index-row.result.now in
    let at : slice_get rows c.loop-id.id ≡ Some row = slice_get-get_or rows c.loop-id.id row (omega arith) ∙ ap (λ (r : Row). Some r) (sym c.index-row.ensures) in
    let before = c.is_before.ensures.yes c.if-is_before.true in
    scan_stops history c.args.table.now c.args.taken.now c.args.from c.loop-id.id before.0 c.loop-id.first_end row known c.requires.size c.loop-id.invariant before.1 at before.2

pub loop-id-preserved-then-taken-id : goal.loop-id-preserved-then-taken-id
loop-id-preserved-then-taken-id c =
    let sizes = c.requires.size in
    let mark : HasMark c.args.taken.now c.loop-id.id = slice_get-get_or c.args.taken.now c.loop-id.id false (omega arith) ∙ ap (λ (b : Bool). Some b) c.if-taken-id.true in
    scan_marked c.args.table.now.rows.items c.args.taken.now c.args.from c.loop-id.id c.loop-id.first_end c.loop-id.invariant mark

pub returns-then-from-id : goal.returns-then-from-id
returns-then-from-id c = λ history known.
    let sizes = c.requires.size in
    let rows = c.args.table.now.rows.items in
    let row = c.index-row.result.now in
    let at : slice_get rows c.loop-id.id ≡ Some row = slice_get-get_or rows c.loop-id.id row (omega arith) ∙ ap (λ (r : Row). Some r) (sym c.index-row.ensures) in
    let none : HasNoMark c.args.taken.now c.loop-id.id = slice_get-get_or c.args.taken.now c.loop-id.id false (omega arith) ∙ ap (λ (b : Bool). Some b) c.if-taken-id.false in
    scan_finds history c.args.table.now c.args.taken.now c.args.from c.loop-id.id c.loop-id.first_end row known sizes c.loop-id.invariant at none (omega arith)
    (λ place is lt. false≢true (sym c.if-is_before.false ∙ c.is_before.ensures.no place is lt))

pub loop-id-preserved : goal.loop-id-preserved
loop-id-preserved c =
    let sizes = c.requires.size in
    let rows = c.args.table.now.rows.items in
    let row = c.index-row.result.now in
    let at : slice_get rows c.loop-id.id ≡ Some row = slice_get-get_or rows c.loop-id.id row (omega arith) ∙ ap (λ (r : Row). Some r) (sym c.index-row.ensures) in
    let none : HasNoMark c.args.taken.now c.loop-id.id = slice_get-get_or c.args.taken.now c.loop-id.id false (omega arith) ∙ ap (λ (b : Bool). Some b) c.if-taken-id.false in
    scan_passed rows c.args.taken.now c.args.from c.loop-id.id c.loop-id.first_end _ row c.loop-id.invariant at none (omega arith) c.earlier-first_end.ensures

pub returns : goal.returns
returns c = λ history known.
    let sizes = c.requires.size in
    scan_ends history c.args.table.now.rows.items c.args.taken.now c.args.from c.loop-id.id c.loop-id.first_end c.loop-id.invariant (omega arith)

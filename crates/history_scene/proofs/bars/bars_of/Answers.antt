-- One bar more.
use Rattle.std.proofs.Common.{◌≡◌, ◌<◌, ◌∷◌, [], Option, Some, None, length, get_or, slice_get, refl, sym, ap, arith, subst, length-append}
use Rattle.std.specs.Option.{option_copied}
use Rattle.std.proofs.lemmas.Option.{slice_get-get_or, slice_get_read}
use Rattle.history.specs.declared.calls.Call.TheVariants.{Get}
use Rattle.history.specs.declared.tables.Row.{Row}
use Rattle.history.specs.Histories.{HasBegun}
use Rattle.history.specs.Tables.{operation_of}
use Rattle.history_scene.specs.declared.scenes.Stand.{Stand}
use Rattle.history_scene.specs.Stands.{IsStand}
use Rattle.history_scene.proofs.Drawn.{stand_is, bars_more}
use Rattle.history_scene.proofs.bars.bars_of.Goals as goal

pub loop-id-preserved : goal.loop-id-preserved
loop-id-preserved c =
    let history = c.args.events.now in
    let order = c.args.order.now in
    let n = c.loop-id.id in
    let so_far = c.loop-id.invariant in
    let rows = c.args.table.now.rows.items in
    let nothing : Row = record { actor = 0; call = Get 0 0; opens = None; begin = 0; end = None } in
    let all = c.deref-row-items.ensures.value in
    let below = c.loop-id-test.true in
    let found = slice_get-get_or c.deref-row-items.result.now n nothing below in
    let sizes = ap length all in
    let place_sizes = c.in_ok-places.ensures.size in
    let late_size = c.in_ok-late.ensures.size in
    let within : n < length c.in_ok-places.places.items = omega (arith, c.in_ok-places.places.ok.0, c.args.table.now.rows.ok.0) in
    let placed = slice_get_read c.in_ok-places.places.items (length c.in_ok-places.places.items) n c.index.result.now refl within c.index.ensures in
    let size : length c.in_ok-late.late.items ≡ length order = omega (arith, c.in_ok-late.late.ok.0) in
    let row : Row = get_or rows n nothing in
    let here : slice_get rows n ≡ Some row = rw all at found in
    let bar = rw all at c.in_ok-bar_of.ensures.bar order in
    let lane = rw all at c.lane_in-lane.ensures history c.requires.lanes in
    let stands = rw (all, c.deref.ensures.value) at c.stand_of-stand.ensures in
    let is = c.requires.records.row_of n row here in
    let begun : HasBegun history n = (row.begin, operation_of row, is.begins) in
    let stand = stand_is history order n row.end c.index.result.now c.in_ok-late.late.items begun
    (c.in_ok-places.ensures.placed history c.requires.records n c.index.result.now placed) c.in_ok-late.ensures.late size in
    let S : Option Stand → Type 0 = λ o. IsStand history order n row.end o in
    let new = bar is lane (subst S (sym stands) stand) in
    let more = bars_more history order (option_copied c.args.fault) c.loop-id.bars.items n c.in_ok-bar_of.field-0 so_far.0 so_far.1 new in
    let longer = length-append c.loop-id.bars.items (c.in_ok-bar_of.field-0 ∷ []) in
    rw c.in_ok-push.ensures.items (omega (arith, so_far.0), more)

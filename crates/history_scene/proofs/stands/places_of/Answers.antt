-- One operation more of the order is noted, or passed over.
use Rattle.std.proofs.Common.{◌≡◌, ◌∙◌, ◌+◌, max, Option, Some, None, List, get_or, length, slice_get, sym, ap, arith, subst}
use Rattle.std.proofs.lemmas.Option.{slice_get-get_or}
use Rattle.history_scene.specs.declared.stands.Place.{Place}
use Rattle.history_scene.specs.Placing.{ArePlaced, IsLatestOf, noted}
use Rattle.history_scene.proofs.Placed.{placed_skip, placed_note, length_noted, larger}
use Rattle.history_scene.proofs.stands.places_of.Goals as goal
use Rattle.history_scene.proofs.stands.places_of.Goals.{in-Some, in_default}

pub loop-place-preserved : goal.loop-place-preserved
loop-place-preserved c =
    let order = c.args.order.now in
    let n = c.loop-place.place in
    let id = get_or order n 0 in
    let rows = c.args.table.now.rows.items in
    let so_far = c.loop-place.invariant in
    let at : slice_get order n ≡ Some id = slice_get-get_or order n 0 (omega arith) in
    elim c.match-row.branch [
      | in-Some w ↦
          let row = w.in-Some.row in
          let places = c.loop-place.places.items in
          let latest : c.match-row.latest ≡ max c.loop-place.latest row.begin = w.latest-is ∙ w.max-latest.ensures ∙ larger c.loop-place.latest row.begin in
          let p : Place = record { place = n; latest = max c.loop-place.latest row.begin } in
          let items : c.match-row.places.items ≡ noted places id p = ap (λ (v : _). v.items) w.places-is ∙ w.note.ensures
          ∙ ap (λ l. noted places id (record { place = n; latest = l })) (w.max-latest.ensures ∙ larger c.loop-place.latest row.begin) in
          let there : slice_get rows id ≡ Some row = sym c.row.ensures ∙ w.in-Some.is in (
            ap length items ∙ length_noted places id p ∙ so_far.0,
            λ history known.
                let placed = placed_note history order n id c.loop-place.latest row places (known.row_of id row there) at (so_far.1 history known).0 (so_far.1 history known).1 in
                (subst (λ (ps : List (Option Place)). ArePlaced history order (n + 1) ps) (sym items) placed.0, subst (λ l. IsLatestOf history order (n + 1) l) (sym latest) placed.1),
          )
      | in_default w ↦
          let there : slice_get rows id ≡ None = sym c.row.ensures ∙ w.in_default.is in
          rw (w.places-is, w.latest-is) (
            so_far.0,
            λ history known. placed_skip history order n id c.loop-place.latest c.loop-place.places.items rows c.args.table.now.running known at there so_far.0 (so_far.1 history known).0
                (so_far.1 history known).1,
          )
    ]

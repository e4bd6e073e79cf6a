use Rattle.std.proofs.Common.{◌≡◌, List, length}
use Rattle.history.specs.declared.events.Event.{Event}
use Rattle.history.specs.Tables.{Records}
use Rattle.history_scene.specs.Placing.{ArePlaced, IsLatestOf}
use Rattle.history_scene.proofs.stands.places_of.Given as goal

abbrev pub invariant-loop-place : goal.invariant-loop-place
invariant-loop-place l =
    (length l.places.items ≡ length l.table.rows.items)
    × ((history : List Event) → Records history l.table → ArePlaced history l.order l.place l.places.items × IsLatestOf history l.order l.place l.latest)

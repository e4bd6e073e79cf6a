use Rattle.std.proofs.Common.{◌≡◌, ◌++◌}
use Rattle.places.specs.Places.{ids_by_place}
use Rattle.places.specs.Segments.{AreCut}
use Rattle.places.proofs.places.joined.Given as goal

abbrev pub invariant-loop-closing : goal.invariant-loop-closing
invariant-loop-closing l = (l.order.items ++ ids_by_place (l.left ++ l.late_left) ≡ ids_by_place (l.listed ++ l.late)) × AreCut l.closings l.left × AreCut l.closings l.late_left

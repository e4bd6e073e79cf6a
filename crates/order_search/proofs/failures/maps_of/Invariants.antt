-- What the handles so far name, in a world that stays.
use Rattle.std.proofs.Common.{◌≡◌}
use Rattle.order_search.proofs.Alike.{NamedSoFar}
use Rattle.order_search.proofs.failures.maps_of.Given as goal

abbrev pub invariant-loop-handle : goal.invariant-loop-handle
invariant-loop-handle l = (l.world ≡ l.fn.world) × NamedSoFar l.handles l.keys l.fn.world l.handle-index l.maps.items

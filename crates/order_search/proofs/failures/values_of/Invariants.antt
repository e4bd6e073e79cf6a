-- What the map has for the keys so far, in a world that stays.
use Rattle.std.proofs.Common.{◌≡◌}
use Rattle.order_search.proofs.Alike.{Read}
use Rattle.order_search.proofs.failures.values_of.Given as goal

abbrev pub invariant-loop-key : goal.invariant-loop-key
invariant-loop-key l = (l.world ≡ l.fn.world) × Read l.keys l.fn.world l.handle l.key-index l.values.items

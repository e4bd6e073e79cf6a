-- Those of the maps so far.
use Rattle.std.proofs.Common.{◌≡◌, ◌≤◌, ◌*◌, take}
use Rattle.shared_map.specs.Shards.{slots_of_all}
use Rattle.shared_map.proofs.maps.slots_of.Given as goal

abbrev pub invariant-loop-map : goal.invariant-loop-map
invariant-loop-map l = (l.slots ≡ slots_of_all (take l.map-index l.shards)) × (l.slots ≤ l.map-index * 4294967296)

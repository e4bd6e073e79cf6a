use Rattle.std.proofs.Common.{◌<◌}
use Rattle.ctrie_map.specs.Maps.{AreSlots}
use Rattle.shared_map.specs.Opening.{AreNewMaps}
use Rattle.shared_map.proofs.maps.new_maps.Given as goal

abbrev pub invariant-loop-made : goal.invariant-loop-made
invariant-loop-made l = AreNewMaps l.fn.slots l.fn.hash l.made l.maps.items × (0 < l.made → AreSlots l.fn.slots)

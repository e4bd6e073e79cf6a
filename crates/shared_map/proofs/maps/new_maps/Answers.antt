use Rattle.std.proofs.Common.{◌+◌, sym, subst}
use Rattle.shared_map.specs.Opening.{AreNewMaps}
use Rattle.shared_map.proofs.New.{one_more_new}
use Rattle.shared_map.proofs.maps.new_maps.Goals as goal

pub loop-made-preserved : goal.loop-made-preserved
loop-made-preserved c = (
  subst (AreNewMaps c.args.slots c.args.hash (c.loop-made.made + 1)) (sym c.in-Ok.ensures.items)
      (one_more_new c.args.slots c.args.hash c.loop-made.made c.loop-made.maps.items c.in_ok-map.map c.loop-made.invariant.0 c.in_ok-map.ensures.made),
  λ some. c.in_ok-map.ensures.in_range,
)

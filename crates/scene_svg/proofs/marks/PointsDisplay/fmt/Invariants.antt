use Rattle.std.proofs.Common.{take}
use Rattle.std.specs.Fmt.{HasWritten, IsPlainFormatter}
use Rattle.std.specs.List.{flat_map}
use Rattle.scene_svg.specs.Marks.{point_text}
use Rattle.scene_svg.proofs.marks.PointsDisplay.fmt.Given as goal

abbrev pub invariant-loop-id : goal.invariant-loop-id
invariant-loop-id g l =
    IsPlainFormatter l.initial.f → HasWritten g.W.Write.write_str_gives l.initial.f (flat_map (point_text l.self.0.now) (take l.id-index l.self.0.now.order.items)) l.f

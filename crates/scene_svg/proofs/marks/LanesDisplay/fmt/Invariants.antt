use Rattle.std.proofs.Common.{take}
use Rattle.std.specs.Fmt.{HasWritten, IsPlainFormatter}
use Rattle.scene_svg.specs.Marks.{lanes_from}
use Rattle.scene_svg.proofs.marks.LanesDisplay.fmt.Given as goal

abbrev pub invariant-loop-lane : goal.invariant-loop-lane
invariant-loop-lane g l =
    IsPlainFormatter l.initial.f → HasWritten g.W.Write.write_str_gives l.initial.f (lanes_from l.width 0 (take l.lane l.self.0.now.actors.items)) l.f

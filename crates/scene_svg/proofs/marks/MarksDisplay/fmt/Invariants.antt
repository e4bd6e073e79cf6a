use Rattle.std.specs.Fmt.{HasWritten, IsPlainFormatter}
use Rattle.scene_svg.specs.Marks.{first_marks}
use Rattle.scene_svg.proofs.marks.MarksDisplay.fmt.Given as goal

abbrev pub invariant-loop-event : goal.invariant-loop-event
invariant-loop-event g l =
    IsPlainFormatter l.initial.f → HasWritten g.W.Write.write_str_gives l.initial.f (first_marks l.bottom l.event) l.f

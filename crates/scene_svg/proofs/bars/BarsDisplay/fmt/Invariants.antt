use Rattle.std.proofs.Common.{take}
use Rattle.std.specs.Fmt.{HasWritten, IsPlainFormatter}
use Rattle.std.specs.List.{flat_map}
use Rattle.scene_svg.specs.Bars.{bar_text}
use Rattle.scene_svg.proofs.bars.BarsDisplay.fmt.Given as goal

abbrev pub invariant-loop-bar : goal.invariant-loop-bar
invariant-loop-bar g l =
    IsPlainFormatter l.initial.f → HasWritten g.W.Write.write_str_gives l.initial.f (flat_map (bar_text l.events) (take l.bar-index l.self.0.now.bars.items)) l.f

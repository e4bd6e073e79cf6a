use Rattle.std.proofs.Common.{◌≡◌, ◌<◌, length, get_or, arith, rules, ap}
use Rattle.std.proofs.Output.{has_written_append, has_written_of_eq}
use Rattle.scene_svg.specs.Bars.{bar_text}
use Rattle.scene_svg.proofs.Loops.{written_item}
use Rattle.scene_svg.proofs.bars.BarsDisplay.fmt.Goals as goal

pub loop-bar-preserved : goal.loop-bar-preserved
loop-bar-preserved g c =
    let scene = c.args.self.now.0.now in
    let all = c.deref-bar-items.ensures.value in
    let size = ap length all in
    let below = c.loop-bar-test.true in
    let within : c.loop-bar.bar-index < length scene.bars.items = omega arith in
    let is : c.bar-item.result ≡ get_or scene.bars.items c.loop-bar.bar-index c.bar-item.result = rw all at c.bar-item.is in
    λ p. has_written_of_eq _ _ _ _ _ (written_item (bar_text scene.events) scene.bars.items c.loop-bar.bar-index c.bar-item.result within is)
    (has_written_append _ _ _ _ _ _ (c.loop-bar.invariant p) (search rules))

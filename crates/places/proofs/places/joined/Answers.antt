use Rattle.std.specs.Prelude.{slice_index_or}
use Rattle.places.proofs.Cuts.{joined_more, drop_all}
use Rattle.places.proofs.places.joined.Goals as goal

pub loop-closing-preserved : goal.loop-closing-preserved
loop-closing-preserved c =
    let closing = slice_index_or c.args.closings.now c.loop-closing.closing-index 0 in
    let left = c.loop-closing.left.now in
    let late = c.loop-closing.late_left.now in
    let before = c.loop-closing.invariant in
    let one = c.split_at.ensures in
    let two = c.split_at-in-loop-closing.ensures in (
      joined_more closing left late _ _ _ _ c.reach.result c.reach-in-loop-closing.result c.loop-closing.order.items _ _ c.reach.ensures.reach c.reach-in-loop-closing.ensures.reach one.front
          two.front one.back two.back (before.1 _ 0 c.loop-closing-test.true) (before.2 _ 0 c.loop-closing-test.true) c.in_ok-append.ensures before.0,
      rw one.back (drop_all c.args.closings.now c.reach.result left before.1),
      rw two.back (drop_all c.args.closings.now c.reach-in-loop-closing.result late before.2),
    )

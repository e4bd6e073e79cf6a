use Rattle.machine_core.proofs.Passed.{came_first, came_further, came_there}
use Rattle.machine_core.proofs.renewing.look_past.Goals as goal

pub loop-depth-init : goal.loop-depth-init
loop-depth-init c = came_first c.args.heap.now.heap c.args.root c.args.hash c.args.key

pub returns-in-Here : goal.returns-in-Here
returns-in-Here c =
    came_there c.args.heap.now.heap c.args.root c.args.hash c.args.key _ c.loop-depth.invariant c.main_at-main.ensures c.flag_of-flag.ensures.flag c.flag_of-flag.ensures.some
    c.loop-depth-test.true c.in-Here.ensures

pub loop-depth-preserved : goal.loop-depth-preserved
loop-depth-preserved c =
    came_further c.args.heap.now.heap c.args.root c.args.hash c.args.key c.loop-depth.depth c.loop-depth.indirection c.main_at-main.result c.flag_of-flag.result c.in-Below.at
    c.loop-depth.invariant c.main_at-main.ensures c.flag_of-flag.ensures.flag c.in-Below.ensures

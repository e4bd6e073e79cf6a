use Rattle.std.proofs.Common.{arith}
use Rattle.std.proofs.lemmas.Option.{get_or_from_slice_get}
use Rattle.history_scene.specs.Lanes.{lane_of}
use Rattle.history_scene.proofs.bars.lane_in.Goals as goal

pub returns : goal.returns
returns c = λ history known.
    let fits = c.ranges.actor.fits in
    get_or_from_slice_get c.args.lanes.now c.args.actor (lane_of history c.args.actor) 0 (known c.args.actor (omega arith))

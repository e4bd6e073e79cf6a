use Rattle.std.proofs.Common.{◌+◌, ◌-◌, arith, sym, ◌∙◌}
use Rattle.nodes.proofs.Partings.{parts_below}
use Rattle.nodes.proofs.levels.parting.Goals as goal

pub loop-depth-preserved : goal.loop-depth-preserved
loop-depth-preserved c =
    let d = c.loop-depth.depth in
    let same_index = sym c.index_in.ensures.index ∙ c.if-index_in.false ∙ c.index_in-in-loop-depth.ensures.index in
    let below = parts_below (c.args.end - d) (c.args.end - (d + 1)) c.args.old_hash c.args.hash d (omega arith) same_index in
    sym below ∙ c.loop-depth.invariant

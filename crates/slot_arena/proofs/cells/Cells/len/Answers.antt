use Rattle.std.proofs.Common.{ap, arith, length}
use Rattle.slot_arena.proofs.Parts.{length-slots_from}
use Rattle.slot_arena.proofs.cells.Cells.len.Goals as goal

pub returns : goal.returns
returns c =
    omega (arith, ap length c.self.view_is, length-slots_from c.self.inside.births.items c.self.inside.nodes c.self.inside.prevs.items c.self.invariant.nodes_all c.self.invariant.prevs_all)

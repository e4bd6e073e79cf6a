use Rattle.std.proofs.Common.{bit_xor}
use Rattle.slot_arena.specs.declared.nodes.Node.TheVariants.{Branch}
use Rattle.nodes.proofs.Contents.{removes}
use Rattle.nodes.proofs.branches.removed.Goals as goal

pub returns-clause-content : goal.returns-clause-content
returns-clause-content c = removes c.args.entries.now c.args.position (Branch (bit_xor c.args.bitmap c.args.flag) c.without.result) c.requires.within c.without.ensures.all

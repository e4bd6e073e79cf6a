use Rattle.slot_arena.specs.declared.nodes.Node.TheVariants.{Branch}
use Rattle.nodes.proofs.Contents.{updates}
use Rattle.nodes.proofs.branches.updated.Goals as goal

pub returns-clause-content : goal.returns-clause-content
returns-clause-content c = updates c.args.entries.now c.args.position c.args.entry (Branch c.args.bitmap c.with_replaced.result) c.requires.within c.with_replaced.ensures.all

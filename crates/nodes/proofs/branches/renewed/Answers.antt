use Rattle.slot_arena.specs.declared.nodes.Node.TheVariants.{Branch}
use Rattle.nodes.proofs.Contents.{keeps}
use Rattle.nodes.proofs.branches.renewed.Goals as goal

pub returns-clause-content : goal.returns-clause-content
returns-clause-content c = keeps c.args.entries.now (Branch c.args.bitmap c.all_of.result) c.all_of.ensures.all

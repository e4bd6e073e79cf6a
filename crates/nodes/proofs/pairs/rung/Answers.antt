use Rattle.slot_arena.specs.declared.nodes.Node.TheVariants.{Branch}
use Rattle.nodes.proofs.Contents.{holds_alone}
use Rattle.nodes.proofs.pairs.rung.Goals as goal

pub returns-clause-content : goal.returns-clause-content
returns-clause-content c = holds_alone c.args.below (Branch c.flag_of.result c.all_of.result) c.all_of.ensures.all

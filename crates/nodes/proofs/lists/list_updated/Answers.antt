use Rattle.slot_arena.specs.declared.nodes.Node.TheVariants.{List}
use Rattle.nodes.proofs.Contents.{updates}
use Rattle.nodes.proofs.lists.list_updated.Goals as goal

pub returns-clause-content : goal.returns-clause-content
returns-clause-content c = updates c.args.singles.now c.args.position c.args.single (List c.with_replaced.result) c.requires.within c.with_replaced.ensures.all

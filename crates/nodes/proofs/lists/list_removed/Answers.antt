use Rattle.slot_arena.specs.declared.nodes.Node.TheVariants.{List}
use Rattle.nodes.proofs.Contents.{removes}
use Rattle.nodes.proofs.lists.list_removed.Goals as goal

pub returns-clause-content : goal.returns-clause-content
returns-clause-content c = removes c.args.singles.now c.args.position (List c.without.result) c.requires.within c.without.ensures.all

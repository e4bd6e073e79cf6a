-- What a node that is lent shows.
use Rattle.slot_arena.specs.declared.nodes.Node.{Node}
use Rattle.slot_arena.specs.declared.nodes.Node.TheVariants.{Indirection, Branch, Single, Tomb, List}
use Rattle.slot_arena.specs.declared.nodes.NodeRef.{NodeRef}
use Rattle.slot_arena.specs.declared.nodes.NodeRef.TheVariants as lent

-- the node that is seen
abbrev pub viewed : NodeRef → Node
viewed (lent.Indirection generation main) = Indirection generation main.now
viewed (lent.Branch bitmap entries) = Branch bitmap entries.now
viewed (lent.Single key value) = Single key value
viewed (lent.Tomb single) = Tomb single.now
viewed (lent.List singles) = List singles.now

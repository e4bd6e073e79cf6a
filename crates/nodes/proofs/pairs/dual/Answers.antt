use Rattle.std.proofs.Common.{bit_or, ◌∙◌}
use Rattle.slot_arena.specs.declared.nodes.Node.TheVariants.{Branch, List}
use Rattle.nodes.proofs.Contents.{holds_both, holds_by_index}
use Rattle.nodes.proofs.pairs.dual.Goals as goal

pub returns-then-depth-list_depth-clause-content : goal.returns-then-depth-list_depth-clause-content
returns-then-depth-list_depth-clause-content c = holds_both c.args.old c.args.single (List c.all_of.result) c.all_of.ensures.all

pub returns-clause-content : goal.returns-clause-content
returns-clause-content c =
    holds_by_index c.args.old c.args.single (Branch (bit_or c.flag_of.result c.flag_of-2.result) c.all_of-2.result) c.index_in.result c.index_in-2.result
    (c.all_of-2.ensures.all ∙ c.by_index-both.ensures)

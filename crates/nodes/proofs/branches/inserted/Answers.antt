use Rattle.std.proofs.Common.{bit_or, ◌∙◌}
use Rattle.slot_arena.specs.declared.nodes.Node.TheVariants.{Branch}
use Rattle.nodes.proofs.Contents.{inserts}
use Rattle.nodes.proofs.Parts.{insert_parts}
use Rattle.nodes.proofs.branches.inserted.Goals as goal

pub returns-clause-content : goal.returns-clause-content
returns-clause-content c =
    let position = c.position_of-position.result in
    inserts c.args.entries.now position c.args.entry (Branch (bit_or c.args.bitmap c.args.flag) c.joined.result)
    (c.joined.ensures.all ∙ insert_parts c.args.entries.now position c.args.entry)

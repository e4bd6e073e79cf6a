use Rattle.std.proofs.Common.{[], ◌∷◌, ◌++◌, ◌∙◌}
use Rattle.std.proofs.lemmas.List.{append-nil}
use Rattle.slot_arena.specs.declared.nodes.Node.TheVariants.{List}
use Rattle.nodes.proofs.Contents.{appends}
use Rattle.nodes.proofs.lists.list_inserted.Goals as goal

pub returns-clause-content : goal.returns-clause-content
returns-clause-content c =
    appends c.args.singles.now c.args.single (List c.joined.result) (c.joined.ensures.all ∙ append-nil (c.args.singles.now ++ c.args.single ∷ []))

use Rattle.std.proofs.Common.{[], ◌∷◌, ap, ◌∙◌}
use Rattle.slot_arena.specs.declared.nodes.Node.TheVariants.{Tomb}
use Rattle.nodes.proofs.Contents.{keeps, alone}
use Rattle.nodes.proofs.branches.contracted.Goals as goal

pub returns-in-len1-clause-content : goal.returns-in-len1-clause-content
returns-in-len1-clause-content c =
    keeps c.args.entries.now (Tomb c.single-item.result) (ap (λ r. r ∷ []) c.single-item.is ∙ alone c.args.entries.now _ c.in-len1.len_at_least c.in-len1.len_below)

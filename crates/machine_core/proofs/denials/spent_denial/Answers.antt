use Rattle.std.proofs.Common.{sym, ap, ◌∙◌, Some, None, if◌then◌else◌}
use Rattle.ctrie_base.specs.declared.refusals.Refusal.TheVariants as refuse
use Rattle.machine_core.proofs.Undenied.{spent_denied}
use Rattle.machine_core.proofs.denials.spent_denial.Goals as goal

pub returns-then-is_spent : goal.returns-then-is_spent
returns-then-is_spent c =
    ap (λ b. if b then Some refuse.Spent else None) (sym c.if-is_spent.true ∙ c.is_spent.ensures) ∙ spent_denied c.args.parts.now c.args._actor c.requires.run c.requires.goes_on

pub returns-else-is_spent : goal.returns-else-is_spent
returns-else-is_spent c =
    ap (λ b. if b then Some refuse.Spent else None) (sym c.if-is_spent.false ∙ c.is_spent.ensures) ∙ spent_denied c.args.parts.now c.args._actor c.requires.run c.requires.goes_on

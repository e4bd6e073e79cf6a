use Rattle.std.proofs.Common.{sym, refl, ◌∙◌}
use Rattle.machine_core.proofs.Selections.{unwanted}
use Rattle.machine_core.proofs.selection.Selection.add.Goals as goal

pub returns-else-wants : goal.returns-else-wants
returns-else-wants c = (refl, refl, unwanted c.args.self.now (c.args.key, c.args.value) (sym c.wants.ensures ∙ c.if-wants.false))

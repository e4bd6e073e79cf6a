use Rattle.std.proofs.Common.{Ok, ap, sym, ◌∙◌}
use Rattle.ctrie_map.proofs.Updated.{read_there}
use Rattle.ctrie_map.proofs.map.Map.value_to_change.Goals as goal

pub returns-clause-there : goal.returns-clause-there
returns-clause-there c =
    read_there c.args.self.now c.args.handle c.args.key (sym c.is_writable.ensures ∙ c.in_ok-is_writable.was ∙ ap Ok c.if-not-branch.false) c.get.result c.get.ensures

use Rattle.std.proofs.Common.{is_some, ap, subst, ◌∙◌}
use Rattle.ctrie_map.specs.Maps.{IsWhole, MapState}
use Rattle.ctrie_map.specs.Names.{name_at}
use Rattle.ctrie_map.proofs.NamedReading.{open_so}
use Rattle.ctrie_map.proofs.map.Map.is_open.Goals as goal

pub returns-clause-exact : goal.returns-clause-exact
returns-clause-exact c =
    c.is_some.ensures ∙ ap is_some (c.find.ensures ∙ ap (name_at c.self.inside.names) c.number.ensures ∙ ap (λ (s : MapState). name_at s.names c.args.handle) c.self.view_is)
    ∙ open_so c.args.self.now (subst IsWhole c.self.view_is c.self.invariant) c.args.handle

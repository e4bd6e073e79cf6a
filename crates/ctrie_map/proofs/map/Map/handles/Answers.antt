use Rattle.std.proofs.Common.{sym, ap, subst, ◌∙◌}
use Rattle.ctrie_map.specs.Beneath.map_worlds.specs.Worlds.{world_of}
use Rattle.ctrie_map.specs.Maps.{IsWhole, MapState}
use Rattle.ctrie_map.specs.Names.{how_many}
use Rattle.ctrie_map.proofs.Named.{as_many}
use Rattle.ctrie_map.proofs.map.Map.handles.Goals as goal

pub returns-clause-exact : goal.returns-clause-exact
returns-clause-exact c =
    let whole = subst IsWhole c.self.view_is c.self.invariant in
    c.from.ensures ∙ c.many.ensures ∙ ap (λ (s : MapState). how_many s.names) c.self.view_is ∙ whole.named.many
    ∙ sym (as_many (world_of c.args.self.now.core) c.args.self.now.names whole.named)

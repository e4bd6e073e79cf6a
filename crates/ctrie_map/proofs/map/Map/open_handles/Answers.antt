use Rattle.std.proofs.Common.{ap, subst, ◌∙◌}
use Rattle.ctrie_map.specs.Beneath.map_worlds.specs.Worlds.{world_of}
use Rattle.ctrie_map.specs.Maps.{IsWhole, MapState}
use Rattle.ctrie_map.specs.Names.{numbers_from}
use Rattle.ctrie_map.proofs.Numbered.{numbers_are}
use Rattle.ctrie_map.proofs.map.Map.open_handles.Goals as goal

pub returns : goal.returns
returns c =
    let whole = subst IsWhole c.self.view_is c.self.invariant in
    ap (numbers_from 0) (c.as_slice.ensures.names ∙ ap (λ (s : MapState). s.names.named) c.self.view_is)
    ∙ numbers_are (world_of c.args.self.now.core) c.args.self.now.names whole.named

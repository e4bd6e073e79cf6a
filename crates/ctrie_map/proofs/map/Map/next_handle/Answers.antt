use Rattle.std.proofs.Common.{sym, ap, subst, ◌∙◌}
use Rattle.ctrie_map.specs.Beneath.map_worlds.specs.Worlds.{world_of}
use Rattle.ctrie_map.specs.Maps.{IsWhole, MapState}
use Rattle.ctrie_map.specs.Names.{IsNextFree, how_many}
use Rattle.ctrie_map.proofs.Named.{as_many}
use Rattle.ctrie_map.proofs.Unnamed.{is_next}
use Rattle.ctrie_map.proofs.map.Map.next_handle.Goals as goal

pub returns-in-Some-clause-next : goal.returns-in-Some-clause-next
returns-in-Some-clause-next c =
    let whole = subst IsWhole c.self.view_is c.self.invariant in
    is_next (world_of c.args.self.now.core) c.args.self.now.names whole.named c.new.result
    (subst (λ (s : MapState). IsNextFree s.names c.new.result) c.self.view_is (subst (IsNextFree c.self.inside.names) (sym c.new.ensures) c.in-Some.ensures.next))

pub returns-in-None-clause-full : goal.returns-in-None-clause-full
returns-in-None-clause-full c =
    let whole = subst IsWhole c.self.view_is c.self.invariant in
    as_many (world_of c.args.self.now.core) c.args.self.now.names whole.named ∙ sym whole.named.many
    ∙ ap (λ (s : MapState). how_many s.names) (sym c.self.view_is) ∙ c.in-None.ensures.none

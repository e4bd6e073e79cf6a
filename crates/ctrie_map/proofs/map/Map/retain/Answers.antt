use Rattle.std.proofs.Common.{subst, IfErr, IfOk}
use Rattle.ctrie_map.specs.Maps.{MapState, map_with}
use Rattle.ctrie_map.specs.Retaining.{RefusesRetain, Retains}
use Rattle.ctrie_map.proofs.map.Map.retain.Goals as goal

pub returns-clause-retains : goal.returns-clause-retains
returns-clause-retains g c =
    subst (λ (s : MapState). IfOk c.retain.result (λ _. Retains (goal.F-step g) c.args.f s c.args.handle (map_with c.retain.new.core.state c.retain.new.names))) c.self.view_is
    (rw (← c.number.ensures) c.retain.ensures.retains)

pub returns-clause-refused : goal.returns-clause-refused
returns-clause-refused g c =
    subst (λ (s : MapState). IfErr c.retain.result (RefusesRetain (goal.F-step g) c.args.f s c.args.handle (map_with c.retain.new.core.state c.retain.new.names))) c.self.view_is
    (rw (← c.number.ensures) c.retain.ensures.refused)

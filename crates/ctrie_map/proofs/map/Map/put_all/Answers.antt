use Rattle.std.proofs.Common.{subst, IfErr, IfOk}
use Rattle.ctrie_map.specs.Filling.{PutsAll, RefusesPuts}
use Rattle.ctrie_map.specs.Maps.{MapState, map_with}
use Rattle.ctrie_map.proofs.map.Map.put_all.Goals as goal

pub returns-clause-done : goal.returns-clause-done
returns-clause-done c =
    subst (λ (s : MapState). IfOk c.put_all.result (λ _. PutsAll s c.args.handle c.args.pairs.now (map_with c.put_all.new.core.state c.put_all.new.names))) c.self.view_is
    (rw (← c.number.ensures) c.put_all.ensures.done)

pub returns-clause-refused : goal.returns-clause-refused
returns-clause-refused c =
    subst (λ (s : MapState). IfErr c.put_all.result (RefusesPuts s c.args.handle c.args.pairs.now (map_with c.put_all.new.core.state c.put_all.new.names))) c.self.view_is
    (rw (← c.number.ensures) c.put_all.ensures.refused)

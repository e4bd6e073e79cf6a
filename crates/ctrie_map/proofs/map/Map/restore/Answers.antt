use Rattle.std.proofs.Common.{subst, IfOk}
use Rattle.ctrie_map.specs.Maps.{MapState, map_with}
use Rattle.ctrie_map.specs.Restoring.{Restores}
use Rattle.ctrie_map.proofs.map.Map.restore.Goals as goal

pub returns-clause-restores : goal.returns-clause-restores
returns-clause-restores c =
    subst (λ (s : MapState). IfOk c.restore.result (λ _. Restores s c.args.handle c.args.copy (map_with c.restore.new.core.state c.restore.new.names))) c.self.view_is
    (rw (← c.number.ensures, ← c.number-2.ensures) c.restore.ensures.restores)

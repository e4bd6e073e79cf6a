use Rattle.std.proofs.Common.{subst}
use Rattle.ctrie_map.specs.Vocabulary.{Close}
use Rattle.ctrie_map.specs.Performing.{Performs}
use Rattle.ctrie_map.proofs.Closings.{close_done, close_refused}
use Rattle.ctrie_map.proofs.map.Map.close.Goals as goal

pub returns-clause-done : goal.returns-clause-done
returns-clause-done c =
    close_done c.args.self.now c.args.handle c.perform.new.self c.perform.result c.done.result c.done.ensures
    (subst (λ h. Performs c.perform.result c.args.self.now (Close h) c.perform.new.self) c.number.ensures c.perform.ensures.performs)

pub returns-clause-refused : goal.returns-clause-refused
returns-clause-refused c =
    close_refused c.args.self.now c.args.handle c.perform.new.self c.perform.result c.done.result c.done.ensures
    (subst (λ h. Performs c.perform.result c.args.self.now (Close h) c.perform.new.self) c.number.ensures c.perform.ensures.performs)

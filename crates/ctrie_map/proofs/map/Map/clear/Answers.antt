use Rattle.std.proofs.Common.{subst, refl}
use Rattle.ctrie_map.specs.Vocabulary.{Clear}
use Rattle.ctrie_map.specs.Performing.{Performs}
use Rattle.ctrie_map.proofs.Removes.{clear_done, clear_refused}
use Rattle.ctrie_map.proofs.Fullness.{goes_on}
use Rattle.ctrie_map.proofs.map.Map.clear.Goals as goal

pub returns-clause-done : goal.returns-clause-done
returns-clause-done c =
    clear_done c.args.self.now c.args.handle c.perform.new.self c.perform.result c.done.result c.done.ensures
    (subst (λ h. Performs c.perform.result c.args.self.now (Clear h) c.perform.new.self) c.number.ensures c.perform.ensures.performs)

pub returns-clause-refused : goal.returns-clause-refused
returns-clause-refused c =
    clear_refused c.args.self.now c.args.handle c.perform.new.self c.perform.result c.done.result c.done.ensures
    (subst (λ h. Performs c.perform.result c.args.self.now (Clear h) c.perform.new.self) c.number.ensures c.perform.ensures.performs)

pub returns-clause-goes_on : goal.returns-clause-goes_on
returns-clause-goes_on c = λ alone. goes_on c.args.self.now (Clear c.args.handle) ⊥ c.perform.new.self c.done.result (returns-clause-refused c) alone refl

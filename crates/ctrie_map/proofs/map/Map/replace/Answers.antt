use Rattle.std.proofs.Common.{subst, refl}
use Rattle.ctrie_map.specs.Vocabulary.{Replace}
use Rattle.ctrie_map.specs.Performing.{Performs}
use Rattle.ctrie_map.proofs.Replaces.{replace_done, replace_refused}
use Rattle.ctrie_map.proofs.Fullness.{goes_on}
use Rattle.ctrie_map.proofs.map.Map.replace.Goals as goal

pub returns-clause-done : goal.returns-clause-done
returns-clause-done c =
    replace_done c.args.self.now c.args.handle c.args.key c.args.value c.perform.new.self c.perform.result c.found.result c.found.ensures
    (subst (λ h. Performs c.perform.result c.args.self.now (Replace h c.args.key c.args.value) c.perform.new.self) c.number.ensures c.perform.ensures.performs)

pub returns-clause-refused : goal.returns-clause-refused
returns-clause-refused c =
    replace_refused c.args.self.now c.args.handle c.args.key c.args.value c.perform.new.self c.perform.result c.found.result c.found.ensures
    (subst (λ h. Performs c.perform.result c.args.self.now (Replace h c.args.key c.args.value) c.perform.new.self) c.number.ensures c.perform.ensures.performs)

pub returns-clause-goes_on : goal.returns-clause-goes_on
returns-clause-goes_on c = λ alone. goes_on c.args.self.now (Replace c.args.handle c.args.key c.args.value) ⊥ c.perform.new.self c.found.result (returns-clause-refused c) alone refl

use Rattle.std.proofs.Common.{subst, refl}
use Rattle.ctrie_map.specs.Vocabulary.{RemoveIf}
use Rattle.ctrie_map.specs.Performing.{Performs}
use Rattle.ctrie_map.proofs.Removes.{remove_if_done, remove_if_refused}
use Rattle.ctrie_map.proofs.Fullness.{goes_on}
use Rattle.ctrie_map.proofs.map.Map.remove_if.Goals as goal

pub returns-clause-done : goal.returns-clause-done
returns-clause-done c =
    remove_if_done c.args.self.now c.args.handle c.args.key c.args.value c.perform.new.self c.perform.result c.truth.result c.truth.ensures
    (subst (λ h. Performs c.perform.result c.args.self.now (RemoveIf h c.args.key c.args.value) c.perform.new.self) c.number.ensures c.perform.ensures.performs)

pub returns-clause-refused : goal.returns-clause-refused
returns-clause-refused c =
    remove_if_refused c.args.self.now c.args.handle c.args.key c.args.value c.perform.new.self c.perform.result c.truth.result c.truth.ensures
    (subst (λ h. Performs c.perform.result c.args.self.now (RemoveIf h c.args.key c.args.value) c.perform.new.self) c.number.ensures c.perform.ensures.performs)

pub returns-clause-goes_on : goal.returns-clause-goes_on
returns-clause-goes_on c = λ alone. goes_on c.args.self.now (RemoveIf c.args.handle c.args.key c.args.value) ⊥ c.perform.new.self c.truth.result (returns-clause-refused c) alone refl

use Rattle.std.proofs.Common.{subst, refl, sym}
use Rattle.ctrie_map.specs.Vocabulary.{PutIfAbsent}
use Rattle.ctrie_map.specs.Performing.{Performs}
use Rattle.ctrie_map.proofs.Puts.{absent_done, absent_refused}
use Rattle.ctrie_map.proofs.Fullness.{adds_none, goes_on, is_full}
use Rattle.ctrie_map.specs.Changes.{IsCrowdedAt, IsFullFor}
use Rattle.ctrie_map.specs.Telling.{found_in}
use Rattle.ctrie_map.proofs.map.Map.put_if_absent.Goals as goal

pub returns-clause-done : goal.returns-clause-done
returns-clause-done c =
    absent_done c.args.self.now c.args.handle c.args.key c.args.value c.perform.new.self c.perform.result c.found.result c.found.ensures
    (subst (λ h. Performs c.perform.result c.args.self.now (PutIfAbsent h c.args.key c.args.value) c.perform.new.self) c.number.ensures c.perform.ensures.performs)

pub returns-clause-refused : goal.returns-clause-refused
returns-clause-refused c =
    absent_refused c.args.self.now c.args.handle c.args.key c.args.value c.perform.new.self c.perform.result c.found.result c.found.ensures
    (subst (λ h. Performs c.perform.result c.args.self.now (PutIfAbsent h c.args.key c.args.value) c.perform.new.self) c.number.ensures c.perform.ensures.performs)

pub returns-clause-full : goal.returns-clause-full
returns-clause-full c = λ full.
    is_full found_in c.found.result c.perform.result c.found.ensures
    (c.perform.ensures.full (subst (λ h. IsFullFor c.args.self.now (PutIfAbsent h c.args.key c.args.value)) (sym c.number.ensures) full)) refl

pub returns-clause-goes_on : goal.returns-clause-goes_on
returns-clause-goes_on c = λ alone has.
    goes_on c.args.self.now (PutIfAbsent c.args.handle c.args.key c.args.value) (IsCrowdedAt c.args.self.now c.args.handle c.args.key) c.perform.new.self c.found.result
    (returns-clause-refused c) alone (adds_none c.args.self.now c.args.handle c.args.key has)

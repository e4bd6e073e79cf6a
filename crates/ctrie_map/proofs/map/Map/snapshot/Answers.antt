use Rattle.std.proofs.Common.{subst, refl, sym}
use Rattle.ctrie_map.specs.Vocabulary.{Writable}
use Rattle.ctrie_map.specs.Performing.{Performs, copy_call}
use Rattle.ctrie_map.proofs.Copies.{snapshot_done, snapshot_next, snapshot_refused}
use Rattle.ctrie_map.proofs.Fullness.{is_full}
use Rattle.ctrie_map.specs.Changes.{IsFullFor}
use Rattle.ctrie_map.specs.Telling.{opened_in}
use Rattle.ctrie_map.proofs.map.Map.snapshot.Goals as goal

pub returns-clause-done : goal.returns-clause-done
returns-clause-done c =
    snapshot_done c.args.self.now c.args.handle c.«open».new.self c.«open».result c.opened.result c.opened.ensures
    (subst (λ h. Performs c.«open».result c.args.self.now (copy_call Writable h) c.«open».new.self) c.number.ensures c.«open».ensures.performs)

pub returns-clause-next : goal.returns-clause-next
returns-clause-next c =
    snapshot_next c.args.self.now c.args.handle c.«open».new.self c.«open».result c.opened.result c.opened.ensures
    (subst (λ h. Performs c.«open».result c.args.self.now (copy_call Writable h) c.«open».new.self) c.number.ensures c.«open».ensures.performs)

pub returns-clause-refused : goal.returns-clause-refused
returns-clause-refused c =
    snapshot_refused c.args.self.now c.args.handle c.«open».new.self c.«open».result c.opened.result c.opened.ensures
    (subst (λ h. Performs c.«open».result c.args.self.now (copy_call Writable h) c.«open».new.self) c.number.ensures c.«open».ensures.performs)

pub returns-clause-full : goal.returns-clause-full
returns-clause-full c = λ full.
    is_full opened_in c.opened.result c.«open».result c.opened.ensures
    (c.«open».ensures.full (subst (λ h. IsFullFor c.args.self.now (copy_call Writable h)) (sym c.number.ensures) full)) refl

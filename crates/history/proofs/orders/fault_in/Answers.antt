-- Each operation may stand at its place, or is the first that is wrong.
use Rattle.std.proofs.Common.{◌≡◌, Option, Some, take, slice_get, get_or, subst, arith}
use Rattle.std.proofs.lemmas.Option.{slice_get-get_or}
use Rattle.std.proofs.lemmas.List.{take_more, take_all}
use Rattle.ctrie_base.specs.Hashes.{hash_of}
use Rattle.history.specs.declared.faults.OrderFault.{OrderFault}
use Rattle.history.specs.Replays.{Takes}
use Rattle.history.proofs.Leading.{leads_on}
use Rattle.history.proofs.Legal.{wrong_first, first_missing, legal_of_all}
use Rattle.history.proofs.orders.fault_in.Goals as goal

pub returns-in-Some-clause-found : goal.returns-in-Some-clause-found
returns-in-Some-clause-found c =
    let hash = hash_of c.args.hash in
    let history = c.args.events.now in
    let order = c.args.order.now in
    let place = c.loop-id.id-index in
    let id = get_or order place 0 in
    let so_far = c.loop-id.invariant in
    let at : slice_get order place ≡ Some id = slice_get-get_or order place 0 (omega arith) in
    let takes = c.in_ok-fault.ensures.takes (take place order) so_far.0 in
    let wrong = subst (λ (o : Option OrderFault). Takes o hash history (take place order) id c.loop-id.replay.world c.take.new.self) c.in-Some.is takes in
    wrong_first hash history order place id c.loop-id.replay.world c.in-Some.fault c.requires.well_formed at so_far.1 wrong

pub loop-id-preserved : goal.loop-id-preserved
loop-id-preserved c =
    let hash = hash_of c.args.hash in
    let history = c.args.events.now in
    let order = c.args.order.now in
    let place = c.loop-id.id-index in
    let id = get_or order place 0 in
    let so_far = c.loop-id.invariant in
    let takes = c.in_ok-fault.ensures.takes (take place order) so_far.0 in
    let taken = subst (λ (o : Option OrderFault). Takes o hash history (take place order) id c.loop-id.replay.world c.take.new.self) c.in_default.is takes in
    rw (take_more order place 0 (omega arith)) (taken.1, leads_on hash history (take place order) id c.loop-id.replay.world c.take.new.self.world so_far.1 taken.0)

pub returns-in-Some-first_missing-clause-found : goal.returns-in-Some-first_missing-clause-found
returns-in-Some-first_missing-clause-found c =
    let hash = hash_of c.args.hash in
    let history = c.args.events.now in
    let order = c.args.order.now in
    let replay = c.loop-id.replay in
    let so_far = rw (take_all c.loop-id.id-index order (omega arith)) at c.loop-id.invariant in
    let found = rw c.deref.ensures.value at c.in-Some-first_missing.ensures in
    (c.requires.well_formed, (replay.world, so_far.1), first_missing history order c.args.table.now replay.taken.items replay.latest c.in-Some-first_missing.id c.requires so_far.0 found)

pub returns-clause-found : goal.returns-clause-found
returns-clause-found c =
    let hash = hash_of c.args.hash in
    let history = c.args.events.now in
    let order = c.args.order.now in
    let replay = c.loop-id.replay in
    let so_far = rw (take_all c.loop-id.id-index order (omega arith)) at c.loop-id.invariant in
    let found = rw c.deref.ensures.value at c.in-None.ensures in
    legal_of_all hash history order c.args.table.now replay.taken.items replay.latest replay.world c.requires so_far.0 so_far.1 found

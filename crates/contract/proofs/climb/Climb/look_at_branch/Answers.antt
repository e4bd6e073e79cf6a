use Rattle.std.specs.Prelude.{refl}
use Rattle.contract.specs.Vocabulary.{node_at, at_heap}
use Rattle.trie_parts.specs.Tasks.{for_task}
use Rattle.contract.specs.Climbing.{climb_of}
use Rattle.contract.proofs.Climbs.{held, missed}
use Rattle.contract.proofs.climb.Climb.look_at_branch.Goals as goal

pub returns-then-holds_it-clause-follows : goal.returns-then-holds_it-clause-follows
returns-then-holds_it-clause-follows c =
    let heap = c.args.heap.now.heap in
    let me = c.args.self.now in
    λ state operation access s place.
    let here = at_heap state heap c.args.task.hashes in
    let op = for_task c.args.task access operation in
    let stands = c.holds_it.ensures state operation access me.single me.former in
    (refl, held here op (climb_of c.args.path.now me) c.args.main (node_at heap c.args.main) c.holds_it.result stands c.if-holds_it.true c.requires, refl)

pub returns-else-holds_it-clause-follows : goal.returns-else-holds_it-clause-follows
returns-else-holds_it-clause-follows c =
    let heap = c.args.heap.now.heap in
    let me = c.args.self.now in
    λ state operation access s place.
    let here = at_heap state heap c.args.task.hashes in
    let op = for_task c.args.task access operation in
    let stands = c.holds_it.ensures state operation access me.single me.former in
    (refl, missed here op (climb_of c.args.path.now me) c.args.main (node_at heap c.args.main) c.holds_it.result stands c.if-holds_it.false c.requires, refl)

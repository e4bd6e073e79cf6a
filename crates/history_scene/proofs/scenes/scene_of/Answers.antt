-- The scene has each of its parts.
use Rattle.std.proofs.Common.{refl}
use Rattle.ctrie_base.specs.Hashes.{hash_of}
use Rattle.history_scene.proofs.Each.{judges_of, told_unless_legal}
use Rattle.history_scene.proofs.scenes.scene_of.Goals as goal

pub returns-clause-scene : goal.returns-clause-scene
returns-clause-scene c =
    let hash = hash_of c.args.hash in
    let history = c.args.events.now in
    let order = c.args.order.now in
    let fault = c.in_ok-fault.fault in
    record {
      fault = fault;
      judged = judges_of hash history order fault c.in_ok-fault.ensures.exact c.in_ok-fault.ensures.first;
      reason = rw c.as_ref-2.ensures.value at c.in_ok-reason_of.ensures;
      size = refl;
      actors = c.in_ok-actors.ensures.actors;
      bars = rw c.as_ref.ensures.value at c.in_ok-bars.ensures.bars;
      line = c.in_ok-from_slice.ensures.items;
    }

pub returns-clause-legal : goal.returns-clause-legal
returns-clause-legal c =
    let hash = hash_of c.args.hash in
    let history = c.args.events.now in
    let order = c.args.order.now in
    let fault = c.in_ok-fault.fault in
    told_unless_legal hash history order c.in_ok-reason_of.field-0 fault (rw c.as_ref-2.ensures.value at c.in_ok-reason_of.ensures)
    (judges_of hash history order fault c.in_ok-fault.ensures.exact c.in_ok-fault.ensures.first)

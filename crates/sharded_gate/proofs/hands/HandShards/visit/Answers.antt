use Rattle.std.proofs.Common.{◌<◌, length, ap, subst, ◌∙◌, arith}
use Rattle.sharded_gate.specs.Hands.{objects_of, logs_of}
use Rattle.sharded_gate.specs.Visiting.{HasVisited}
use Rattle.sharded_gate.proofs.Commits.{objects_long}
use Rattle.sharded_gate.proofs.Reaching.{has_front, is_reached, still_are, still_many, is_visited, same_logs}
use Rattle.sharded_gate.proofs.hands.HandShards.visit.Goals as goal

pub slot_mut-requires : goal.slot_mut-requires
slot_mut-requires g c =
    let low : c.args.shard < c.self.inside.shards = omega (arith, c.requires, objects_long c.args.self.now.slots, ap (λ h. length h.slots) c.self.view_is, c.self.invariant.2) in
    (c.turn.ensures.table ∙ c.self.invariant.0, has_front c.self.inside.pass.me.1 c.self.inside.shards c.args.shard c.self.invariant.1 c.self.invariant.2 low c.turn.new.pass.me.1 c.turn.ensures.slots)

pub overflow_sub-self-inside : goal.overflow_sub-self-inside
overflow_sub-self-inside g c = omega (arith, c.requires, objects_long c.args.self.now.slots, ap (λ h. length h.slots) c.self.view_is, c.self.invariant.2)

pub invariant_of-self : goal.invariant_of-self
invariant_of-self g c =
    let low : c.args.shard < c.self.inside.shards = omega (arith, c.requires, objects_long c.args.self.now.slots, ap (λ h. length h.slots) c.self.view_is, c.self.invariant.2) in
    let r = is_reached c.self.inside.pass.me.1 c.self.inside.shards c.args.shard c.self.invariant.1 c.self.invariant.2 low c.turn.new.pass.me.1 c.turn-2.new.pass.me.1 c.slot_mut.result.now
    c.visit.new.self c.turn.ensures.slots c.slot_mut.ensures.value c.turn-2.ensures.slots in (
      c.turn-2.ensures.table ∙ c.turn.ensures.table ∙ c.self.invariant.0,
      still_are c.self.inside.pass.me.1 c.self.inside.shards c.args.shard c.self.invariant.1 c.self.invariant.2 low c.slot_mut.result.now c.visit.new.self c.turn-2.new.pass.me.1 r,
      still_many c.self.inside.pass.me.1 c.self.inside.shards c.args.shard c.self.invariant.1 c.self.invariant.2 low c.slot_mut.result.now c.visit.new.self c.turn-2.new.pass.me.1 r,
    )

pub returns-clause-visited : goal.returns-clause-visited
returns-clause-visited g c =
    let low : c.args.shard < c.self.inside.shards = omega (arith, c.requires, objects_long c.args.self.now.slots, ap (λ h. length h.slots) c.self.view_is, c.self.invariant.2) in
    let r = is_reached c.self.inside.pass.me.1 c.self.inside.shards c.args.shard c.self.invariant.1 c.self.invariant.2 low c.turn.new.pass.me.1 c.turn-2.new.pass.me.1 c.slot_mut.result.now
    c.visit.new.self c.turn.ensures.slots c.slot_mut.ensures.value c.turn-2.ensures.slots in
    subst (λ xs. HasVisited g.V.Visit.does c.args.shard c.args.visitor.now c.visit.new.visitor (objects_of xs) (objects_of c.turn-2.new.pass.me.1)) (ap (λ h. h.slots) c.self.view_is)
    (is_visited c.self.inside.pass.me.1 c.self.inside.shards c.args.shard c.self.invariant.1 c.self.invariant.2 low c.slot_mut.result.now c.visit.new.self c.turn-2.new.pass.me.1 r
    g.V.Visit.does c.args.visitor.now c.visit.new.visitor c.visit.ensures.visited)

pub returns-clause-rest : goal.returns-clause-rest
returns-clause-rest g c =
    let low : c.args.shard < c.self.inside.shards = omega (arith, c.requires, objects_long c.args.self.now.slots, ap (λ h. length h.slots) c.self.view_is, c.self.invariant.2) in
    let r = is_reached c.self.inside.pass.me.1 c.self.inside.shards c.args.shard c.self.invariant.1 c.self.invariant.2 low c.turn.new.pass.me.1 c.turn-2.new.pass.me.1 c.slot_mut.result.now
    c.visit.new.self c.turn.ensures.slots c.slot_mut.ensures.value c.turn-2.ensures.slots in
    let logs = same_logs c.self.inside.pass.me.1 c.self.inside.shards c.args.shard c.self.invariant.1 c.self.invariant.2 low c.slot_mut.result.now c.visit.new.self c.turn-2.new.pass.me.1 r
    c.visit.ensures.log in
    ap (λ z. (z, (c.turn-2.new.pass.me.0, logs_of c.turn-2.new.pass.me.1))) (c.turn-2.ensures.table ∙ c.turn.ensures.table)
    ∙ ap (λ v. (c.self.inside.pass.table_id, (v, logs_of c.turn-2.new.pass.me.1))) (c.turn-2.ensures.view ∙ c.turn.ensures.view)
    ∙ ap (λ ls. (c.self.inside.pass.table_id, (c.self.inside.pass.me.0, ls))) logs ∙ ap (λ h. (h.id, (h.view, logs_of h.slots))) c.self.view_is

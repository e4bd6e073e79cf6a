use Rattle.std.proofs.Common.{◌<◌, length, ap, sym, ◌∙◌, arith}
use Rattle.sharded_gate.proofs.Reaching.{has_front, is_reached, still_are, still_many, noted_on}
use Rattle.sharded_gate.proofs.hands.Hand.note.Goals as goal

pub slot_mut-requires : goal.slot_mut-requires
slot_mut-requires g c =
    let low : c.args.shard < c.self.inside.shards = omega (arith, c.requires, ap (λ h. length h.slots) c.self.view_is, c.self.invariant.2) in
    (c.turn.ensures.table ∙ c.self.invariant.0, has_front c.self.inside.pass.me.1 c.self.inside.shards c.args.shard c.self.invariant.1 c.self.invariant.2 low c.turn.new.pass.me.1 c.turn.ensures.slots)

pub invariant_of-self : goal.invariant_of-self
invariant_of-self g c =
    let low : c.args.shard < c.self.inside.shards = omega (arith, c.requires, ap (λ h. length h.slots) c.self.view_is, c.self.invariant.2) in
    let r = is_reached c.self.inside.pass.me.1 c.self.inside.shards c.args.shard c.self.invariant.1 c.self.invariant.2 low c.turn.new.pass.me.1 c.turn-2.new.pass.me.1 c.slot_mut.result.now
    c.note.new.self c.turn.ensures.slots c.slot_mut.ensures.value c.turn-2.ensures.slots in (
      c.turn-2.ensures.table ∙ c.turn.ensures.table ∙ c.self.invariant.0,
      still_are c.self.inside.pass.me.1 c.self.inside.shards c.args.shard c.self.invariant.1 c.self.invariant.2 low c.slot_mut.result.now c.note.new.self c.turn-2.new.pass.me.1 r,
      still_many c.self.inside.pass.me.1 c.self.inside.shards c.args.shard c.self.invariant.1 c.self.invariant.2 low c.slot_mut.result.now c.note.new.self c.turn-2.new.pass.me.1 r,
    )

pub returns-clause-many : goal.returns-clause-many
returns-clause-many g c =
    let low : c.args.shard < c.self.inside.shards = omega (arith, c.requires, ap (λ h. length h.slots) c.self.view_is, c.self.invariant.2) in
    let r = is_reached c.self.inside.pass.me.1 c.self.inside.shards c.args.shard c.self.invariant.1 c.self.invariant.2 low c.turn.new.pass.me.1 c.turn-2.new.pass.me.1 c.slot_mut.result.now
    c.note.new.self c.turn.ensures.slots c.slot_mut.ensures.value c.turn-2.ensures.slots in
    still_many c.self.inside.pass.me.1 c.self.inside.shards c.args.shard c.self.invariant.1 c.self.invariant.2 low c.slot_mut.result.now c.note.new.self c.turn-2.new.pass.me.1 r ∙ sym
    c.self.invariant.2 ∙ ap (λ h. length h.slots) c.self.view_is

pub returns-clause-slots : goal.returns-clause-slots
returns-clause-slots g c start so_far =
    let low : c.args.shard < c.self.inside.shards = omega (arith, c.requires, ap (λ h. length h.slots) c.self.view_is, c.self.invariant.2) in
    let r = is_reached c.self.inside.pass.me.1 c.self.inside.shards c.args.shard c.self.invariant.1 c.self.invariant.2 low c.turn.new.pass.me.1 c.turn-2.new.pass.me.1 c.slot_mut.result.now
    c.note.new.self c.turn.ensures.slots c.slot_mut.ensures.value c.turn-2.ensures.slots in
    noted_on c.self.inside.pass.me.1 c.self.inside.shards c.args.shard c.self.invariant.1 c.self.invariant.2 low c.slot_mut.result.now c.note.new.self c.turn-2.new.pass.me.1 r start
    c.args.entry.now (ap (λ h. h.slots) c.self.view_is ∙ so_far) c.note.ensures

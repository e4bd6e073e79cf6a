use Rattle.std.proofs.Common.{rules, length, ap, sym, subst, ◌∙◌, arith}
use Rattle.sharded_gate.proofs.Tables.{shards_many}
use Rattle.sharded_gate.proofs.Whole.{HasFrom, may_release_one, one_fewer, all_released}
use Rattle.sharded_gate.proofs.gates.ShardedGate.release_from.Goals as goal

pub loop-shard-init : goal.loop-shard-init
loop-shard-init g c =
    let r = c.requires.inside in
    (search rules, record { slots = r.2; are = r.4; many = r.5; place = r.3 ∙ ap (λ ps. (record { has = r.2; parts = ps }, r.2)) (sym (ap (λ m. m.0.parts) r.3)) })

pub release-requires-clause-seat : goal.release-requires-clause-seat
release-requires-clause-seat g c = c.loop-shard.invariant.0 ∙ c.requires.seat

pub release-requires-clause-inside : goal.release-requires-clause-inside
release-requires-clause-inside g c =
    let r = c.requires.inside in
    let same = shards_many c.self.inside.table.shared.table_id c.self.inside.table.shared.key c.self.inside.terms c.self.inside.shards c.self.inside.spare c.self.invariant _
    (ap (λ r. length r.first) c.self.view_is) in
    may_release_one c.loop-shard.shard (length c.args.self.now.first) r.0 r.1 c.loop-shard.pass.me
    (subst (λ ps. HasFrom c.loop-shard.shard (length c.args.self.now.first) ps c.loop-shard.pass.me) (ap (λ m. m.0.parts) r.3) c.loop-shard.invariant.1) (omega (arith, same, c.loop-shard-test.true))

pub loop-shard-preserved : goal.loop-shard-preserved
loop-shard-preserved g c =
    let same = shards_many c.self.inside.table.shared.table_id c.self.inside.table.shared.key c.self.inside.terms c.self.inside.shards c.self.inside.spare c.self.invariant _
    (ap (λ r. length r.first) c.self.view_is) in
    (search rules, one_fewer c.loop-shard.shard (length c.args.self.now.first) _ _ _ c.loop-shard.invariant.1 (omega (arith, same, c.loop-shard-test.true)) c.release.ensures.released)

pub returns-clause-outside : goal.returns-clause-outside
returns-clause-outside g c =
    let same = shards_many c.self.inside.table.shared.table_id c.self.inside.table.shared.key c.self.inside.terms c.self.inside.shards c.self.inside.spare c.self.invariant _
    (ap (λ r. length r.first) c.self.view_is) in
    all_released c.loop-shard.shard (length c.args.self.now.first) _ _ c.loop-shard.invariant.1 (omega (arith, same, c.loop-shard-test.false))

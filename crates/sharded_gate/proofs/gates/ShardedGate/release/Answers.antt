use Rattle.std.proofs.Common.{length, ap, sym, ◌∙◌}
use Rattle.sharded_gate.proofs.Tables.{slots_many, word_within, may_release}
use Rattle.sharded_gate.proofs.gates.ShardedGate.release.Goals as goal

pub store-requires : goal.store-requires
store-requires g c = (
  c.requires.seat ∙ ap (λ r. r.id) (sym c.self.view_is),
  word_within c.self.inside.table.shared.table_id c.self.inside.table.shared.key c.self.inside.terms c.self.inside.shards c.self.inside.spare c.self.invariant _
      (ap (λ r. length r.first) c.self.view_is) c.args.shard c.requires.within,
  may_release g.O.Sharded.answers g.O.Sharded.about c.self.inside.table.shared.key.first c.self.inside.table.shared.key.seats c.self.inside.table.shared.table_id.slots c.args.shard
      c.args.pass.now.id c.args.pass.now.me
      (slots_many c.self.inside.table.shared.table_id c.self.inside.table.shared.key c.self.inside.terms c.self.inside.shards c.self.inside.spare c.self.invariant) c.requires.inside,
)

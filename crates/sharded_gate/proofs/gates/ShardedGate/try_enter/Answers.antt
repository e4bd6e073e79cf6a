use Rattle.std.proofs.Common.{rules, length, ap, sym, subst, ◌∙◌}
use Rattle.gate.specs.Views.{HasTaken}
use Rattle.sharded_gate.proofs.Tables.{slots_many, word_within, key_within, may_enter, at_its_word}
use Rattle.sharded_gate.proofs.gates.ShardedGate.try_enter.Goals as goal

pub compare_exchange-found-requires : goal.compare_exchange-found-requires
compare_exchange-found-requires g c = (
  c.requires.seat ∙ ap (λ r. r.id) (sym c.self.view_is),
  word_within c.self.inside.table.shared.table_id c.self.inside.table.shared.key c.self.inside.terms c.self.inside.shards c.self.inside.spare c.self.invariant _
      (ap (λ r. length r.first) c.self.view_is) c.args.shard c.requires.within,
  may_enter g.O.Sharded.answers g.O.Sharded.about c.self.inside.table.shared.key.first c.self.inside.table.shared.key.seats c.self.inside.table.shared.table_id.slots c.args.shard
      c.args.pass.now.id c.args.pass.now.me
      (slots_many c.self.inside.table.shared.table_id c.self.inside.table.shared.key c.self.inside.terms c.self.inside.shards c.self.inside.spare c.self.invariant) c.args.number
      (key_within c.self.inside.table.shared.table_id c.self.inside.table.shared.key c.self.inside.terms c.self.inside.shards c.self.inside.spare c.self.invariant _
      (ap (λ r. length r.first) c.self.view_is) c.args.shard c.requires.within) c.requires.number,
)

pub returns-clause-inside : goal.returns-clause-inside
returns-clause-inside g c was_open =
    subst (λ i. HasTaken i c.args.pass.now.me c.compare_exchange-found.new.seat.me) (at_its_word c.args.shard) (c.compare_exchange-found.ensures.2.0 (search (rules, was_open)))

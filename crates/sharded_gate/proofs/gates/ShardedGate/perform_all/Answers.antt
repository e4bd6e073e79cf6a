use Rattle.sharded_gate.proofs.Whole.{performed}
use Rattle.sharded_gate.proofs.gates.ShardedGate.perform_all.Goals as goal

pub returns-clause-performed : goal.returns-clause-performed
returns-clause-performed g c =
    performed g.O.Sharded.answers c.args.number c.args.call c.perform_all-answer.result c.args.pass.table_id c.args.pass.me c.into_pass.result.me
    c.new-hand.result c.perform_all-answer.new.shards c.note_all.new.self c.new-hand.ensures c.perform_all-answer.ensures.rest c.note_all.ensures.view c.note_all.ensures.slots
    c.into_pass.ensures.place c.requires.slots c.into_pass.ensures.slots c.perform_all-answer.ensures.answered

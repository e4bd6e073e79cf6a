use Rattle.step_machine.proofs.Recording.{if_record_legal}
use Rattle.step_machine.proofs.machine.Machine.into_record.Goals as goal

pub returns-clause-legal : goal.returns-clause-legal
returns-clause-legal c = if_record_legal c.args.self c.explained.ensures c.parts.result c.parts.ensures.record

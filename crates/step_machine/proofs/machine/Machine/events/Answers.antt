use Rattle.std.proofs.Common.{refl}
use Rattle.step_machine.specs.Vocabulary.{order_of}
use Rattle.proof_runs.specs.Machines.{past_of}
use Rattle.proof_runs.proofs.Legality.{legal}
use Rattle.step_machine.proofs.machine.Machine.events.Goals as goal

pub returns-clause-legal : goal.returns-clause-legal
returns-clause-legal c = legal c.args.self.now c.explained.ensures (order_of (past_of c.args.self.now)) refl

use Rattle.std.proofs.Common.{sym}
use Rattle.running.proofs.Asks.{met_kind}
use Rattle.running.proofs.programs.Programs.running_kind.Goals as goal

pub returns-in-Met : goal.returns-in-Met
returns-in-Met c = λ state operation. rw c.in-Met.is (sym (met_kind c.args.self.now c.args.program c.in-Met.field-0 state operation (rw c.in-Met.is at c.requires.waits)))

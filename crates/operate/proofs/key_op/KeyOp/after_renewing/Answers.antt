use Rattle.operate.proofs.Anew.{begins}
use Rattle.operate.proofs.key_op.KeyOp.after_renewing.Goals as goal

pub returns-in-Renewed-clause-reads : goal.returns-in-Renewed-clause-reads
returns-in-Renewed-clause-reads c = rw c.read_next.ensures (begins c.args.self.now.work.swap.read.at)

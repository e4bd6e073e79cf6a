use Rattle.std.proofs.Common.{◌∙◌, sym}
use Rattle.operate.proofs.key_op.KeyOp.after_try.Goals as goal

pub returns-in-Some-clause-line : goal.returns-in-Some-clause-line
returns-in-Some-clause-line c = rw (c.in-Changed.is, c.in-Some.is) (λ state operation fresh h. c.climb_on.ensures.line c.args.self.now.work.swap.read.access operation ∙ sym h)

pub returns-in-None-clause-line : goal.returns-in-None-clause-line
returns-in-None-clause-line c = rw (c.in-Changed.is, c.in-None.is) (λ state operation fresh h. c.answer.ensures.line c.args.self.now.work.swap.read.access operation ∙ sym h)

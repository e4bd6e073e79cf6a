use Rattle.operate.proofs.key_op.KeyOp.after_climb.Goals as goal

pub returns-in-Higher-clause-line : goal.returns-in-Higher-clause-line
returns-in-Higher-clause-line c = λ access operation. rw (c.in-Higher.is, ← c.pop.ensures) (c.climb_on.ensures.line access operation)

pub returns-in-Climbed-clause-line : goal.returns-in-Climbed-clause-line
returns-in-Climbed-clause-line c = λ access operation. rw c.in-Climbed.is (c.answer.ensures.line access operation)

use Rattle.operate.proofs.key_op.KeyOp.climb_again.Goals as goal

pub returns-then-is_start-clause-line : goal.returns-then-is_start-clause-line
returns-then-is_start-clause-line c = λ access operation. rw (← c.is_start.ensures, c.if-is_start.true) (c.climb_on.ensures.line access operation)

pub returns-else-is_start-clause-line : goal.returns-else-is_start-clause-line
returns-else-is_start-clause-line c = λ access operation. rw (← c.is_start.ensures, c.if-is_start.false) (c.answer.ensures.line access operation)

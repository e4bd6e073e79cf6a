use Rattle.std.specs.Prelude.{ℕ}
use Rattle.operate.specs.Vocabulary.{Operation, above}
use Rattle.operate.specs.declared.key_op.KeyOp.{KeyOp}
use Rattle.operate.proofs.key_op.KeyOp.published.Goals as goal

-- any operation as one of this call
abbrev own : ℕ → KeyOp → Operation → Operation
own id op operation = record operation { id = id; access = op.work.swap.read.access; generation = op.task.generation }

pub returns-in-Change : goal.returns-in-Change
returns-in-Change c = rw (c.in-Down.is, c.in-Change.is) (λ told operation. (rw c.entrant.ensures at c.published.ensures) operation c.args.self.now.path told)

pub returns-in-Renew : goal.returns-in-Renew
returns-in-Renew c = rw (c.in-Down.is, c.in-Renew.is) (λ told operation. c.published-in-Renew.ensures (own c.args.id c.args.self.now operation) c.args.self.now.path told)

pub returns-in-Clean : goal.returns-in-Clean
returns-in-Clean c = rw (c.in-Down.is, c.in-Clean.is) (λ told operation. c.published-in-Clean.ensures (own c.args.id c.args.self.now operation) (above c.args.self.now.path) told)

pub returns-in-Climb : goal.returns-in-Climb
returns-in-Climb c = rw (c.in-Down.is, c.in-Climb.is) (λ told operation. c.published-in-Climb.ensures (own c.args.id c.args.self.now operation) c.args.self.now.path told)

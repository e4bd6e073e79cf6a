use Rattle.operate.proofs.Anew.{begins}
use Rattle.std.specs.Prelude.{◌≡◌, false}
use Rattle.operate.specs.Vocabulary.{is_below_root}
use Rattle.operate.proofs.key_op.KeyOp.climb_on.Goals as goal

pub returns-else-is_below_root-clause-line : goal.returns-else-is_below_root-clause-line
returns-else-is_below_root-clause-line c =
    let e : is_below_root c.args.self.now.path ≡ false = cc in
    λ access operation. rw e (c.answer.ensures.line access operation)

pub returns-then-is_below_root-clause-reads : goal.returns-then-is_below_root-clause-reads
returns-then-is_below_root-clause-reads c = rw c.begin-self.ensures.read (begins c.args.self.now.work.swap.read.at)

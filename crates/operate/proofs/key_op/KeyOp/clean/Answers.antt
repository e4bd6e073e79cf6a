use Rattle.std.proofs.Common.{◌∙◌, sym}
use Rattle.operate.proofs.key_op.KeyOp.clean.Goals as goal

pub returns-in-More-clause-follows : goal.returns-in-More-clause-follows
returns-in-More-clause-follows c = rw c.requires.at (rw (c.above-parents.ensures, c.as_slice.ensures) at c.in-More.ensures.follows)

pub returns-in-AskRoot-clause-follows : goal.returns-in-AskRoot-clause-follows
returns-in-AskRoot-clause-follows c = rw (c.above-parents.ensures, c.as_slice.ensures) at c.in-AskRoot.ensures.follows

pub returns-in-Done-clause-follows : goal.returns-in-Done-clause-follows
returns-in-Done-clause-follows c =
    let told = rw (c.above-parents.ensures, c.as_slice.ensures) at c.in-Done.ensures.follows in
    λ state operation. (
      (told state operation).0,
      (told state operation).1 ∙ sym c.after_cleaning.ensures.line,
      rw c.after_cleaning.ensures.same.1 (told state operation).2,
    )

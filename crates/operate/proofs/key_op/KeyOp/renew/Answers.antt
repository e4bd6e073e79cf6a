use Rattle.std.proofs.Common.{◌∙◌, sym}
use Rattle.operate.proofs.Anew.{anew}
use Rattle.operate.proofs.key_op.KeyOp.renew.Goals as goal

pub returns-in-More-clause-follows : goal.returns-in-More-clause-follows
returns-in-More-clause-follows c = rw c.requires.at (rw c.as_slice.ensures at c.in-More.ensures.follows)

pub returns-in-AskRoot-clause-follows : goal.returns-in-AskRoot-clause-follows
returns-in-AskRoot-clause-follows c = rw c.as_slice.ensures at c.in-AskRoot.ensures.follows

pub returns-in-Done-clause-follows : goal.returns-in-Done-clause-follows
returns-in-Done-clause-follows c =
    let me = c.args.self.now in
    λ state operation.
    let leads = (rw c.as_slice.ensures at c.in-Done.ensures.follows) state operation in
    let none = (rw c.as_slice.ensures at c.in-Done.ensures.last) (tt {0}) in (
      leads.0,
      leads.1 ∙ sym c.after_renewing.ensures.line,
      anew c.args.heap.now.heap me.work.swap.read.access _ c.in-Done.kind _ _ none c.after_renewing.ensures.reads leads.2,
    )

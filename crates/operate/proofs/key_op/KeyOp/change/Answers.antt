use Rattle.operate.specs.Vocabulary.{at_heap}
use Rattle.operate.specs.Places.{former_of}
use Rattle.operate.specs.Steps.{operation_for}
use Rattle.std.proofs.Common.{◌∙◌, sym}
use Rattle.operate.proofs.Anew.{anew}
use Rattle.operate.proofs.key_op.KeyOp.change.Goals as goal

pub returns-in-More-clause-follows : goal.returns-in-More-clause-follows
returns-in-More-clause-follows c = rw c.requires.at (rw c.as_slice.ensures at c.in-More.ensures.follows)

pub returns-in-AskRoot-clause-follows : goal.returns-in-AskRoot-clause-follows
returns-in-AskRoot-clause-follows c = rw c.as_slice.ensures at c.in-AskRoot.ensures.follows

pub returns-in-Done-clause-follows : goal.returns-in-Done-clause-follows
returns-in-Done-clause-follows c =
    let me = c.args.self.now in
    λ state operation.
    let leads = (rw c.as_slice.ensures at c.in-Done.ensures.follows) state operation in
    let none = (rw c.as_slice.ensures at c.in-Done.ensures.last) (tt {0}) in
    let tomb = c.tomb_at-tomb.ensures (operation_for me operation) me.path (former_of c.in-Done.tried) in (
      leads.0,
      leads.1 ∙ sym (c.after_try.ensures.line (at_heap state c.args.heap.now.heap me.task.hashes) operation me.work.swap.fresh tomb),
      anew c.args.heap.now.heap me.work.swap.read.access _ c.in-Done.kind _ _ none c.after_try.ensures.reads leads.2,
    )

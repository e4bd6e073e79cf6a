use Rattle.std.proofs.Common.{sym, ◌∙◌}
use Rattle.snapshot.specs.Tasks.{at_roots, for_task}
use Rattle.snapshot.proofs.Makings.{leads}
use Rattle.snapshot.proofs.copy_op.CopyOp.make.Goals as goal

pub returns-in-Some-clause-follows : goal.returns-in-Some-clause-follows
returns-in-Some-clause-follows c =
    λ state operation table access mark. leads
    (at_roots state c.args.heap.now.heap table)
    (for_task c.args.task c.args.self.now.attempt mark access operation)
    c.args.self.now.root
    c.in-Some.made
    c.args.making.now
    _
    _
    (sym c.in-Some.is ∙ c.make.ensures.made)
    (c.after_made-at.ensures.line operation access mark _)

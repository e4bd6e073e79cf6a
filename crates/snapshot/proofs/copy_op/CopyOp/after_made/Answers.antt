use Rattle.snapshot.proofs.copy_op.CopyOp.after_made.Goals as goal

pub returns-in-Freeze-clause-line : goal.returns-in-Freeze-clause-line
returns-in-Freeze-clause-line c = λ operation access mark r. rw (c.in-Successor.is, c.in-Freeze.is) (c.offering.ensures.line operation access mark r)

pub returns-in-Clear-clause-line : goal.returns-in-Clear-clause-line
returns-in-Clear-clause-line c = λ operation access mark r. rw (c.in-Successor.is, c.in-Clear.is) (c.offering-in-Clear.ensures.line operation access mark r)

pub returns-in-Second-clause-line : goal.returns-in-Second-clause-line
returns-in-Second-clause-line c = λ operation access mark r. rw c.in-Second.is (c.offering-in-Second.ensures.line operation access mark r)

pub returns-in-Cleared-clause-line : goal.returns-in-Cleared-clause-line
returns-in-Cleared-clause-line c = λ operation access mark r. rw c.in-Cleared.is (c.offering-in-Cleared.ensures.line operation access mark r)

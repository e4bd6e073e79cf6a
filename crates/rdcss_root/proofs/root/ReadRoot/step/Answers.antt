use Rattle.rdcss_root.proofs.Together.{by_looking}
use Rattle.rdcss_root.proofs.root.ReadRoot.step.Goals as goal

pub returns-in-Read-clause-follows : goal.returns-in-Read-clause-follows
returns-in-Read-clause-follows c = rw c.in-Read.is (c.read.ensures.follows c.args.heap.now.heap)

pub returns-in-Read-clause-acts : goal.returns-in-Read-clause-acts
returns-in-Read-clause-acts c = λ private. rw c.in-Read.is (by_looking c.args.heap.now c.args.roots.now.roots private)

pub returns-in-Completing-clause-acts : goal.returns-in-Completing-clause-acts
returns-in-Completing-clause-acts c = λ private. rw c.in-Completing.is (c.complete.ensures.acts private)

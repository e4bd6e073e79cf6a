use Rattle.contract.proofs.renew.Renew.step.Goals as goal

pub returns-in-Entry-clause-follows : goal.returns-in-Entry-clause-follows
returns-in-Entry-clause-follows c = λ state operation. rw c.in-Entry.is (c.look.ensures.follows state operation c.args.path.now)

pub returns-in-Read-clause-follows : goal.returns-in-Read-clause-follows
returns-in-Read-clause-follows c = λ state operation. rw c.in-Read.is (c.read.ensures.follows state operation c.args.path.now c.args.task)

pub returns-in-Read-clause-acts : goal.returns-in-Read-clause-acts
returns-in-Read-clause-acts c = λ state operation. rw c.in-Read.is (c.read.ensures.acts state operation c.args.path.now)

pub returns-in-Link-clause-follows : goal.returns-in-Link-clause-follows
returns-in-Link-clause-follows c = λ state operation. rw c.in-Link.is (c.link.ensures.follows state operation c.args.path.now)

pub returns-in-Link-clause-acts : goal.returns-in-Link-clause-acts
returns-in-Link-clause-acts c = λ state operation. rw c.in-Link.is (c.link.ensures.acts state operation c.args.path.now)

pub returns-in-Branch-clause-follows : goal.returns-in-Branch-clause-follows
returns-in-Branch-clause-follows c = λ state operation. rw c.in-Branch.is (c.make_branch.ensures.follows state operation c.args.task)

pub returns-in-Branch-clause-acts : goal.returns-in-Branch-clause-acts
returns-in-Branch-clause-acts c = λ state operation. rw c.in-Branch.is (c.make_branch.ensures.acts state operation c.args.task.hashes)

pub returns-in-Swap-clause-follows : goal.returns-in-Swap-clause-follows
returns-in-Swap-clause-follows c = λ state operation. rw c.in-Swap.is (c.swap.ensures.follows state operation c.args.path.now c.args.task)

pub returns-in-Swap-clause-acts : goal.returns-in-Swap-clause-acts
returns-in-Swap-clause-acts c = λ state operation. rw c.in-Swap.is (c.swap.ensures.acts state operation c.args.path.now)

use Rattle.contract.proofs.clean.Clean.put.Goals as goal

pub returns-clause-follows : goal.returns-clause-follows
returns-clause-follows c = λ state hashes path s. rw (← c.push.ensures.items) (c.go_on.ensures.follows state hashes path s)

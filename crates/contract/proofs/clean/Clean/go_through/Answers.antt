use Rattle.contract.proofs.clean.Clean.go_through.Goals as goal

pub returns-clause-follows : goal.returns-clause-follows
returns-clause-follows c = λ state hashes path s. rw c.clear.ensures at (c.go_on.ensures.follows state hashes path s)

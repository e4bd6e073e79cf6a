use Rattle.contract.proofs.climb.Climb.contract.Goals as goal

pub make-requires-clause-can : goal.make-requires-clause-can
make-requires-clause-can c = rw (c.climbed_node-node.ensures c.args.self.now.former) c.requires.can

pub returns-in-None-clause-acts : goal.returns-in-None-clause-acts
returns-in-None-clause-acts c = rw (c.climbed_node-node.ensures c.args.self.now.former) at c.make.ensures.acts

pub returns-in-Some-clause-acts : goal.returns-in-Some-clause-acts
returns-in-Some-clause-acts c = rw (c.climbed_node-node.ensures c.args.self.now.former) at c.make.ensures.acts

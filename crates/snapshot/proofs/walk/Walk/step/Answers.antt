use Rattle.snapshot.proofs.walk.Walk.step.Goals as goal

pub returns-in-Root-clause-follows : goal.returns-in-Root-clause-follows
returns-in-Root-clause-follows c = λ state operation call same. rw c.in-Root.is (c.open.ensures.follows state operation c.args.heap.now.heap call same)

pub returns-in-Read-clause-follows : goal.returns-in-Read-clause-follows
returns-in-Read-clause-follows c = λ state operation call same. rw c.in-Read.is (c.read.ensures.follows state operation c.args.roots.now call)

pub returns-in-Main-clause-follows : goal.returns-in-Main-clause-follows
returns-in-Main-clause-follows c = λ state operation call same. rw c.in-Main.is (c.look.ensures.follows state operation c.args.roots.now call c.args.work.now.swap.read)

pub returns-in-Entry-clause-follows : goal.returns-in-Entry-clause-follows
returns-in-Entry-clause-follows c = λ state operation call same. rw c.in-Entry.is (c.take.ensures.follows state operation c.args.roots.now call)

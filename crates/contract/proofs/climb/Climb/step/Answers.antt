use Rattle.contract.specs.Climbing.{climb_of}
use Rattle.contract.proofs.Made.{climbs}
use Rattle.contract.proofs.climb.Climb.step.Goals as goal

pub returns-in-Read-clause-follows : goal.returns-in-Read-clause-follows
returns-in-Read-clause-follows c = λ state operation. rw c.in-Read.is (c.read.ensures.follows state operation c.args.path.now c.args.task)

pub returns-in-Read-clause-acts : goal.returns-in-Read-clause-acts
returns-in-Read-clause-acts c = λ state operation. rw c.in-Read.is (c.read.ensures.acts state operation c.args.path.now)

pub returns-in-Main-clause-follows : goal.returns-in-Main-clause-follows
returns-in-Main-clause-follows c =
    let s = c.args.work.now.swap in
    λ state operation. rw c.in-Main.is (c.look.ensures.follows state operation s.read.access s s.read.at)

pub returns-in-Swap-clause-follows : goal.returns-in-Swap-clause-follows
returns-in-Swap-clause-follows c = λ state operation. rw c.in-Swap.is (c.swap.ensures.follows state operation c.args.path.now c.args.task)

pub returns-in-Swap-clause-acts : goal.returns-in-Swap-clause-acts
returns-in-Swap-clause-acts c = λ state operation. rw c.in-Swap.is (c.swap.ensures.acts state operation c.args.path.now)

pub returns-in-Contracted-clause-acts : goal.returns-in-Contracted-clause-acts
returns-in-Contracted-clause-acts c =
    let heap = c.args.heap.now.heap in
    let task = c.args.task in
    let access = c.args.work.now.swap.read.access in
    λ state operation. rw (c.in-Contracted.is, ← climbs heap task access state operation (climb_of c.args.path.now c.args.self.now) c.in-Contracted.main) c.contract.ensures.acts

pub returns-in-Contracted-clause-follows : goal.returns-in-Contracted-clause-follows
returns-in-Contracted-clause-follows c = rw c.in-Contracted.is c.contract.ensures.follows

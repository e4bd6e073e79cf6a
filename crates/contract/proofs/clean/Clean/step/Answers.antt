use Rattle.trie_parts.specs.Tasks.{for_task}
use Rattle.contract.proofs.clean.Clean.step.Goals as goal

pub returns-in-Read-clause-follows : goal.returns-in-Read-clause-follows
returns-in-Read-clause-follows c = λ state operation. rw c.in-Read.is (c.read.ensures.follows state operation c.args.path.now c.args.task)

pub returns-in-Read-clause-acts : goal.returns-in-Read-clause-acts
returns-in-Read-clause-acts c = λ state operation. rw c.in-Read.is (c.read.ensures.acts state operation c.args.path.now)

pub returns-in-Main-clause-follows : goal.returns-in-Main-clause-follows
returns-in-Main-clause-follows c =
    let s = c.args.work.now.swap in
    λ state operation. rw c.in-Main.is (
    c.look.ensures.follows state c.args.task.hashes (for_task c.args.task s.read.access operation) c.args.path.now s s.read.at
    )

pub returns-in-Child-clause-follows : goal.returns-in-Child-clause-follows
returns-in-Child-clause-follows c = λ state operation. rw c.in-Child.is (c.read_child.ensures.follows state operation c.args.path.now c.args.task)

pub returns-in-Child-clause-acts : goal.returns-in-Child-clause-acts
returns-in-Child-clause-acts c = λ state operation. rw c.in-Child.is (c.read_child.ensures.acts state operation c.args.path.now)

pub returns-in-Contracted-clause-acts : goal.returns-in-Contracted-clause-acts
returns-in-Contracted-clause-acts c =
    λ state operation. rw c.in-Contracted.is (
    c.contract.ensures.acts state (for_task c.args.task c.args.work.now.swap.read.access operation) c.args.task.hashes
    )

pub returns-in-Swap-clause-follows : goal.returns-in-Swap-clause-follows
returns-in-Swap-clause-follows c = λ state operation. rw c.in-Swap.is (c.swap.ensures.follows state operation c.args.path.now c.args.task)

pub returns-in-Swap-clause-acts : goal.returns-in-Swap-clause-acts
returns-in-Swap-clause-acts c = λ state operation. rw c.in-Swap.is (c.swap.ensures.acts state operation)

pub returns-in-Entry-clause-follows : goal.returns-in-Entry-clause-follows
returns-in-Entry-clause-follows c =
    λ state operation. rw c.in-Entry.is (
    c.look_at_entry.ensures.follows state c.args.task.hashes (for_task c.args.task c.args.work.now.swap.read.access operation) c.args.path.now
    )

pub returns-in-Tomb-clause-follows : goal.returns-in-Tomb-clause-follows
returns-in-Tomb-clause-follows c =
    let s = c.args.work.now.swap in
    λ state operation. rw c.in-Tomb.is (
    c.look_at_child.ensures.follows state c.args.task.hashes (for_task c.args.task s.read.access operation) c.args.path.now s s.read.at
    )

pub returns-in-Contracted-clause-follows : goal.returns-in-Contracted-clause-follows
returns-in-Contracted-clause-follows c =
    λ state operation. rw c.in-Contracted.is (
    c.contract.ensures.follows state (for_task c.args.task c.args.work.now.swap.read.access operation) c.args.task.hashes
    )

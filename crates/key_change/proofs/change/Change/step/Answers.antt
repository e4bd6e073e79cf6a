use Rattle.trie_parts.specs.Tasks.{for_task}
use Rattle.key_change.proofs.change.Change.step.Goals as goal

pub returns-in-Sibling-clause-follows : goal.returns-in-Sibling-clause-follows
returns-in-Sibling-clause-follows c =
    let work = c.args.work.now in
    λ state operation. rw c.in-Sibling.is (
    c.look.ensures.follows state (for_task c.args.task work.swap.read.access operation) c.args.task.hashes c.args.path.now work.swap work.swap.fresh work.swap.read.at
    )

pub returns-in-Swap-clause-follows : goal.returns-in-Swap-clause-follows
returns-in-Swap-clause-follows c = λ state operation. rw c.in-Swap.is (c.swap.ensures.follows state operation c.args.path.now c.args.task.hashes c.args.task)

pub returns-in-Build-clause-follows : goal.returns-in-Build-clause-follows
returns-in-Build-clause-follows c = rw c.in-Build.is c.make.ensures.follows

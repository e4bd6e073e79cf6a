use Rattle.root_asking.proofs.Aborting.{acts, goes_on, is_told}
use Rattle.root_asking.proofs.asking.Asking.step.Goals as goal

pub unreachable-requires : goal.unreachable-requires
unreachable-requires c = rw c.in-AskRoot.is at (c.step.ensures.follows 0 0 0)

pub returns-in-More-clause-follows : goal.returns-in-More-clause-follows
returns-in-More-clause-follows c =
    rw c.asking_of.ensures (
    goes_on c.args.heap.now.heap c.args.roots.now c.args.handle c.args.self.now c.step.new.self c.in-More.kind c.requires.untold
    (λ indirection main previous. rw c.in-More.is at (rw c.abort_of-abort.ensures at (c.step.ensures.follows indirection main previous)))
    )

pub returns-in-More-clause-acts : goal.returns-in-More-clause-acts
returns-in-More-clause-acts c = acts c.args.self.now c.step.ensures.moves

pub returns-in-Done-clause-follows : goal.returns-in-Done-clause-follows
returns-in-Done-clause-follows c =
    is_told c.args.heap.now.heap c.args.roots.now c.args.handle c.args.self.now c.step.new.self c.in-Done.kind c.in-Done.generation c.requires.untold
    (λ indirection main previous. rw c.in-Done.is at (rw c.abort_of-abort.ensures at (c.step.ensures.follows indirection main previous)))

pub returns-in-Done-clause-acts : goal.returns-in-Done-clause-acts
returns-in-Done-clause-acts c = acts c.args.self.now c.step.ensures.moves

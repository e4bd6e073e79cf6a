use Rattle.operate.specs.Beneath.rdcss_root.proofs.Together.{by_parts}
use Rattle.operate.proofs.key_op.KeyOp.step.Goals as goal

pub returns-in-Root-clause-acts : goal.returns-in-Root-clause-acts
returns-in-Root-clause-acts c = rw (c.in-Root.is, c.find_root.ensures.same.0) (λ state operation. c.find_root.ensures.acts c.args.self.now.work.private)

pub returns-in-RootAgain-clause-acts : goal.returns-in-RootAgain-clause-acts
returns-in-RootAgain-clause-acts c = rw (c.in-RootAgain.is, c.find_root_again.ensures.same.1) (λ state operation. c.find_root_again.ensures.acts c.args.self.now.work.private)

pub returns-in-Read-clause-follows : goal.returns-in-Read-clause-follows
returns-in-Read-clause-follows c = rw (c.in-Down.is, c.in-Read.is) (λ state operation word. c.read.ensures.follows state operation)

pub returns-in-Read-clause-acts : goal.returns-in-Read-clause-acts
returns-in-Read-clause-acts c = rw (c.in-Down.is, c.in-Read.is) (λ state operation. by_parts c.args.roots.now.roots (c.read.ensures.acts state operation))

pub returns-in-Change-clause-acts : goal.returns-in-Change-clause-acts
returns-in-Change-clause-acts c = rw (c.in-Down.is, c.in-Change.is) (λ state operation. by_parts c.args.roots.now.roots (c.change.ensures.acts state operation))

pub returns-in-Renew-clause-acts : goal.returns-in-Renew-clause-acts
returns-in-Renew-clause-acts c = rw (c.in-Down.is, c.in-Renew.is) (λ state operation. by_parts c.args.roots.now.roots (c.renew.ensures.acts state operation))

pub returns-in-Clean-clause-acts : goal.returns-in-Clean-clause-acts
returns-in-Clean-clause-acts c = rw (c.in-Down.is, c.in-Clean.is) (λ state operation. by_parts c.args.roots.now.roots (c.clean.ensures.acts state operation))

pub returns-in-Climb-clause-acts : goal.returns-in-Climb-clause-acts
returns-in-Climb-clause-acts c = rw (c.in-Down.is, c.in-Climb.is) (λ state operation. by_parts c.args.roots.now.roots (c.climb.ensures.acts state operation))

pub returns-in-Change-clause-follows : goal.returns-in-Change-clause-follows
returns-in-Change-clause-follows c = rw (c.next-in-Change.ensures, c.in-Down.is, c.in-Change.is) (λ state operation word. c.change.ensures.follows state operation)

pub returns-in-Renew-clause-follows : goal.returns-in-Renew-clause-follows
returns-in-Renew-clause-follows c = rw (c.next-in-Renew.ensures, c.in-Down.is, c.in-Renew.is) (λ state operation word. c.renew.ensures.follows state operation)

pub returns-in-Clean-clause-follows : goal.returns-in-Clean-clause-follows
returns-in-Clean-clause-follows c = rw (c.next-in-Clean.ensures, c.in-Down.is, c.in-Clean.is) (λ state operation word. c.clean.ensures.follows state operation)

pub returns-in-Climb-clause-follows : goal.returns-in-Climb-clause-follows
returns-in-Climb-clause-follows c = rw (c.next-in-Climb.ensures, c.in-Down.is, c.in-Climb.is) (λ state operation word. c.climb.ensures.follows state operation)

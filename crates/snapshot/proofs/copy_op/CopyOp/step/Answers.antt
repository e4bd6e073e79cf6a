use Rattle.snapshot.specs.Beneath.gcas.specs.Reads.{line_of}
use Rattle.snapshot.specs.Beneath.rdcss_root.specs.Programs.{root_of, complete_of}
use Rattle.snapshot.specs.Tasks.{mark_of}
use Rattle.snapshot.proofs.Undrawn.{of_root, of_complete, of_read, of_making}
use Rattle.snapshot.proofs.copy_op.CopyOp.step.Goals as goal

pub returns-in-Root-clause-follows : goal.returns-in-Root-clause-follows
returns-in-Root-clause-follows c =
    λ state operation. rw c.in-Root.is (c.find_root.ensures.follows state operation c.args.self.now.attempt (mark_of c.args.roots.now c.args.task))

pub returns-in-Root-clause-acts : goal.returns-in-Root-clause-acts
returns-in-Root-clause-acts c =
    rw c.in-Root.is (
    of_root
    c.args.generations.now
    (root_of c.in-Root.root c.args.work.now.swap.read c.args.root_seen)
    c.find_root.ensures.same.1
    (c.find_root.ensures.acts c.args.work.now.private)
    )

pub returns-in-Read-clause-follows : goal.returns-in-Read-clause-follows
returns-in-Read-clause-follows c =
    λ state operation. rw c.in-Read.is (c.read.ensures.follows state operation c.args.roots.now c.args.self.now.attempt (mark_of c.args.roots.now c.args.task))

pub returns-in-Read-clause-acts : goal.returns-in-Read-clause-acts
returns-in-Read-clause-acts c =
    let r = c.args.work.now.swap.read in
    rw c.in-Read.is (of_read c.args.roots.now.roots c.args.generations.now r.indirection (line_of r c.args.root_seen) c.read.ensures.acts)

pub returns-in-Make-clause-acts : goal.returns-in-Make-clause-acts
returns-in-Make-clause-acts c =
    rw c.in-Make.is (of_making c.args.roots.now.roots c.args.generations.now c.args.self.now.root c.in-Make.making c.make.ensures.acts)

pub returns-in-Offer-clause-follows : goal.returns-in-Offer-clause-follows
returns-in-Offer-clause-follows c =
    λ state operation. rw c.in-Offer.is (c.offer.ensures.follows state operation c.args.self.now.attempt (mark_of c.args.roots.now c.args.task))

pub returns-in-Complete-clause-follows : goal.returns-in-Complete-clause-follows
returns-in-Complete-clause-follows c = λ state operation. rw c.in-Complete.is (c.complete.ensures.follows state operation c.args.self.now.attempt)

pub returns-in-Complete-clause-acts : goal.returns-in-Complete-clause-acts
returns-in-Complete-clause-acts c =
    rw c.in-Complete.is (
    of_complete
    c.args.generations.now
    (complete_of c.in-Complete.complete c.args.work.now.swap.read c.args.root_seen)
    c.complete.ensures.same.2
    (c.complete.ensures.acts c.args.work.now.private)
    )

pub returns-in-Root-clause-generation : goal.returns-in-Root-clause-generation
returns-in-Root-clause-generation c =
    λ state operation. rw c.in-Root.is (c.find_root.ensures.generation state operation c.args.self.now.attempt (mark_of c.args.roots.now c.args.task))

pub returns-in-Make-clause-follows : goal.returns-in-Make-clause-follows
returns-in-Make-clause-follows c =
    λ state operation. rw c.in-Make.is (
    c.make.ensures.follows state operation c.args.roots.now c.args.work.now.swap.read.access (mark_of c.args.roots.now c.args.task)
    )

use Rattle.rdcss_root.specs.Beneath.gcas.specs.Reads.{line_of}
use Rattle.rdcss_root.specs.Tables.{word_in}
use Rattle.rdcss_root.proofs.Together.{by_read, by_swap}
use Rattle.rdcss_root.proofs.complete.Complete.step.Goals as goal

pub returns-in-Reading-clause-follows : goal.returns-in-Reading-clause-follows
returns-in-Reading-clause-follows c = rw c.in-Reading.is (c.read.ensures.follows (word_in c.args.roots.now c.args.handle))

pub returns-in-Reading-clause-acts : goal.returns-in-Reading-clause-acts
returns-in-Reading-clause-acts c =
    λ private. rw c.in-Reading.is (
    by_read c.args.roots.now.roots private c.args.self.now.offer.root (line_of c.args.read.now c.args.root_seen) c.read.ensures.heap c.read.ensures.beside
    )

pub returns-in-Swap-clause-acts : goal.returns-in-Swap-clause-acts
returns-in-Swap-clause-acts c = λ private. rw c.in-Swap.is (by_swap private _ _ c.swap.ensures.moves)

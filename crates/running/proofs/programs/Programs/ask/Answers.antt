use Rattle.running.proofs.Asks.{steps}
use Rattle.running.proofs.programs.Programs.ask.Goals as goal

pub returns : goal.returns
returns c =
    steps
    c.args.job.now
    c.args.program.now
    (record { memory = c.args.heap.now; table = c.args.roots.now; generation = c.args.generation; programs = c.args.self.now })
    c.args.asking
    c.step-kind.new.self
    c.step-kind.new.heap
    c.step-kind.new.roots
    c.step-kind.result
    c.requires.asks
    c.requires.untold
    c.requires.begun
    c.requires.reads
    c.step-kind.ensures.follows
    c.step-kind.ensures.table
    (c.step-kind.ensures.acts c.args.self.now.key.work.private)

use Rattle.std.specs.Prelude.{◌≡◌, None}
use Rattle.running.specs.Vocabulary.{no_state, no_operation, IsAskingLine, copy_line}
use Rattle.running.specs.declared.programs.ProgramAt.TheVariants.{Runs, Swapped}
use Rattle.running.proofs.Going.{copies}
use Rattle.running.proofs.Lasting.{copy_untold}
use Rattle.running.proofs.programs.Programs.step_copy.Goals as goal

pub ask-kind-requires-clause-asks : goal.ask-kind-requires-clause-asks
ask-kind-requires-clause-asks c =
    let p = c.args.self.now in
    let asking : IsAskingLine (copy_line p.key.work.swap.read c.args.root_seen p.copy) = c.in-AskRoot.ensures.follows no_state no_operation in
    let same = c.in-AskRoot.ensures.asks (tt {0}) in
    let untold : c.args.root_seen ≡ None = copy_untold p.key.work.swap.read c.args.root_seen p.copy asking in
    rw (same.0, same.1) (rw untold at asking)

pub ask-kind-requires-clause-reads : goal.ask-kind-requires-clause-reads
ask-kind-requires-clause-reads c =
    let same = c.in-AskRoot.ensures.asks (tt {0}) in
    rw (same.0, same.1) c.requires.reads

pub returns-in-AskRoot : goal.returns-in-AskRoot
returns-in-AskRoot c =
    let p = c.args.self.now in
    let asking : IsAskingLine (copy_line p.key.work.swap.read c.args.root_seen p.copy) = c.in-AskRoot.ensures.follows no_state no_operation in
    let same = c.in-AskRoot.ensures.asks (tt {0}) in
    let untold : c.args.root_seen ≡ None = copy_untold p.key.work.swap.read c.args.root_seen p.copy asking in
    rw (untold, same.3) (rw (same.0, same.1, same.2, same.3, same.4) at c.ask-kind.ensures)

pub returns-in-More : goal.returns-in-More
returns-in-More c =
    rw (c.go_so.ensures.same, c.go_so.ensures.ran) (
    copies
    c.args.job.now
    c.args.call
    c.args.root_seen
    (record { memory = c.args.heap.now; table = c.args.roots.now; generation = c.args.generations.now; programs = c.args.self.now })
    c.step.new.heap
    c.step.new.roots
    c.step.new.generations
    c.step.new.work
    c.step.new.self
    c.in-More.kind
    Runs
    (rw c.swapping-task.ensures at c.in-More.ensures.follows)
    c.in-More.ensures.acts
    (rw c.swapping-task.ensures at c.in-More.ensures.table)
    c.in-More.ensures.drawn
    c.in-More.ensures.attempt
    (rw c.swapping-task.ensures at c.in-More.ensures.generation)
    c.step.ensures.access
    c.in-More.ensures.stands
    )

pub returns-in-Done : goal.returns-in-Done
returns-in-Done c =
    rw (c.come_to.ensures.same, c.come_to.ensures.ran) (
    copies
    c.args.job.now
    c.args.call
    c.args.root_seen
    (record { memory = c.args.heap.now; table = c.args.roots.now; generation = c.args.generations.now; programs = c.args.self.now })
    c.step.new.heap
    c.step.new.roots
    c.step.new.generations
    c.step.new.work
    c.step.new.self
    c.in-Done.kind
    (Swapped c.in-Done.reply)
    (rw c.swapping-task.ensures at c.in-Done.ensures.follows)
    c.in-Done.ensures.acts
    (rw c.swapping-task.ensures at c.in-Done.ensures.table)
    c.in-Done.ensures.drawn
    c.in-Done.ensures.attempt
    (rw c.swapping-task.ensures at c.in-Done.ensures.generation)
    c.step.ensures.access
    tt
    )

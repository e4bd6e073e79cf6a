use Rattle.std.specs.Prelude.{◌≡◌, None}
use Rattle.std.proofs.Common.{ap, ◌∙◌}
use Rattle.running.specs.Beneath.machine_model.specs.declared.lines.Line.TheVariants as line
use Rattle.running.specs.Vocabulary.{no_state, no_operation, IsAskingLine, walk_line}
use Rattle.snapshot.specs.Walks.{call_of}
use Rattle.running.specs.declared.job.Program.TheVariants.{Walk}
use Rattle.running.specs.declared.programs.ProgramAt.TheVariants.{Runs, Walked, Impossible}
use Rattle.running.proofs.Asks.{handle_named}
use Rattle.running.proofs.Going.{walked_same, walks}
use Rattle.running.proofs.Lasting.{walk_untold}
use Rattle.running.proofs.programs.Programs.step_walk.Goals as goal

pub ask-kind-requires-clause-asks : goal.ask-kind-requires-clause-asks
ask-kind-requires-clause-asks c =
    let p = c.args.self.now in
    let asking : IsAskingLine (walk_line p.key.work.swap.read c.args.root_seen p.walk) =
    c.in-AskRoot.ensures.follows no_state no_operation (call_of c.args.job.now.handle c.args.call) (handle_named c.args.job.now.handle (Walk c.args.call)) in
    let same = c.in-AskRoot.ensures.asks (tt {0}) in
    let untold : c.args.root_seen ≡ None = walk_untold p.key.work.swap.read c.args.root_seen p.walk asking in
    rw (same.0, same.1) (rw untold at asking)

pub returns-in-AskRoot : goal.returns-in-AskRoot
returns-in-AskRoot c =
    let p = c.args.self.now in
    let asking : IsAskingLine (walk_line p.key.work.swap.read c.args.root_seen p.walk) =
    c.in-AskRoot.ensures.follows no_state no_operation (call_of c.args.job.now.handle c.args.call) (handle_named c.args.job.now.handle (Walk c.args.call)) in
    let same = c.in-AskRoot.ensures.asks (tt {0}) in
    let untold : c.args.root_seen ≡ None = walk_untold p.key.work.swap.read c.args.root_seen p.walk asking in
    rw untold (rw (same.0, same.1, same.2) at c.ask-kind.ensures)

pub returns-in-More : goal.returns-in-More
returns-in-More c =
    rw (c.go_so.ensures.ran, c.go_so.ensures.same) (
    walks
    c.args.job.now
    c.args.call
    c.args.root_seen
    (record { memory = c.args.heap.now; table = c.args.roots.now; generation = c.args.generation; programs = c.args.self.now })
    c.step.new.heap
    c.step.new.work
    c.step.new.self
    c.in-More.kind
    Runs
    (λ state operation. c.in-More.ensures.follows state operation (call_of c.args.job.now.handle c.args.call) (handle_named c.args.job.now.handle (Walk c.args.call)))
    c.in-More.ensures.acts
    c.step.ensures.access
    tt
    )

pub returns-in-Done-default-All : goal.returns-in-Done-default-All
returns-in-Done-default-All c =
    let handle = c.args.job.now.handle in
    rw (c.come_to.ensures.ran, c.come_to.ensures.same) (
    walks
    c.args.job.now
    c.args.call
    c.args.root_seen
    (record { memory = c.args.heap.now; table = c.args.roots.now; generation = c.args.generation; programs = c.args.self.now })
    c.step.new.heap
    c.step.new.work
    c.step.new.self
    c.in-Done-default-All.kind
    (Walked c.args.call)
    (λ state operation.
    let told = (rw c.in-Done-default-All.field-1-is at c.in-Done-default-All.ensures.follows) state operation (call_of handle c.args.call) (handle_named handle (Walk c.args.call)) in
    (told.0, told.1 ∙ ap line.End (walked_same handle c.args.call c.step.new.self.pairs.items), told.2))
    c.in-Done-default-All.ensures.acts
    c.step.ensures.access
    tt
    )

pub returns-in-Done-default-Impossible : goal.returns-in-Done-default-Impossible
returns-in-Done-default-Impossible c =
    rw (c.come_to-in-Done-default-Impossible.ensures.ran, c.come_to-in-Done-default-Impossible.ensures.same) (
    walks
    c.args.job.now
    c.args.call
    c.args.root_seen
    (record { memory = c.args.heap.now; table = c.args.roots.now; generation = c.args.generation; programs = c.args.self.now })
    c.step.new.heap
    c.step.new.work
    c.step.new.self
    c.in-Done-default-Impossible.kind
    Impossible
    (λ state operation. (rw c.in-Done-default-Impossible.field-1-is at c.in-Done-default-Impossible.ensures.follows) state operation (call_of c.args.job.now.handle c.args.call)
    (handle_named c.args.job.now.handle (Walk c.args.call)))
    c.in-Done-default-Impossible.ensures.acts
    c.step.ensures.access
    tt
    )

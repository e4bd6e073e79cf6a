use Rattle.std.specs.Prelude.{refl}
use Rattle.std.proofs.Common.{sym, subst}
use Rattle.running.specs.declared.programs.ProgramAt.{ProgramAt}
use Rattle.running.specs.declared.programs.ProgramAt.TheVariants.{Answered, Swapped, Walked}
use Rattle.running.specs.Places.{asking_line}
use Rattle.running.specs.Steps.{Does, Scene, scene}
use Rattle.running.proofs.Ending.{ended, stuck}
use Rattle.running.proofs.programs.Programs.step.Goals as goal

pub returns-in-Runs : goal.returns-in-Runs
returns-in-Runs c =
    let p = c.args.self.now in
    let before : Scene = record { memory = c.args.heap.now; table = c.args.roots.now; generation = c.args.generations.now; programs = p } in
    let after : Scene = record { memory = c.step_running.new.heap; table = c.step_running.new.roots; generation = c.step_running.new.generations; programs = c.step_running.new.self } in
    subst (λ (s : ProgramAt). Does c.args.job.now c.args.program.now (asking_line p c.args.program.now s p.asking) before c.step_running.result after)
    (sym c.in-Runs.is) c.step_running.ensures

pub returns-in-Answered : goal.returns-in-Answered
returns-in-Answered c =
    let at = scene c.args.heap.now c.args.roots.now c.args.generations.now c.args.self.now in
    rw c.of_kind.ensures (ended c.args.job.now c.args.program.now at (Answered c.in-Answered.field-0) _ c.in-Answered.is (λ told. refl) c.requires.sound)

pub returns-in-Swapped : goal.returns-in-Swapped
returns-in-Swapped c =
    let at = scene c.args.heap.now c.args.roots.now c.args.generations.now c.args.self.now in
    rw c.of_kind-in-Swapped.ensures (ended c.args.job.now c.args.program.now at (Swapped c.in-Swapped.field-0) _ c.in-Swapped.is (λ told. refl) c.requires.sound)

pub returns-in-Walked : goal.returns-in-Walked
returns-in-Walked c =
    let at = scene c.args.heap.now c.args.roots.now c.args.generations.now c.args.self.now in
    rw c.of_kind-in-Walked.ensures (ended c.args.job.now c.args.program.now at (Walked c.in-Walked.field-0) _ c.in-Walked.is (λ told. refl) c.requires.sound)

pub returns-in-Impossible : goal.returns-in-Impossible
returns-in-Impossible c =
    let at = scene c.args.heap.now c.args.roots.now c.args.generations.now c.args.self.now in
    rw c.of_kind-in-Impossible.ensures (stuck c.args.job.now c.args.program.now at c.in-Impossible.is c.requires.sound)

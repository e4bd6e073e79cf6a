use Rattle.std.proofs.Common.{◌+◌, refl, ap, ◌∙◌, arith}
use Rattle.machine_core.specs.Vocabulary.{times}
use Rattle.machine_core.specs.Seen.{seen}
use Rattle.machine_model.specs.declared.steps.Step.TheVariants as steps
use Rattle.proof_core.proofs.Bounded.{bounded, taken_run}
use Rattle.machine_core.proofs.Ends.{sweeps}
use Rattle.machine_core.proofs.Kept.{kept_alike}
use Rattle.machine_core.proofs.Working.{swept_little}
use Rattle.machine_core.proofs.sweeping.sweep_once.Goals as goal

pub sweep-swept-requires-clause-room : goal.sweep-swept-requires-clause-room
sweep-swept-requires-clause-room c = let few = bounded (seen c.args.parts.now) c.requires.core.run in omega (arith, few.epoch, few.steps)

pub returns-clause-swept : goal.returns-clause-swept
returns-clause-swept c =
    let swept = c.sweep-swept.ensures in
    let settled = c.settle.ensures in
    sweeps (seen c.args.parts.now) c.args.parts.now.heap c.sweep-swept.new.self c.settle.new.self c.sweep-swept.result c.requires.unspent
    c.requires.core.kept.tied (record {
      swept = swept.swept;
      same = refl;
      left = swept.limbo;
      outside = swept.outside;
      settled = settled.limbo;
      heap = settled.heap;
      epoch = settled.epochs.0;
      cursor = settled.epochs.1;
    })

pub returns-clause-core : goal.returns-clause-core
returns-clause-core c =
    let parts = c.args.parts.now in
    let swept = c.sweep-swept.ensures in
    let settled = c.settle.ensures in
    record {
      run = taken_run (seen parts) _ steps.Sweep _ (returns-clause-swept c) tt c.requires.core.run;
      kept = kept_alike parts (record parts { heap = c.settle.new.self; steps = parts.steps + 1 }) (record {
        limits = refl;
        table = refl;
        actors = refl;
        handles = refl;
        outside = λ r. ap (times r) (settled.outside ∙ swept.outside);
        pins = settled.epochs.2 ∙ swept.pins;
      }) c.requires.core.kept;
      settled = settled.settled;
    }

pub returns-clause-work : goal.returns-clause-work
returns-clause-work c =
    let swept = c.sweep-swept.ensures in
    let settled = c.settle.ensures in
    swept_little c.args.parts.now.heap c.sweep-swept.new.self c.settle.new.self c.sweep-swept.result
    swept.swept swept.limbo swept.few swept.ticks settled.limbo settled.rising settled.ticks

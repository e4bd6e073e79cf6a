use Rattle.std.proofs.Common.{length, ◌+◌, refl, ap}
use Rattle.machine_core.specs.Vocabulary.{times}
use Rattle.machine_core.specs.Seen.{seen}
use Rattle.machine_core.proofs.Ends.{settles}
use Rattle.machine_core.proofs.Kept.{kept_alike}
use Rattle.proof_core.proofs.Crossing.{settling_pays}
use Rattle.machine_core.proofs.settling.settle.Goals as goal

pub returns-clause-settled : goal.returns-clause-settled
returns-clause-settled c =
    let done = c.settle.ensures in
    settles (seen c.args.parts.now) c.args.parts.now.heap c.settle.new.self c.requires.kept.tied
    (record { limbo = done.limbo; heap = done.heap; epoch = done.epochs.0; cursor = done.epochs.1 })

pub returns-clause-kept : goal.returns-clause-kept
returns-clause-kept c =
    let parts = c.args.parts.now in
    let done = c.settle.ensures in
    kept_alike parts (record parts { heap = c.settle.new.self; steps = parts.steps + 1 }) (record {
      limits = refl;
      table = refl;
      actors = refl;
      handles = refl;
      outside = λ r. ap (times r) done.outside;
      pins = done.epochs.2;
    }) c.requires.kept

pub returns-clause-work : goal.returns-clause-work
returns-clause-work c =
    let before = c.args.parts.now.heap in
    let done = c.settle.ensures in
    (done.rising, settling_pays before.heap before.outside before.epoch before.limbo c.settle.new.self.limbo before.ticks c.settle.new.self.ticks (length before.noted) done.limbo done.ticks)

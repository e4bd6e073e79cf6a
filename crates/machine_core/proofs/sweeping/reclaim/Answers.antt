use Rattle.std.proofs.Common.{◌≡◌, Ok, ap, subst}
use Rattle.machine_model.specs.declared.steps.Outcome.TheVariants as outcome
use Rattle.machine_core.specs.Vocabulary.{Sweep, next, State, Worked}
use Rattle.machine_core.specs.declared.parts.Parts.{Parts}
use Rattle.machine_core.specs.Seen.{seen}
use Rattle.machine_core.specs.Work.{SweepsLittle, worked}
use Rattle.machine_core.proofs.Growths.{reclaimed_grown, reclaimed_more}
use Rattle.machine_core.proofs.Reclaimed.{reclaimed_first}
use Rattle.machine_core.proofs.sweeping.reclaim.Goals as goal

pub loop-parts-init : goal.loop-parts-init
loop-parts-init c = reclaimed_first c.args.parts.now c.requires.core

pub loop-parts-preserved-then-not-grow : goal.loop-parts-preserved-then-not-grow
loop-parts-preserved-then-not-grow c =
    let now : Parts = c.loop-parts.parts in
    let after : Parts = c.sweep_once.new.parts in
    let same = c.grow.ensures.same c.if-not-grow.true in
    reclaimed_more c.args.parts.now now after c.grow.new.parts.heap.ticks c.sweep_once.result c.loop-parts.invariant ((c.can_sweep.ensures.some c.loop-parts-test.true).0) c.grow.ensures.work
    (subst (λ (s : State). next s Sweep ≡ Ok (outcome.Swept c.sweep_once.result, seen after)) (ap seen same) c.sweep_once.ensures.swept)
    (subst (λ (w : Worked). SweepsLittle w (worked after)) (ap worked same) c.sweep_once.ensures.work) c.sweep_once.ensures.core

pub loop-parts-preserved : goal.loop-parts-preserved
loop-parts-preserved c =
    reclaimed_grown c.args.parts.now c.loop-parts.parts c.grow.new.parts _ c.loop-parts.invariant (c.grow.ensures.grown c.if-not-grow.false) c.grow.ensures.core

pub returns-clause-reclaims : goal.returns-clause-reclaims
returns-clause-reclaims c = (c.loop-parts.invariant.n, c.loop-parts.invariant.reclaims)

pub returns-clause-core : goal.returns-clause-core
returns-clause-core c = c.loop-parts.invariant.core

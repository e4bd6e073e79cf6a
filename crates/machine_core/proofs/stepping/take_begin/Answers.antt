use Rattle.std.proofs.Common.{None, refl, arith}
use Rattle.machine_model.specs.declared.steps.Outcome.TheVariants as outcome
use Rattle.machine_model.specs.declared.steps.Step.TheVariants as steps
use Rattle.machine_core.specs.Seen.{seen}
use Rattle.machine_core.specs.Vocabulary.{ticks_of_a_step}
use Rattle.proof_core.proofs.Bounded.{bounded, taken_run}
use Rattle.machine_core.proofs.Steps.{begin_leads, begun_id, leads_taken}
use Rattle.machine_core.proofs.Working.{settled_little, weaker}
use Rattle.machine_core.proofs.stepping.take_begin.Goals as goal

pub settle-requires-clause-steps : goal.settle-requires-clause-steps
settle-requires-clause-steps c =
    let before = seen c.args.parts.now in
    let few = bounded before c.requires.core.run in
    let leads = begin_leads before (seen c.begin_operation-begun.new.parts) c.args.actor c.args.call before.begun c.requires.allowed refl c.begin_operation-begun.ensures.begun in
    omega (arith, few.steps, leads.steps)

pub returns-clause-taken : goal.returns-clause-taken
returns-clause-taken c =
    let before = seen c.args.parts.now in
    let begun = c.begin_operation-begun.ensures in
    let id = begun_id before c.args.actor c.args.call c.begin_operation-begun.result begun.tells in
    leads_taken before (seen c.begin_operation-begun.new.parts) (seen c.settle.new.parts) (steps.Begin c.args.actor c.args.call None) (outcome.Began c.begin_operation-begun.result.id)
    (begin_leads before (seen c.begin_operation-begun.new.parts) c.args.actor c.args.call c.begin_operation-begun.result.id c.requires.allowed id begun.begun) c.settle.ensures.settled

pub returns-clause-core : goal.returns-clause-core
returns-clause-core c = record {
  run = taken_run (seen c.args.parts.now) _ (steps.Begin c.args.actor c.args.call None) _ (returns-clause-taken c) c.key_fits.ensures c.requires.core.run;
  kept = c.settle.ensures.kept;
  settled = c.settle.ensures.noted;
}

pub returns-clause-work : goal.returns-clause-work
returns-clause-work c =
    let before = c.args.parts.now.heap in
    let after = c.settle.new.parts.heap in
    weaker 32 ticks_of_a_step before.ticks after.ticks before.limbo after.limbo (omega arith)
    (settled_little 8 8 before c.begin_operation-begun.new.parts.heap after c.requires.core.settled c.begin_operation-begun.ensures.work c.settle.ensures.work)

use Rattle.std.proofs.Common.{arith}
use Rattle.machine_model.specs.declared.steps.Step.TheVariants as steps
use Rattle.machine_core.specs.Seen.{seen}
use Rattle.proof_core.proofs.Bounded.{bounded, taken_run}
use Rattle.machine_core.proofs.Steps.{go_leads, leads_taken}
use Rattle.machine_core.proofs.Working.{operation_little}
use Rattle.machine_core.proofs.stepping.take_end.Goals as goal

pub settle-requires-clause-steps : goal.settle-requires-clause-steps
settle-requires-clause-steps c =
    let before = seen c.args.parts.now in
    let leads = go_leads before (seen c.end_operation-ended.new.parts) c.args.actor _ c.requires.allowed c.end_operation-ended.ensures.ended in
    omega (arith, (bounded before c.requires.core.run).steps, leads.steps)

pub returns-clause-taken : goal.returns-clause-taken
returns-clause-taken c =
    let before = seen c.args.parts.now in
    let middle = seen c.end_operation-ended.new.parts in
    leads_taken before middle (seen c.settle.new.parts) (steps.Go c.args.actor) _ (go_leads before middle c.args.actor _ c.requires.allowed c.end_operation-ended.ensures.ended)
    c.settle.ensures.settled

pub returns-clause-core : goal.returns-clause-core
returns-clause-core c = record {
  run = taken_run (seen c.args.parts.now) _ (steps.Go c.args.actor) _ (returns-clause-taken c) tt c.requires.core.run;
  kept = c.settle.ensures.kept;
  settled = c.settle.ensures.noted;
}

pub returns-clause-work : goal.returns-clause-work
returns-clause-work c =
    operation_little c.args.parts.now c.end_operation-ended.new.parts c.settle.new.parts c.args.actor c.requires.core.run c.requires.core.settled c.end_operation-ended.ensures.work
    c.settle.ensures.work

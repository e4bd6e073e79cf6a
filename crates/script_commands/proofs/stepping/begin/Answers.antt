use Rattle.std.proofs.Common.{None, ◌≡◌, IfOk, OnOk, Option, subst, sym}
use Rattle.script_commands.specs.Vocabulary.{Refusal}
use Rattle.script_commands.specs.Beneath.machine_model.specs.declared.steps.Step.TheVariants.{Begin}
use Rattle.script_commands.specs.Beneath.proof_runs.specs.Machines.{state_of}
use Rattle.script_commands.specs.Recorded.{Recorded, recorded_in}
use Rattle.script_commands.proofs.Carrying.{begin_denied, one_alone}
use Rattle.script_commands.proofs.stepping.begin.Goals as goal

pub returns-clause-state : goal.returns-clause-state
returns-clause-state c =
    subst (λ (r : Recorded). OnOk c.take.result (recorded_in c.take.new.machine ≡ r)) (sym (one_alone (recorded_in c.args.machine.now) (Begin c.args.actor c.args.call None))) c.take.ensures.state

pub returns-clause-denial : goal.returns-clause-denial
returns-clause-denial c =
    subst (λ (d : Option Refusal). IfOk c.take.result (λ denial. denial ≡ d)) (begin_denied (state_of c.args.machine.now) c.args.actor c.args.call) c.take.ensures.denial

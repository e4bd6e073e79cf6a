use Rattle.std.proofs.Common.{None, sym, ◌∙◌}
use Rattle.script_commands.specs.Beneath.machine_model.specs.declared.steps.Step.TheVariants.{Begin}
use Rattle.script_commands.specs.Recorded.{recorded_in}
use Rattle.script_commands.proofs.Carrying.{performed}
use Rattle.script_commands.proofs.stepping.perform.Goals as goal

pub returns-in_ok-go_on-in-None-clause-state : goal.returns-in_ok-go_on-in-None-clause-state
returns-in_ok-go_on-in-None-clause-state c =
    performed _ c.args.actor (Begin c.args.actor c.args.call None) (recorded_in c.args.machine.now) (recorded_in c.begin.new.machine) (recorded_in c.go_on.new.machine)
    (sym c.in-None.is ∙ c.in_ok-refusal.ensures.denial) c.in_ok-refusal.ensures.state c.in_ok-go_on-in-None.ensures

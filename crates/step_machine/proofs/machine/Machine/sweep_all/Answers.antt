use Rattle.std.proofs.Common.{arith}
use Rattle.proof_runs.proofs.Sweeping.{again, refused}
use Rattle.step_machine.proofs.machine.Machine.sweep_all.Goals as goal

pub returns-in_err-take_one : goal.returns-in_err-take_one
returns-in_err-take_one c =
    refused c.args.self.now c.loop-self.self c.take_one.new.self c.in_err-take_one.field-0.0 c.from_residual.result
    (grind (arith, c.if-is_busy.false, c.is_busy.ensures)) c.loop-self.invariant (λ empty. grind (arith, empty, c.limbo_len.ensures, c.loop-self-test.true)) c.in_err-take_one.ensures
    (grind (arith, c.from_residual.ensures))

pub loop-self-preserved : goal.loop-self-preserved
loop-self-preserved c =
    again c.args.self.now c.loop-self.self c.take_one.new.self c.loop-self.invariant (λ empty. grind (arith, empty, c.limbo_len.ensures, c.loop-self-test.true)) c.in_ok-take_one.ensures

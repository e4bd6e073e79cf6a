use Rattle.std.proofs.Common.{◌≡◌, ◌+◌, ◌-◌, sym, ◌∙◌, arith}
use Rattle.script_commands.specs.Recorded.{recorded_in}
use Rattle.script_commands.proofs.Carrying.{sweeping_none, sweeping_on}
use Rattle.script_commands.proofs.stepping.sweep.Goals as goal

pub loop-preserved : goal.loop-preserved
loop-preserved c =
    let fewer : c.args.times - c.loop.counter ≡ (c.args.times - (c.loop.counter + 1)) + 1 = omega arith in
    sym (sweeping_on _ _ (recorded_in c.loop.machine) (recorded_in c.take.new.machine) fewer c.in_ok-take.ensures.state) ∙ c.loop.invariant

pub returns-clause-state : goal.returns-clause-state
returns-clause-state c =
    let none : c.args.times - c.loop.counter ≡ 0 = omega arith in
    sym (sweeping_none (recorded_in c.loop.machine)) ∙ (rw none at c.loop.invariant)

use Rattle.std.proofs.Common.{take}
use Rattle.machine_core.specs.Asking.{asked_all}
use Rattle.step_machine.specs.Records.{IsAfter}
use Rattle.step_machine.proofs.records.machine_after.Given as goal

-- the machine has taken those of the steps so far that aren't denied
abbrev pub invariant-loop-step : goal.invariant-loop-step
invariant-loop-step l = IsAfter l.fn.limits (asked_all (take l.step-index l.fn.steps)) l.machine

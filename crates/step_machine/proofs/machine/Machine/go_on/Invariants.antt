use Rattle.std.proofs.Common.{◌≡◌, Ok, None}
use Rattle.proof_runs.specs.Callers.{going_on}
use Rattle.step_machine.proofs.machine.Machine.go_on.Given as goal

-- the steps so far didn't end the operation
abbrev pub invariant-loop : goal.invariant-loop
invariant-loop l = going_on l.counter l.actor l.initial.self ≡ (Ok None, l.self)

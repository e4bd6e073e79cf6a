-- The steps that are left come to what all of them do.
use Rattle.std.proofs.Common.{◌≡◌, ◌-◌}
use Rattle.script_commands.specs.Recorded.{recorded_from, recorded_in}
use Rattle.script_text.specs.Steps.{going}
use Rattle.script_commands.specs.Beneath.proof_runs.specs.Machines.{state_of}
use Rattle.script_commands.proofs.stepping.go_on.Given as goal

abbrev pub invariant-loop : goal.invariant-loop
invariant-loop l =
    recorded_from (recorded_in l.machine) (going (l.most - l.counter) l.wanted l.actor (state_of l.machine))
    ≡ recorded_from (recorded_in l.initial.machine) (going l.most l.wanted l.actor (state_of l.initial.machine))

-- The steps that are left come to what all of them do.
use Rattle.std.proofs.Common.{◌≡◌, ◌-◌, replicate}
use Rattle.script_commands.specs.Vocabulary.{Sweep}
use Rattle.script_commands.specs.Recorded.{recorded_from, recorded_in}
use Rattle.script_commands.proofs.stepping.sweep.Given as goal

abbrev pub invariant-loop : goal.invariant-loop
invariant-loop l = recorded_from (recorded_in l.machine) (replicate (l.times - l.counter) Sweep) ≡ recorded_from (recorded_in l.initial.machine) (replicate l.times Sweep)

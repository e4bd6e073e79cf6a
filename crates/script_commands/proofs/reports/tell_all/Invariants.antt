-- What is left comes, behind what was carried out and told, to all of it.
use Rattle.std.proofs.Common.{◌≡◌, ◌++◌, drop}
use Rattle.std.specs.String.{string_bytes}
use Rattle.script_commands.specs.Recorded.{recorded_from, recorded_in}
use Rattle.script_text.specs.Steps.{all_steps}
use Rattle.script_commands.specs.Beneath.proof_runs.specs.Machines.{state_of}
use Rattle.script_commands.specs.Reports.{all_told}
use Rattle.script_commands.proofs.reports.tell_all.Given as goal

abbrev pub invariant-loop-command : goal.invariant-loop-command
invariant-loop-command l = record {
  carried : recorded_from (recorded_in l.machine) (all_steps (state_of l.machine) (drop l.command-index l.commands))
      ≡ recorded_from (recorded_in l.initial.machine) (all_steps (state_of l.initial.machine) l.commands);
  told : string_bytes l.text ++ all_told (recorded_in l.machine) (drop l.command-index l.commands)
      ≡ string_bytes l.initial.text ++ all_told (recorded_in l.initial.machine) l.commands;
}

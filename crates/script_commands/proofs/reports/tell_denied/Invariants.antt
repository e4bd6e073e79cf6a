-- The lines of the denials so far were added.
use Rattle.std.proofs.Common.{◌≡◌, ◌++◌, take}
use Rattle.std.specs.String.{string_bytes}
use Rattle.script_commands.specs.Reports.{denied_lines}
use Rattle.script_commands.proofs.reports.tell_denied.Given as goal

abbrev pub invariant-loop-refusal : goal.invariant-loop-refusal
invariant-loop-refusal l = string_bytes l.text ≡ string_bytes l.initial.text ++ denied_lines l.actor (take l.refusal-index l.denied)

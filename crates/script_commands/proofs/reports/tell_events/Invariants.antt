-- The lines of the events so far were added.
use Rattle.std.proofs.Common.{◌≡◌, ◌++◌, take}
use Rattle.std.specs.String.{string_bytes}
use Rattle.script_commands.specs.Reports.{event_lines}
use Rattle.script_commands.proofs.reports.tell_events.Given as goal

abbrev pub invariant-loop-event : goal.invariant-loop-event
invariant-loop-event l = string_bytes l.text ≡ string_bytes l.initial.text ++ event_lines (take l.event-index l.events)

-- None of the lines so far names a call for the actor.
use Rattle.std.proofs.Common.{◌≡◌, ℕ, ◌<◌}
use Rattle.std.specs.Prelude.{slice_get, Some}
use Rattle.ctrie_commands.specs.Beneath.script_text.specs.declared.thread_lines.ThreadLine.{ThreadLine}
use Rattle.ctrie_commands.specs.Working.{IsOwn}
use Rattle.ctrie_commands.proofs.groups.names_call.Given as goal

abbrev pub invariant-loop-line : goal.invariant-loop-line
invariant-loop-line l = (k : ℕ) (line : ThreadLine) → k < l.line-index → slice_get l.lines k ≡ Some line → ¬ IsOwn l.actor line

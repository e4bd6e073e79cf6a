-- The report of a script's run is never too long to be read: a script has at most 100,000 lines, and each tells two at most.
use Rattle.std.proofs.Common.{◌≡◌, ℕ, ◌+◌, ◌*◌, ◌≤◌, List, [], ◌∷◌, ◌++◌, length, Option, Some, None, Ok, ap, append_assoc, arith}
use Rattle.std.proofs.lemmas.List.{length-drop}
use Rattle.script_commands.specs.Vocabulary.{Refusal}
use Rattle.text_lines.specs.Texts.{lines_of}
use Rattle.history_text.specs.Grammar.{IsShort}
use Rattle.history_text.proofs.Spelled.{hash_none}
use Rattle.script_text.specs.declared.commands.Command.{Command}
use Rattle.script_text.specs.Reading.{Reading, command_dialect, script_of}
use Rattle.script_text.specs.Steps.{denial_of}
use Rattle.script_text.proofs.Few.{few_lines}
use Rattle.script_commands.specs.Reports.{hash_text, denied_text, actor_of, told_by, added_events, told, all_told, last_lines, last_of, report}
use Rattle.script_commands.proofs.Adding.{line_adds}
use Rattle.script_commands.proofs.LineCounts.{one_line, each_event, denied_line_none, last_counted}
use Rattle.script_commands.specs.Recorded.{Recorded, after_line, first_recorded}

-- ---- the lines of its report

by_denial : (state : Recorded) (command : Command) (denial : Option Refusal) (rest : List ℕ) →
    length (lines_of (told_by denial (actor_of command) (added_events state command) ++ rest)) ≤ 2 + length (lines_of rest)
by_denial state command None rest =
    let after = after_line state command in
    omega (arith, each_event (added_events state command) rest, length-drop (length state.past.events) after.past.events, line_adds state command)
by_denial state command (Some refusal) rest = omega (arith, one_line (denied_text (actor_of command) refusal) rest (denied_line_none (actor_of command) refusal))

all_counted : (commands : List Command) (state : Recorded) (rest : List ℕ) → length (lines_of (all_told state commands ++ rest)) ≤ 2 * length commands + length (lines_of rest)
unfolding all_told
all_counted [] state rest = omega arith
all_counted (command ∷ more) state rest =
    let after = after_line state command in
    let parts = append_assoc (told state command) (all_told after more) rest in
    omega (arith, ap (λ t. length (lines_of t)) parts, by_denial state command (denial_of state.state command) (all_told after more ++ rest), all_counted more after rest)

report_counted : (script : Reading) → length (lines_of (report script)) ≤ 2 * length script.lines + 3
unfolding report
report_counted script =
    let rest = all_told (first_recorded script.limits) script.lines ++ last_lines (last_of script) in
    omega (
      arith,
      one_line (hash_text script.limits.hash) rest (hash_none script.limits.hash),
      all_counted script.lines (first_recorded script.limits) (last_lines (last_of script)),
      last_counted (last_of script),
    )

pub report_short : (text : List ℕ) (script : Reading) → script_of text ≡ Ok script → IsShort (report script)
unfolding script_of
report_short text script e = omega (arith, report_counted script, few_lines command_dialect text script e)

-- What lines of a script tell, one after the other.
use Rattle.std.proofs.Common.{◌≡◌, ℕ, ◌+◌, ◌<◌, List, [], ◌∷◌, ◌++◌, length, get_or, drop, refl, sym, ap, ◌∙◌, append_assoc, append-nil}
use Rattle.std.proofs.lemmas.List.{drop_more}
use Rattle.script_commands.specs.Vocabulary.{Limits, run_from, record_from}
use Rattle.script_commands.proofs.Carrying.{recorded_append}
use Rattle.script_text.specs.declared.commands.Command.{Command}
use Rattle.script_text.specs.Reading.{Reading}
use Rattle.script_text.specs.Steps.{steps_of, all_steps}
use Rattle.script_commands.specs.Beneath.proof_runs.specs.Machines.{fresh}
use Rattle.script_commands.specs.Reports.{line, hash_text, told, all_told, last_lines, last_of, report}
use Rattle.script_commands.specs.Recorded.{recorded_in, Recorded, after_line, first_recorded, recorded_from}

-- the steps of a line, and those of the lines behind it
steps_on : (state : Recorded) (command : Command) (more : List Command) →
    recorded_from state (all_steps state.state (command ∷ more)) ≡ recorded_from (after_line state command) (all_steps (after_line state command).state more)
unfolding all_steps
steps_on state command more = recorded_append state (steps_of state.state command) (all_steps (after_line state command).state more)

-- one line more was carried out
pub carried_more : (commands : List Command) (i : ℕ) (d : Command) (state after : Recorded) → i < length commands → after ≡ after_line state (get_or commands i d) →
    recorded_from state (all_steps state.state (drop i commands)) ≡ recorded_from after (all_steps after.state (drop (i + 1) commands))
carried_more commands i d state after below is =
    ap (λ (left : List Command). recorded_from state (all_steps state.state left)) (drop_more commands i d below) ∙ steps_on state (get_or commands i d) (drop (i + 1) commands)
    ∙ ap (λ (s : Recorded). recorded_from s (all_steps s.state (drop (i + 1) commands))) (sym is)

-- what a line tells, and what those behind it tell
told_on : (state : Recorded) (command : Command) (more : List Command) → all_told state (command ∷ more) ≡ told state command ++ all_told (after_line state command) more
unfolding all_told
told_on state command more = refl

-- one line more was told of
pub told_more : (commands : List Command) (i : ℕ) (d : Command) (state after : Recorded) (before text : List ℕ) → i < length commands → after ≡ after_line state (get_or commands i d) →
    text ≡ before ++ told state (get_or commands i d) → before ++ all_told state (drop i commands) ≡ text ++ all_told after (drop (i + 1) commands)
told_more commands i d state after before text below is grown =
    ap (λ (left : List Command). before ++ all_told state left) (drop_more commands i d below)
    ∙ ap (λ (t : List ℕ). before ++ t) (told_on state (get_or commands i d) (drop (i + 1) commands))
    ∙ sym (append_assoc before (told state (get_or commands i d)) (all_told (after_line state (get_or commands i d)) (drop (i + 1) commands)))
    ∙ ap (λ (t : List ℕ). t ++ all_told (after_line state (get_or commands i d)) (drop (i + 1) commands)) (sym grown)
    ∙ ap (λ (s : Recorded). text ++ all_told s (drop (i + 1) commands)) (sym is)

-- nothing is left

pub carried_all : (state : Recorded) → recorded_from state (all_steps state.state []) ≡ state
unfolding all_steps run_from record_from
carried_all state = refl

pub told_all : (state : Recorded) (text : List ℕ) → text ++ all_told state [] ≡ text
unfolding all_told
told_all state text = append-nil text

-- a machine that has taken no step
pub fresh_recorded : (limits : Limits) → recorded_in (fresh limits) ≡ first_recorded limits
unfolding run_from record_from
fresh_recorded limits = refl

-- the three parts of a report
pub reported : (script : Reading) (before after : Recorded) (first second third : List ℕ) → before ≡ first_recorded script.limits →
    after ≡ recorded_from before (all_steps before.state script.lines) → first ≡ line (hash_text script.limits.hash) →
    second ≡ first ++ all_told before script.lines → third ≡ second ++ last_lines after → third ≡ report script
unfolding report
reported script before after first second third is_first is_last hash told_of last =
    last ∙ rw (told_of, hash, is_last, is_first) (append_assoc (line (hash_text script.limits.hash)) (all_told (first_recorded script.limits) script.lines) (last_lines (last_of script)))

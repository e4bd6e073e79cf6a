-- A state with what is recorded of the run that led to it.
use Rattle.std.specs.Prelude.{List}
use Rattle.script_commands.specs.Vocabulary.{Limits, Step, bounded, next_state, run_from, Record, first_record, next_record, record_from, State, first_state}
use Rattle.script_commands.specs.Beneath.proof_runs.specs.Machines.{Taken, past_of, state_of}
use Rattle.script_text.specs.declared.commands.Command.{Command}
use Rattle.script_text.specs.Steps.{steps_of}

pub record Recorded : Type 0 where
  pub state : State
  pub past : Record

-- those that a machine's steps lead to
abbrev pub recorded_in : Taken → Recorded
recorded_in machine = record { state = state_of machine; past = past_of machine }

-- those of a machine that has taken no step
abbrev pub first_recorded : Limits → Recorded
first_recorded limits = record { state = first_state (bounded limits); past = first_record (bounded limits) }

-- after a step
abbrev pub recorded_next : Recorded → Step → Recorded
recorded_next before s = record { state = next_state before.state s; past = next_record before.state before.past s }

-- after these steps
abbrev pub recorded_from : Recorded → List Step → Recorded
recorded_from before steps = record { state = run_from before.state steps; past = record_from before.state before.past steps }

-- after a line of a script
abbrev pub after_line : Recorded → Command → Recorded
after_line before command = recorded_from before (steps_of before.state command)

-- Lines of a script that are sure to end an operation.
use Rattle.std.specs.Prelude.{◌≡◌, ℕ, ◌+◌, List, ◌∷◌, ◌++◌, Some, None}
use Rattle.script_commands.specs.Vocabulary.{begun, Call, Operation, begin_denial, operation_of}
use Rattle.script_commands.specs.Beneath.proof_obstruction_free.specs.Laws.{HasEnded, most_steps_alone}
use Rattle.script_commands.specs.Beneath.proof_runs.specs.Ending.{IsSure}
use Rattle.script_text.specs.declared.commands.Command.{Command}
use Rattle.script_text.specs.declared.commands.Command.TheVariants.{Finish, Do}
use Rattle.script_text.specs.Reading.{Reading}
use Rattle.script_commands.specs.Recorded.{Recorded, after_line}
use Rattle.script_commands.specs.Reports.{last_of}

-- `finish` has ended the operation that the actor ran, if its call is sure to end
abbrev pub FinishEnds : Recorded → ℕ → Recorded → Type 0
FinishEnds before actor after =
    (operation : Operation) → operation_of before.state actor ≡ Some operation → IsSure before.state operation.call most_steps_alone →
    HasEnded after.state after.past.events actor operation.id

-- `do` has ended the operation that it began, if its call is sure to end
abbrev pub DoEnds : Recorded → ℕ → Call → Recorded → Type 0
DoEnds before actor call after =
    begin_denial before.state actor call None ≡ None → IsSure before.state call (1 + most_steps_alone) → HasEnded after.state after.past.events actor (begun before.past.events)

-- a line that goes on until an operation has ended has ended it
abbrev pub LineEnds : Recorded → Command → Type 0
LineEnds before (Finish actor) = FinishEnds before actor (after_line before (Finish actor))
LineEnds before (Do actor call) = DoEnds before actor call (after_line before (Do actor call))
LineEnds before other = Unit {0}

-- so has each line of the script, behind the lines before it
abbrev pub EachLineEnds : Reading → Type 0
EachLineEnds script =
    (first rest : List Command) (line : Command) → script.lines ≡ first ++ line ∷ rest → LineEnds (last_of (record script { lines = first })) line

-- The work that parts have done, and that of a step.
use Rattle.std.specs.Prelude.{ℕ, ◌+◌}
use Rattle.machine_core.specs.declared.parts.Parts.{Parts}
use Rattle.machine_core.specs.Seen.{seen}
use Rattle.machine_core.specs.Vocabulary.{Worked, NotesUpTo, WorksUpTo, held_by}

abbrev pub worked : Parts → Worked
worked parts = record { state = seen parts; work = parts.heap.ticks }

-- the most ticks of a step of the sweep, beside what leaves limbo and comes into it
abbrev pub ticks_of_a_sweep : ℕ
ticks_of_a_sweep = 170

abbrev pub SweepsLittle : Worked → Worked → Type 0
SweepsLittle before after = WorksUpTo ticks_of_a_sweep before.work before.state.limbo after.work after.state.limbo

-- the most ticks of the parts of a machine that has taken no step, beside one for each slot
abbrev pub ticks_of_a_start : ℕ
ticks_of_a_start = 310

-- the step of the actor's operation, without what every step does at its end
abbrev pub ActsLittle : Parts → ℕ → Parts → Type 0
ActsLittle before actor after = NotesUpTo (32 + held_by (seen before) actor) (36 + held_by (seen before) actor) before.heap after.heap

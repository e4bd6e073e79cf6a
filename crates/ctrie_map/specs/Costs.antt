-- How much work a call does, in steps.
use Rattle.std.specs.Prelude.{◌+◌, ◌*◌, ℕ}
use Rattle.ctrie_map.specs.Vocabulary.{Call}
use Rattle.ctrie_map.specs.Beneath.proof_obstruction_free.specs.Laws.{most_steps_alone}
use Rattle.ctrie_map.specs.Beneath.proof_obstruction_free.specs.Slots.{most_makes_alone, most_steps_of_copies}
use Rattle.proof_sizes.specs.Beneath.proof_alone.specs.Calls.{steps_of}
use Rattle.ctrie_map.specs.Beneath.proof_obstruction_free.specs.Calls.{slots_of}
use Rattle.ctrie_map.specs.Cores.{TakesUpTo}
use Rattle.ctrie_map.specs.Maps.{MapState}

-- that of a call which takes so many steps and slots at most: a step begins it, and the sweep takes five for each slot, and for one more
abbrev pub work_of : ℕ → ℕ → ℕ
work_of steps slots = 1 + steps + 5 * (slots + 1)

abbrev pub work_of_a_change : ℕ
work_of_a_change = work_of most_steps_alone most_makes_alone

-- a clear, a snapshot or a freeze
abbrev pub work_of_a_copy : ℕ
work_of_a_copy = work_of most_steps_of_copies most_steps_of_copies

abbrev pub work_of_a_close : ℕ
work_of_a_close = work_of 1 0

-- At most so much work is done, and five steps of it for each slot by which more are free behind it than before.
abbrev pub WorksUpTo : ℕ → MapState → MapState → Type 0
WorksUpTo most before after = TakesUpTo most before.core after.core

-- by the call of the core
abbrev pub work_of_call : Call → ℕ
work_of_call call = work_of (steps_of call) (slots_of call)

-- How much work a step is: how often it looks at a link, a flag, a count, a note or an entry of a list of the heap.
-- What else a step looks at isn't counted, and is little by what there is of it: its own actor, the records of all actors, 64 at most,
-- the root words and numbers of handles, 256 at most, and what its walk has collected. A core has nothing else: no history, and no list that grows but a walk's.
use Rattle.std.specs.Prelude.{◌≡◌, ℕ, ◌+◌, ◌*◌, ◌≤◌, not, List, filter, length}
use Rattle.proof_core.specs.Vocabulary.{TakesUpTo, Zeroed, is_in, State, operation_of, refs_of_operation}
use Rattle.proof_core.specs.Beneath.epochs.specs.Memories.{Memory}

-- a state, and the work that was done until it stood
pub record Worked : Type 0 where
  pub state : State
  pub work : ℕ

-- ---- limbo

-- what stands in limbo, but doesn't in that one
abbrev pub missing : List Zeroed → List Zeroed → List Zeroed
missing limbo other = filter (λ z. not (is_in other z.at)) limbo

-- how many slots have left limbo or come into it
abbrev pub crossing : List Zeroed → List Zeroed → ℕ
crossing before after = length (missing before after) + length (missing after before)

-- Beside so much work, each slot that leaves limbo or comes into it takes 12 ticks at most.
abbrev pub WorksUpTo : ℕ → ℕ → List Zeroed → ℕ → List Zeroed → Type 0
WorksUpTo most work limbo work' limbo' = (work ≤ work') × (work' ≤ work + most + 12 * crossing limbo limbo')

-- ---- a step

-- the most ticks of a step, beside what leaves limbo and comes into it: whatever the slots, the actors, the handles and the history
abbrev pub ticks_of_a_step : ℕ
ticks_of_a_step = 264

abbrev pub WorksLittle : Worked → Worked → Type 0
WorksLittle before after = WorksUpTo ticks_of_a_step before.work before.state.limbo after.work after.state.limbo

-- ---- a part of one

-- limbo is as before, and at most so many slots were noted and so many ticks taken
pub record NotesUpTo (most looks : ℕ) (before after : Memory) : Type 0 where
  pub limbo : after.limbo ≡ before.limbo
  pub few : length after.noted ≤ length before.noted + most
  pub ticks : TakesUpTo looks before.ticks after.ticks

-- how many references the actor's operation holds in its private list
abbrev pub held_by : State → ℕ → ℕ
held_by state actor = length (refs_of_operation (operation_of state actor))

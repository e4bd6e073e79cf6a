-- What is kept of handle numbers, and what begins and ends make of it.
use Rattle.std.specs.Prelude.{◌≡◌, ℕ, ◌+◌, ◌-◌, ◌<◌, true, false, length, Option, Some, None, if◌then◌else◌}
use Rattle.std.specs.List.{count_by}
use Rattle.proof_core.specs.Vocabulary.{Call, handle_of, is_close, is_taken, names, State, handle_limit}
use Rattle.handle_table.specs.Numbers.{Numbers, is_taken_in, running_on, with_running, with_taken}

-- a number is marked where it is open or reserved, and as many operations are counted on it as run and name it
pub record KnowsNumbers (numbers : Numbers) (state : State) : Type 0 where
  pub many : (length numbers.taken ≡ handle_limit) × (length numbers.running ≡ handle_limit)
  pub taken : (handle : ℕ) → handle < handle_limit → is_taken_in numbers handle ≡ is_taken state handle
  pub running : (handle : ℕ) → running_on numbers handle ≡ count_by (names handle) state.actors

-- the number, if there is one, is reserved
abbrev pub reserved : Numbers → Option ℕ → Numbers
reserved numbers None = numbers
reserved numbers (Some handle) = with_taken numbers handle true

-- it is free again
abbrev pub given_back : Numbers → Option ℕ → Numbers
given_back numbers None = numbers
given_back numbers (Some handle) = with_taken numbers handle false

-- the number that the begin of a call gives back: that of the handle that it closes
abbrev pub closes : Call → Option ℕ
closes call = if is_close call then Some (handle_of call) else None

-- the numbers once this call has begun, which is to open that handle, or none
abbrev pub begun_on : Numbers → Call → Option ℕ → Numbers
begun_on numbers call opens = reserved (given_back (with_running numbers (handle_of call) (running_on numbers (handle_of call) + 1)) (closes call)) opens

-- the numbers once an operation on this handle has ended, which had reserved that one, or none
abbrev pub ended_on : Numbers → ℕ → Option ℕ → Numbers
ended_on numbers handle left = given_back (with_running numbers handle (running_on numbers handle - 1)) left

-- What the calls tell of an answer.
use Rattle.std.specs.Prelude.{ℕ, Bool, false, List, Option, Result, Ok, Err, is_ok, is_some}
use Rattle.shared_map.specs.Vocabulary.{Pairs, Truth}
use Rattle.history.specs.declared.replies.Reply.TheVariants.{Count}
use Rattle.ctrie_map.specs.declared.errors.MapError.{MapError}
use Rattle.ctrie_map.specs.declared.errors.MapError.TheVariants.{Memory}
use Rattle.ctrie_map.specs.Telling as map
use Rattle.shared_map.specs.declared.asks.Answer.TheVariants.{Part, First, Writable, Restored}
use Rattle.shared_map.specs.Asks.{Replied, Told, replied_in}

-- ---- what the map below tells of a reply

abbrev pub found_in : Told → Result (Option ℕ) MapError
found_in told = map.found_in (replied_in told)

abbrev pub truth_in : Told → Result Bool MapError
truth_in told = map.truth_in (replied_in told)

abbrev pub opened_in : Told → Result ℕ MapError
opened_in told = map.opened_in (replied_in told)

abbrev pub done_in : Told → Result (Unit {0}) MapError
done_in told = map.done_in (replied_in told)

-- ---- what else there is to tell of one

-- whether there is a value
abbrev pub is_there : Result (Option ℕ) MapError → Result Bool MapError
is_there (Ok value) = Ok (is_some value)
is_there (Err error) = Err error

abbrev pub contained_in : Told → Result Bool MapError
contained_in told = is_there (found_in told)

-- pairs
abbrev pub pairs_in : Replied → Result (List (ℕ × ℕ)) MapError
pairs_in (Ok (Pairs pairs)) = Ok pairs
pairs_in (Ok other) = Err Memory
pairs_in (Err error) = Err error

abbrev pub listed_in : Told → Result (List (ℕ × ℕ)) MapError
listed_in told = pairs_in (replied_in told)

-- how many there are
abbrev pub count_in : Replied → Result ℕ MapError
count_in (Ok (Count number)) = Ok number
count_in (Ok other) = Err Memory
count_in (Err error) = Err error

abbrev pub counted_in : Told → Result ℕ MapError
counted_in told = count_in (replied_in told)

-- the same of what is never refused
abbrev pub number_or_none : Result ℕ MapError → ℕ
number_or_none (Ok number) = number
number_or_none (Err error) = 0

abbrev pub number_in : Told → ℕ
number_in told = number_or_none (counted_in told)

-- whether there is room
abbrev pub is_so : Replied → Bool
is_so (Ok (Truth truth)) = truth
is_so other = false

abbrev pub has_room_in : Told → Bool
has_room_in told = is_so (replied_in told)

-- ---- what is told of the other questions

-- a part of the entries
abbrev pub part_in : Told → Result (List (ℕ × ℕ)) MapError
part_in (Ok (Part pairs)) = Ok pairs
part_in (Ok other) = Err Memory
part_in (Err error) = Err error

-- a key with its value, if there is one
abbrev pub first_in : Told → Result (Option (ℕ × ℕ)) MapError
first_in (Ok (First pair)) = Ok pair
first_in (Ok other) = Err Memory
first_in (Err error) = Err error

-- whether the handle's map may be changed by it
abbrev pub writable_in : Told → Result Bool MapError
writable_in (Ok (Writable writable)) = Ok writable
writable_in (Ok other) = Err Memory
writable_in (Err error) = Err error

-- and so whether it is open
abbrev pub open_in : Told → Bool
open_in told = is_ok (writable_in told)

-- nothing but that the handle has the other one's map
abbrev pub restored_in : Told → Result (Unit {0}) MapError
restored_in (Ok Restored) = Ok tt
restored_in (Ok other) = Err Memory
restored_in (Err error) = Err error

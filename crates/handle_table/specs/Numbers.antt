-- Handle numbers: which are taken, and how many running operations were called on each.
use Rattle.std.specs.Prelude.{◌≡◌, ℕ, ◌/◌, ◌%◌, ◌<◌, ◌==◌, Bool, true, false, List, map, replicate, slice_index_or, slice_set}
use Rattle.std.specs.Int.{bit_at}
use Rattle.std.specs.List.{count_by, range_with_len}

pub record Numbers : Type 0 where
  -- by handle number, whether it is taken
  pub taken : List Bool
  -- by handle number, how many running operations were called on it
  pub running : List ℕ

-- how many handle numbers there are
abbrev pub number_limit : ℕ
number_limit = 256

-- none is taken, and nothing runs
abbrev pub no_numbers : Numbers
no_numbers = record { taken = replicate number_limit false; running = replicate number_limit 0 }

-- the number is taken
abbrev pub is_taken_in : Numbers → ℕ → Bool
is_taken_in numbers handle = slice_index_or numbers.taken handle false

-- so many running operations were called on the handle
abbrev pub running_on : Numbers → ℕ → ℕ
running_on numbers handle = slice_index_or numbers.running handle 0

-- how many numbers are taken
abbrev pub how_many : List Bool → ℕ
how_many taken = count_by (λ is. is) taken

-- the least number that isn't taken, or the limit
pub record IsLeastFree (numbers : Numbers) (least : ℕ) : Type 0 where
  pub below : (handle : ℕ) → handle < least → is_taken_in numbers handle ≡ true
  pub free : is_taken_in numbers least ≡ false

-- now it is taken, or isn't
abbrev pub with_taken : Numbers → ℕ → Bool → Numbers
with_taken numbers handle is = record numbers { taken = slice_set numbers.taken handle is }

-- now so many run on it
abbrev pub with_running : Numbers → ℕ → ℕ → Numbers
with_running numbers handle many = record numbers { running = slice_set numbers.running handle many }

-- ---- the bitmap

-- the number's bit in words of 64
abbrev pub is_set : List ℕ → ℕ → Bool
is_set words handle = bit_at (slice_index_or words (handle / 64) 0) (handle % 64) == 1

unfoldable pub taken_by : List ℕ → List Bool
taken_by words = map (is_set words) (range_with_len 0 number_limit)

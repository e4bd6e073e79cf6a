-- Readers and writers whose failed calls are counted.
use Rattle.std.specs.Prelude.{ℕ, ◌+◌, ◌-◌, ◌^◌, ◌==◌, min, if◌then◌else◌, Result, Ok, Err}
use Rattle.counted_io.specs.declared.counting.Counted.{Counted}

-- the reader or the writer itself
abbrev pub inner_of : {T : Type 0} → Counted T → T
inner_of counted = counted.inner

-- how many of its calls failed
abbrev pub failures : {T : Type 0} → Counted T → ℕ
failures counted = counted.failed

-- one more, but for the greatest number, which stays
abbrev pub one_more : ℕ → ℕ
one_more count = min (count + 1) (2 ^ 64 - 1)

-- the count after a call with this result: one more exactly where it failed
abbrev pub count_after : {A E : Type 0} → ℕ → Result A E → ℕ
count_after count (Ok value) = count
count_after count (Err error) = one_more count

-- the same after a write, which also fails where it takes no byte
abbrev pub count_after_write : {E : Type 0} → ℕ → Result ℕ E → ℕ
count_after_write count (Ok taken) = if taken == 0 then one_more count else count
count_after_write count (Err error) = one_more count

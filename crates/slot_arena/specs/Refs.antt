-- A reference is seen as one number, that of its birth and its slot, which may be of any size. The reference of a birth and a slot that are below
-- the limits of the code is the word that the code keeps, its birth above its slot: so these rise with their births.
use Rattle.std.specs.Prelude.{ℕ, ◌+◌, ◌*◌, ◌/◌, ◌%◌, ◌^◌}
use Rattle.slot_arena.specs.Pairing.{pair_number, pair_of}

-- slots are below this number, as far as a reference of the code can name them
abbrev pub most_slots : ℕ
most_slots = 2 ^ 20

-- births are below this number, so that a reference of the code takes eight bytes
abbrev pub birth_limit : ℕ
birth_limit = 2 ^ 44

-- and is below this number
abbrev pub word_limit : ℕ
word_limit = 2 ^ 64

-- the reference to this slot under this birth
abbrev pub ref_to : ℕ → ℕ → ℕ
ref_to birth slot = pair_number (birth / birth_limit) (slot / most_slots) * word_limit + birth % birth_limit * most_slots + slot % most_slots

-- the slot that a reference names
abbrev pub slot_of : ℕ → ℕ
slot_of r = (pair_of (r / word_limit)).1 * most_slots + r % most_slots

-- the birth that a reference names
abbrev pub birth_of : ℕ → ℕ
birth_of r = (pair_of (r / word_limit)).0 * birth_limit + r % word_limit / most_slots

-- Calls that are sure to end where their actor alone takes steps, and the slots that they take.
use Rattle.std.specs.Prelude.{ℕ}
use Rattle.proof_obstruction_free.specs.Vocabulary.{Call, Clear, Snapshot, Freeze, Close, Entries, Count}
use Rattle.proof_obstruction_free.specs.Slots.{most_makes_alone, most_steps_of_copies}

-- any call but entries and count, which walk over all pairs
abbrev pub IsNoWalk : Call → Type 0
IsNoWalk (Entries h) = ⊥
IsNoWalk (Count h) = ⊥
IsNoWalk call = Unit {0}

-- the most slots that such a call takes alone from its begin on: a close wants none
abbrev pub slots_of : Call → ℕ
slots_of (Close h) = 0
slots_of (Clear h) = most_steps_of_copies
slots_of (Snapshot h) = most_steps_of_copies
slots_of (Freeze h) = most_steps_of_copies
slots_of call = most_makes_alone

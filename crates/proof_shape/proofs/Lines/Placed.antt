-- Where lines lead: which calls come to which lines, from which line on an operation has a generation, and where it swaps.
use Rattle.std.proofs.Common.{Bool, true, false}
use Rattle.proof_shape.specs.Vocabulary.{Call, Clear, Snapshot, Freeze, Close, Entries, Count, Line}
use Rattle.proof_shape.specs.Beneath.machine_model.specs.declared.lines.Line.TheVariants as line

-- ---- calls

-- the call is on one key
abbrev pub is_keyed : Call → Bool
is_keyed (Clear h) = false
is_keyed (Snapshot h) = false
is_keyed (Freeze h) = false
is_keyed (Close h) = false
is_keyed (Entries h) = false
is_keyed (Count h) = false
is_keyed call = true

-- it swaps the root
abbrev pub is_copy : Call → Bool
is_copy (Clear h) = true
is_copy (Snapshot h) = true
is_copy (Freeze h) = true
is_copy call = false

-- ---- lines

-- a line of KEY, or to which it leads before the operation begins another try
abbrev pub is_below : Line → Bool
is_below (line.Key l) = true
is_below (line.Build l) = true
is_below (line.Swap why s) = true
is_below (line.Renew l) = true
is_below (line.Clean l) = true
is_below (line.Climb l) = true
is_below l = false

-- What was written.
use Rattle.std.specs.Prelude.{ℕ, List, Option}
use Rattle.std.specs.Io.KnownBytes.{Appends}
use Rattle.counted_io.specs.Beginnings.{AppendsBeginning}

-- known bytes grow by such bytes, and by a beginning of such bytes
abbrev pub AppendsSuch : (List ℕ → Type 0) → Option (List ℕ) → Option (List ℕ) → Type 0
AppendsSuch IsSuch old new = (bytes : List ℕ) × IsSuch bytes × Appends old new bytes

abbrev pub AppendsPartOf : (List ℕ → Type 0) → Option (List ℕ) → Option (List ℕ) → Type 0
AppendsPartOf IsSuch old new = (bytes : List ℕ) × IsSuch bytes × AppendsBeginning old new bytes

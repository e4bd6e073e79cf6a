-- How the sweep goes on until limbo is empty.
use Rattle.std.proofs.Common.{ℕ, zero}
use Rattle.machine_core.specs.declared.parts.Parts.{Parts}
use Rattle.machine_core.specs.Keeping.{IsCore}
use Rattle.machine_core.specs.Sweeping.{Reclaims, at_first}
use Rattle.machine_core.specs.Work.{worked}

-- steps of the sweep led from these parts to those, which are a core's
pub record IsReclaimed (before now : Parts) : Type 0 where
  pub n : ℕ
  pub reclaims : Reclaims (worked before) n (worked now)
  pub core : IsCore now

pub reclaimed_first : (parts : Parts) → IsCore parts → IsReclaimed parts parts
reclaimed_first parts core = record { n = zero; reclaims = at_first; core = core }

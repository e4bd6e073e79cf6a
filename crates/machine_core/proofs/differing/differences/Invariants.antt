use Rattle.std.proofs.Common.{◌≡◌, ◌++◌, drop}
use Rattle.machine_core.specs.Finding.{found_along}
use Rattle.machine_core.specs.Seen.{seen}
use Rattle.machine_core.proofs.Differences.{differing}
use Rattle.machine_core.proofs.differing.differences.Given as goal

abbrev pub invariant-loop-key : goal.invariant-loop-key
invariant-loop-key l =
    l.differences.items ++ differing (found_along (seen l.parts) l.older) (found_along (seen l.parts) l.newer) (drop l.key-index l.known)
    ≡ differing (found_along (seen l.parts) l.older) (found_along (seen l.parts) l.newer) l.known

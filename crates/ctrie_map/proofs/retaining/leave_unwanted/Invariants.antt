use Rattle.std.proofs.Common.{◌-◌, ◌≤◌, drop, length}
use Rattle.ctrie_map.specs.Retaining.{CanBeAsked}
use Rattle.ctrie_map.proofs.Sifted.{IsSifting}
use Rattle.ctrie_map.proofs.retaining.leave_unwanted.Given as goal

-- what is still to be asked may be asked of, and decides over the whole
abbrev pub invariant-loop-at : goal.invariant-loop-at
invariant-loop-at g l =
    CanBeAsked (goal.F-pre g) (goal.F-step g) l.f (drop l.at l.pairs.items) × (l.many ≤ l.at) × (l.at ≤ length l.pairs.items)
    × IsSifting (goal.F-step g) l.fn.f l.fn.pairs.items l.f l.pairs.items l.at l.many

abbrev pub decreases-loop-at : goal.decreases-loop-at
decreases-loop-at g l = length l.pairs.items - l.at

use Rattle.std.proofs.Common.{◌≡◌, ◌-◌}
use Rattle.nodes.specs.Levels.{parting}
use Rattle.nodes.proofs.levels.parting.Given as goal

abbrev pub invariant-loop-depth : goal.invariant-loop-depth
invariant-loop-depth l = parting (l.end - l.depth) l.old_hash l.hash l.depth ≡ parting (l.end - l.start) l.old_hash l.hash l.start

use Rattle.std.proofs.Common.{◌≡◌, ◌-◌}
use Rattle.machine_core.specs.Vocabulary.{hash_of, node_at, logical_main, most_levels, find_at}
use Rattle.machine_core.specs.Seen.{seen}
use Rattle.machine_core.proofs.finding.value_along.Given as goal

-- what is below the indirection at this depth decides it
abbrev pub invariant-loop-depth : goal.invariant-loop-depth
invariant-loop-depth l =
    find_at (node_at (seen l.parts).heap) (logical_main (seen l.parts).heap) (hash_of (seen l.parts).limits.hash) l.key (most_levels - l.depth) l.depth l.at
    ≡ find_at (node_at (seen l.parts).heap) (logical_main (seen l.parts).heap) (hash_of (seen l.parts).limits.hash) l.key most_levels 0 l.fn.root

use Rattle.std.proofs.Common.{◌≡◌, ◌+◌, ◌≤◌, length}
use Rattle.ctrie_map.specs.Names.{numbers_from}
use Rattle.ctrie_map.proofs.handles.OpenHandlesIterator.next.Given as goal

-- the numbers that are left are those that are still to come
abbrev pub invariant-loop-name : goal.invariant-loop-name
invariant-loop-name l =
    (l.self-inside.number + length l.self-inside.names.now ≤ 256) × (numbers_from l.self-inside.number l.self-inside.names.now ≡ l.fn.self)

abbrev pub decreases-loop-name : goal.decreases-loop-name
decreases-loop-name l = length l.self-inside.names.now

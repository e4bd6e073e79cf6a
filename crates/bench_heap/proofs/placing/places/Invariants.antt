use Rattle.std.proofs.Common.{◌+◌, ◌*◌, ◌≤◌}
use Rattle.bench_heap.specs.Steps.{IsBelow}
use Rattle.bench_heap.proofs.placing.places.Given as goal

abbrev pub invariant-loop-n : goal.invariant-loop-n
invariant-loop-n l = IsBelow (2 * l.n + 1) l.places × (l.closed ≤ 2 * l.n + 1)

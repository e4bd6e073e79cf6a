use Rattle.std.proofs.Common.{◌≡◌}
use Rattle.bench_heap.proofs.heaps.settle.Given as goal

abbrev pub invariant-loop : goal.invariant-loop
invariant-loop l = (l.heap.heap ≡ l.initial.heap.heap) × (l.heap.outside ≡ l.initial.heap.outside)

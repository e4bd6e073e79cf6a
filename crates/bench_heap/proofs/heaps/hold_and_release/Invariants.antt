use Rattle.std.proofs.Common.{◌≡◌, []}
use Rattle.slot_arena.specs.Arenas.{AreLive}
use Rattle.bench_heap.proofs.heaps.hold_and_release.Given as goal

abbrev pub invariant-loop : goal.invariant-loop
invariant-loop l = AreLive l.heap.heap l.refs × (l.heap.outside ≡ [])

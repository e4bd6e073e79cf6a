use Rattle.std.proofs.Common.{◌≡◌, []}
use Rattle.slot_arena.specs.Arenas.{AreLive}
use Rattle.bench_heap.proofs.heaps.new_heap.Given as goal

abbrev pub invariant-loop-key : goal.invariant-loop-key
invariant-loop-key l = AreLive l.heap.heap l.refs.items × (l.heap.outside ≡ [])

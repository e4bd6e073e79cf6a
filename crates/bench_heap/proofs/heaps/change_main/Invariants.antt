use Rattle.slot_arena.specs.Arenas.{AreLive, IsLive}
use Rattle.bench_heap.proofs.heaps.change_main.Given as goal

abbrev pub invariant-loop : goal.invariant-loop
invariant-loop l = IsLive l.heap.heap l.indirection × AreLive l.heap.heap l.refs

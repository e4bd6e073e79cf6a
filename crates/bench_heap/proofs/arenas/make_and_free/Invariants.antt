use Rattle.slot_arena.specs.Arenas.{AreLive}
use Rattle.bench_heap.proofs.arenas.make_and_free.Given as goal

abbrev pub invariant-loop : goal.invariant-loop
invariant-loop l = AreLive l.arena.heap l.refs

use Rattle.slot_arena.specs.Arenas.{AreLive}
use Rattle.bench_heap.proofs.arenas.new_arena.Given as goal

abbrev pub invariant-loop-key : goal.invariant-loop-key
invariant-loop-key l = AreLive l.arena.heap l.refs.items

-- The workers so far were gathered.
use Rattle.std.proofs.Common.{◌≡◌, ◌++◌}
use Rattle.std.specs.String.{string_bytes}
use Rattle.ctrie_commands.specs.Working.{AreGathered}
use Rattle.ctrie_commands.proofs.threads.gathered.Given as goal

abbrev pub invariant-loop-worker : goal.invariant-loop-worker
invariant-loop-worker l = record {
  so_far : AreGathered l.yielded l.seats.items (string_bytes l.denied);
  left : l.fn.workers.items ≡ l.yielded ++ l.worker-iterator.rest.items;
}

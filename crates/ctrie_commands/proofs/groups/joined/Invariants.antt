-- The workers of the groups so far were joined.
use Rattle.std.proofs.Common.{◌≡◌, ◌++◌}
use Rattle.ctrie_commands.specs.Working.{AreJoined}
use Rattle.ctrie_commands.proofs.groups.joined.Given as goal

abbrev pub invariant-loop-result : goal.invariant-loop-result
invariant-loop-result l = record {
  so_far : AreJoined l.yielded l.workers.items;
  left : l.fn.results.items ≡ l.yielded ++ l.result-iterator.rest.items;
}

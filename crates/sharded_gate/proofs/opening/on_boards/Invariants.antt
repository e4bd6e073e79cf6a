use Rattle.std.proofs.Common.{◌≡◌, ◌+◌, ◌≤◌, ◌++◌, length, map, vec_len, vec_capacity}
use Rattle.sharded_gate.specs.Shards.{fresh_shard}
use Rattle.sharded_gate.proofs.opening.on_boards.Given as goal

abbrev pub invariant-loop-object : goal.invariant-loop-object
invariant-loop-object g l = record {
  same : l.boards.items ≡ map (λ o. fresh_shard o) l.yielded;
  left : l.fn.shards.items ≡ l.yielded ++ l.object-iterator.rest.items;
  room : vec_len l.boards + length l.object-iterator.rest.items ≤ vec_capacity l.boards;
}

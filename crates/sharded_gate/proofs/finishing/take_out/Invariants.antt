-- The first slots are empty, and what they held is out.
use Rattle.std.proofs.Common.{◌≡◌, ℕ, ◌<◌, ◌≤◌, true, false, take, map, vec_len, vec_capacity, slice_index_or}
use Rattle.sharded_gate.proofs.finishing.take_out.Given as goal

abbrev pub invariant-loop-shard : goal.invariant-loop-shard
invariant-loop-shard g l = record {
  items : l.closed.slots.items ≡ l.initial.closed.slots.items;
  many : l.closed.slots.len ≡ l.shards;
  full : (k : ℕ) → l.shard ≤ k → k < l.closed.slots.len → slice_index_or l.closed.slots.filled k false ≡ true;
  empty : (k : ℕ) → k < l.shard → slice_index_or l.closed.slots.filled k false ≡ false;
  objects : l.objects.items ≡ map (λ s. s.object) (take l.shard l.closed.slots.items);
  count : vec_len l.objects ≡ l.shard;
  room : l.shards ≤ vec_capacity l.objects;
}

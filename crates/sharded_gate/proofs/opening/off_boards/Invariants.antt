use Rattle.std.proofs.Common.{◌≡◌, ◌+◌, ◌≤◌, ◌++◌, length, map, vec_len, vec_capacity}
use Rattle.sharded_gate.proofs.opening.off_boards.Given as goal

abbrev pub invariant-loop-board : goal.invariant-loop-board
invariant-loop-board g l = record {
  same : l.objects.items ≡ map (λ s. s.object) l.yielded;
  left : l.fn.boards.items ≡ l.yielded ++ l.board-iterator.rest.items;
  room : vec_len l.objects + length l.board-iterator.rest.items ≤ vec_capacity l.objects;
}

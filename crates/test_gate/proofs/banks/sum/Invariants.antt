use Rattle.std.proofs.Common.{◌≡◌}
use Rattle.test_gate.proofs.banks.sum.Given as goal

abbrev pub invariant-loop-branch : goal.invariant-loop-branch
invariant-loop-branch g l = g.S.Shards.rest l.branches ≡ g.S.Shards.rest l.initial.branches

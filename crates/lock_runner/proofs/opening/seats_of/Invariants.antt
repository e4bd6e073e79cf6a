-- The gate's seats so far are their actors'.
use Rattle.std.proofs.Common.{◌≡◌, ◌++◌, map}
use Rattle.lock_runner.specs.Opening.{opened}
use Rattle.lock_runner.proofs.opening.seats_of.Given as goal

abbrev pub invariant-loop-pass : goal.invariant-loop-pass
invariant-loop-pass l = record {
  seats : l.seats.items ≡ map opened l.yielded;
  left : l.fn.passes.items ≡ l.yielded ++ l.pass-iterator.rest.items;
}

use Rattle.std.proofs.Common.{refl}
use Rattle.machine_core.specs.Seen.{seen}
use Rattle.proof_core.proofs.Bounded.{first_run}
use Rattle.machine_core.proofs.machine.Core.new.Goals as goal

pub invariant_of-result : goal.invariant_of-result
invariant_of-result c = record {
  run = first_run c.args.bounds (seen c.in_ok-parts.parts) (c.if-not-are_bounds.ensures.0 refl) c.in_ok-parts.ensures.first;
  kept = c.in_ok-parts.ensures.kept;
  settled = c.in_ok-parts.ensures.noted;
}

use Rattle.std.proofs.Common.{subst}
use Rattle.lock_free.specs.Passing.{IsPassing}
use Rattle.lock_free.proofs.first_passes.end_read_within.Goals as goal

pub end_at_header-requires-clause-passing : goal.end_at_header-requires-clause-passing
end_at_header-requires-clause-passing c = subst (IsPassing c.args.actor.now.me.0 c.args.indirection) c.in-Header.is c.requires.passing

use Rattle.ctrie_map.proofs.Lookups.{closed}
use Rattle.ctrie_map.proofs.Walks.{one_read}
use Rattle.ctrie_map.proofs.walking.first_in.Goals as goal

pub returns-in-Ok : goal.returns-in-Ok
returns-in-Ok c = one_read c.args.core.now.state c.limits.ensures.of_run c.args.handle c.in-Ok.first c.in-Ok.ensures.open c.in-Ok.ensures.one

pub returns-in-Err : goal.returns-in-Err
returns-in-Err c = closed c.args.core.now.state c.limits.ensures.of_run c.args.handle (λ shown. shown) c.in-Err.ensures.refused.0

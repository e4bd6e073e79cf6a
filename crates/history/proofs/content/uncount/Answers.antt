use Rattle.history.proofs.CrowdCounts.{has_count}
use Rattle.history.proofs.content.uncount.Goals as goal

pub set_count-requires : goal.set_count-requires
set_count-requires c = has_count c.args.counts.now.entries c.args.hash c.requires

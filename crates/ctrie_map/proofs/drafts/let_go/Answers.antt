use Rattle.ctrie_map.proofs.Denying.{close_allowed}
use Rattle.ctrie_map.proofs.drafts.let_go.Goals as goal

pub perform-requires-clause-allowed : goal.perform-requires-clause-allowed
perform-requires-clause-allowed c = close_allowed c.args.core.now.state c.args.handle c.requires.there

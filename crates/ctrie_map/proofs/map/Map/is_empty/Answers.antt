use Rattle.std.proofs.Common.{sym}
use Rattle.ctrie_map.proofs.Walks.{empty_read}
use Rattle.ctrie_map.proofs.map.Map.is_empty.Goals as goal

pub returns : goal.returns
returns c = sym (empty_read c.args.self.now c.args.handle c.in_ok-first.field-0 c.is_none.result c.is_none.ensures c.in_ok-first.ensures)

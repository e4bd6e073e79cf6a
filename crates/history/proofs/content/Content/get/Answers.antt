use Rattle.std.proofs.Common.{◌∙◌}
use Rattle.history.proofs.EntryMaps.{get_seen}
use Rattle.history.proofs.content.Content.get.Goals as goal

pub returns : goal.returns
returns c = get_seen c.self.inside.pairs.entries c.args.self.now c.args.key _ c.self.view_is (c.copied.ensures ∙ c.get.ensures.value)

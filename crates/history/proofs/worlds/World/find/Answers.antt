use Rattle.history.proofs.EntryMaps.{get_seen}
use Rattle.history.proofs.worlds.World.find.Goals as goal

pub returns : goal.returns
returns c = get_seen c.self.inside.handles.entries c.args.self.now c.args.handle _ c.self.view_is c.get.ensures.value

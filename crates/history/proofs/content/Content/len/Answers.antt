use Rattle.std.proofs.Common.{◌∙◌, sym, ap}
use Rattle.std.specs.FinMap as map
use Rattle.history.specs.Worlds.{KeyMap}
use Rattle.history.proofs.EntryMaps.{len_made}
use Rattle.history.proofs.content.Content.len.Goals as goal

pub returns : goal.returns
returns c = c.len.ensures.len ∙ sym (len_made c.self.inside.pairs.entries c.len.ensures.ordered) ∙ ap (λ (m : KeyMap). map.len m) c.self.view_is

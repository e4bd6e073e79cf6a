use Rattle.std.proofs.Common.{ap, ◌∙◌}
use Rattle.slot_arena.specs.Heaps.{entries_from}
use Rattle.nodes.proofs.Parts.{set_parts}
use Rattle.nodes.proofs.entries.with_replaced.Goals as goal

pub returns-clause-entries : goal.returns-clause-entries
returns-clause-entries c = c.joined.ensures.entries ∙ ap entries_from (set_parts c.args.entries.now c.args.position c.args.one c.requires.within)

pub returns-clause-all : goal.returns-clause-all
returns-clause-all c = c.joined.ensures.all ∙ set_parts c.args.entries.now c.args.position c.args.one c.requires.within

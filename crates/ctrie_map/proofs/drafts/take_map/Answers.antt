use Rattle.std.proofs.Common.{◌∙◌}
use Rattle.ctrie_map.specs.Beneath.map_worlds.specs.Worlds.{world_of}
use Rattle.ctrie_map.proofs.Adopting.{beside_so}
use Rattle.ctrie_map.proofs.drafts.take_map.Goals as goal

pub adopt-requires-clause-beside : goal.adopt-requires-clause-beside
adopt-requires-clause-beside c =
    let d = c.in_ok-made.ensures.drafted in (
      world_of c.args.core.now.state,
      d.m,
      beside_so c.args.core.now.state c.args.names.now c.args.source c.in_ok-made.made c.draft.new.core.state c.requires.whole.named d,
    )

pub returns-clause-takes : goal.returns-clause-takes
returns-clause-takes c =
    let d = c.in_ok-made.ensures.drafted in (
      d.m,
      d.has,
      (
        c.adopt.ensures.limits ∙ d.turns.0,
        c.adopt.ensures.last,
        c.adopt.ensures.adopted (world_of c.args.core.now.state) d.m
            (beside_so c.args.core.now.state c.args.names.now c.args.source c.in_ok-made.made c.draft.new.core.state c.requires.whole.named d),
      ),
    )

use Rattle.std.proofs.Common.{◌<◌, arith, refl, sym, ◌∙◌}
use Rattle.std.specs.FinMap as map
use Rattle.ctrie_map.specs.Vocabulary.{handle_limit}
use Rattle.ctrie_map.specs.Beneath.map_worlds.specs.Worlds.{world_of}
use Rattle.ctrie_map.proofs.Batched.{one_left}
use Rattle.ctrie_map.proofs.batches.change_all.Goals as goal

pub change_copy-requires-clause-room : goal.change_copy-requires-clause-room
change_copy-requires-clause-room c =
    let few : map.len (world_of c.args.core.now.state) < handle_limit = omega (arith, c.requires.can_copy.2, c.requires.whole.named.many) in few

pub returns-then-are_too_many-clause-refused : goal.returns-then-are_too_many-clause-refused
returns-then-are_too_many-clause-refused c = (
  one_left c.args.batch c.args.core.now.state c.args.names.now c.requires.whole c.args.handle c.args.pairs.now c.args.name c.requires.can_copy.0 c.requires.can_copy.1 c.requires.can_copy.2,
  sym c.are_too_many.ensures ∙ c.if-are_too_many.true,
  refl,
)

use Rattle.std.proofs.Common.{arith, ap}
use Rattle.trie_parts.specs.Beneath.slot_arena.specs.Times.{times}
use Rattle.trie_parts.proofs.private.Private.give_up.Goals as goal

pub release_all-requires : goal.release_all-requires
release_all-requires c = record { held = λ r. omega (arith, c.requires.held r, ap (times r) c.as_slice.ensures.value, ap (times r) c.self.view_is) }

pub returns-clause-others : goal.returns-clause-others
returns-clause-others c =
    λ r. omega (arith, c.release_all.ensures.others r, ap (times r) c.as_slice.ensures.value, ap (times r) c.self.view_is, ap (times r) c.clear.ensures)

use Rattle.std.proofs.Common.{arith, ap, ◌∙◌}
use Rattle.trie_parts.specs.Beneath.slot_arena.specs.Heaps.{entries_from}
use Rattle.trie_parts.proofs.Capped.{set_parts}
use Rattle.trie_parts.proofs.entries.with_replaced.Goals as goal

pub returns : goal.returns
returns c =
    let parts = set_parts c.args.entries.now c.args.position c.args.one (omega arith) in
    c.entries_from_parts.ensures ∙ ap entries_from parts

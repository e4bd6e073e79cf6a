use Rattle.std.proofs.Common.{ap, ◌∙◌}
use Rattle.trie_parts.specs.Beneath.slot_arena.specs.Heaps.{entries_from}
use Rattle.trie_parts.proofs.Capped.{remove_parts}
use Rattle.trie_parts.proofs.entries.without.Goals as goal

pub returns : goal.returns
returns c =
    let parts = remove_parts c.args.entries.now c.args.position in
    c.entries_from_parts.ensures ∙ ap entries_from parts

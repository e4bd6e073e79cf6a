use Rattle.std.proofs.Common.{subst}
use Rattle.trie_parts.specs.Beneath.slot_arena.specs.declared.nodes.Node.{Node}
use Rattle.trie_parts.specs.Beneath.slot_arena.specs.Arenas.{AreLive, IsLive}
use Rattle.trie_parts.specs.Beneath.slot_arena.specs.Heaps.{node_at, refs_of_node}
use Rattle.trie_parts.proofs.Coming.{coming_stands}
use Rattle.trie_parts.proofs.made.make_changed.Goals as goal

pub make_changed-requires-clause-live : goal.make_changed-requires-clause-live
make_changed-requires-clause-live c =
    let heap = c.args.heap.now.heap in
    coming_stands (IsLive heap) c.in-Some.entry (refs_of_node (node_at heap c.args.main)) c.in-Some.ensures.0 c.in-Some.ensures.1
    (subst (λ (node : Node). AreLive heap (refs_of_node node)) c.in-Some.ensures.2 c.requires.live)

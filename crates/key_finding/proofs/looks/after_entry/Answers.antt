use Rattle.key_finding.specs.Beneath.trie_parts.specs.Here.{at_heap}
use Rattle.key_finding.proofs.looks.after_entry.Goals as goal

pub returns-in-Some-Indirection : goal.returns-in-Some-Indirection
returns-in-Some-Indirection c =
    λ state operation s. rw (← c.entry_at-entry.ensures, c.in-Some-Indirection.ensures, c.in-Some-Indirection.field-0-is, ← c.entry_at-entry.ensures) (
    c.at_indirection.ensures (at_heap state c.args.heap.now.heap c.args.task.hashes) operation c.args.path.now c.args.main s
    )

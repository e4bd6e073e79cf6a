-- Changes of one entry of a branch.
use Rattle.std.specs.Prelude.{ℕ, ◌<◌, ◌≤◌, List, [], ◌∷◌, length, insert, remove, slice_set}
use Rattle.slot_arena.specs.declared.refs.Ref.{Ref}
use Rattle.slot_arena.specs.declared.nodes.Node.{Node}
use Rattle.slot_arena.specs.declared.nodes.Node.TheVariants.{Branch}
use Rattle.slot_arena.specs.declared.entries.EntryChange.{EntryChange}
use Rattle.slot_arena.specs.declared.entries.EntryChange.TheVariants.{Set, Insert, Remove}
use Rattle.slot_arena.specs.Heaps.{entries_from, refs_of_node}

-- the entries after the change
abbrev pub entries_after : EntryChange → List Ref → List Ref
entries_after (Set position entry) entries = slice_set entries position entry
entries_after (Insert position entry) entries = insert entries position entry
entries_after (Remove position) entries = remove entries position

-- the entry that comes, if one does
abbrev pub coming : EntryChange → List Ref
coming (Set position entry) = entry ∷ []
coming (Insert position entry) = entry ∷ []
coming (Remove position) = []

-- its position is one of these entries, or the end of them where one more is to come, for which there is room
abbrev pub Fits : EntryChange → List Ref → Type 0
Fits (Set position entry) entries = position < length entries
Fits (Insert position entry) entries = (position ≤ length entries) × (length entries < 32)
Fits (Remove position) entries = position < length entries

-- the branch with this bitmap, whose entries are what a node refers to, changed
abbrev pub changed_branch : ℕ → EntryChange → Node → Node
changed_branch bitmap change node = Branch bitmap (entries_from (entries_after change (refs_of_node node)))

-- Main nodes made from the main node before. A flag is that of a key's hash at the node's depth.
use Rattle.std.specs.Prelude.{ℕ, ◌==◌, Bool, true, nat_lt, bit_or, bit_xor, List, [], ◌∷◌, ◌++◌, slice_set, insert, remove, if◌then◌else◌}
use Rattle.nodes.specs.Beneath.ctrie_base.specs.Paths.{position_of}
use Rattle.nodes.specs.Beneath.ctrie_base.specs.declared.hashes.HashKind.{HashKind}
use Rattle.slot_arena.specs.declared.refs.Ref.{Ref}
use Rattle.slot_arena.specs.declared.nodes.Node.{Node}
use Rattle.slot_arena.specs.declared.nodes.Node.TheVariants.{Branch, Tomb, List as Listed}
use Rattle.slot_arena.specs.Heaps.{entries_from}
use Rattle.nodes.specs.Levels.{list_depth, index_in, flag_of}

-- ---- branches, of this bitmap and these entries

-- with an entry more, in the place of its flag
abbrev pub inserted : ℕ → ℕ → List Ref → Ref → Node
inserted flag bitmap entries entry = Branch (bit_or bitmap flag) (entries_from (insert entries (position_of flag bitmap) entry))

-- with another entry at this position
abbrev pub updated : ℕ → List Ref → ℕ → Ref → Node
updated bitmap entries position entry = Branch bitmap (entries_from (slice_set entries position entry))

-- without the entry of this flag, which stands at this position
abbrev pub removed : ℕ → ℕ → List Ref → ℕ → Node
removed flag bitmap entries position = Branch (bit_xor bitmap flag) (entries_from (remove entries position))

-- with these entries in the same places: indirections renewed, or singles in the place of tombs
abbrev pub renewed : ℕ → List Ref → Node
renewed bitmap entries = Branch bitmap (entries_from entries)

-- the same, or a tomb where only one entry is left, which is to be the tomb's single
abbrev pub contracted : Bool → ℕ → List Ref → Node
contracted true bitmap (single ∷ []) = Tomb single
contracted may_entomb bitmap entries = renewed bitmap entries

-- ---- lists, of these singles

-- with a single more, at the end
abbrev pub list_inserted : List Ref → Ref → Node
list_inserted singles single = Listed (entries_from (singles ++ single ∷ []))

-- with another single at this position
abbrev pub list_updated : List Ref → ℕ → Ref → Node
list_updated singles position single = Listed (entries_from (slice_set singles position single))

-- without the single at this position
abbrev pub list_removed : List Ref → ℕ → Node
list_removed singles position = Listed (entries_from (remove singles position))

-- ---- two singles whose paths part below the place where one of them stood

abbrev pub by_index : ℕ → ℕ → Ref → Ref → List Ref
by_index a b x y = if nat_lt a b then x ∷ y ∷ [] else y ∷ x ∷ []

-- their main node at a depth: a branch, and below all levels a list, the older one first
abbrev pub pair : HashKind → ℕ → ℕ → ℕ → Ref → Ref → Node
pair kind depth old_hash hash old single =
    if depth == list_depth kind then Listed (entries_from (old ∷ single ∷ []))
    else Branch (bit_or (flag_of old_hash depth) (flag_of hash depth)) (entries_from (by_index (index_in old_hash depth) (index_in hash depth) old single))

-- the branch of one entry on the way down to it
abbrev pub rung : ℕ → ℕ → Ref → Node
rung hash depth below = Branch (flag_of hash depth) (entries_from (below ∷ []))

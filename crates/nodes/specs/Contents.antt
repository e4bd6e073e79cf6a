-- What main nodes hold. At each reference a finite map is held, any one; a main node holds the union of what is held at its entries.
use Rattle.std.specs.Prelude.{◌≡◌, ◌≢◌, ℕ, List, map, flat_map, remove, slice_index_or, None}
use Rattle.std.specs.FinMap as finmap
use Rattle.std.specs.FinMap.{FinMap}
use Rattle.std.specs.Ordering.{nat_cmp}
use Rattle.slot_arena.specs.declared.refs.Ref.{Ref}
use Rattle.slot_arena.specs.declared.nodes.Node.{Node}
use Rattle.slot_arena.specs.Heaps.{no_ref, entries_of}

-- a finite map from keys to values
abbrev pub KeyMap : Type 0
KeyMap = FinMap nat_cmp ℕ

-- the map of one pair
abbrev pub one_pair : ℕ → ℕ → KeyMap
one_pair key value = finmap.insert finmap.empty key value

-- the union of what is held at these references; where several hold a key, the first of them tells its value
unfoldable pub union_of : (Ref → KeyMap) → List Ref → KeyMap
union_of held entries = finmap.from_entries (flat_map (λ entry. finmap.entries (held entry)) entries)

-- the content of a main node
abbrev pub content_of : (Ref → KeyMap) → Node → KeyMap
content_of held node = union_of held (entries_of node)

-- none of these holds the key
abbrev pub Lack : (Ref → KeyMap) → List Ref → ℕ → Type 0
Lack held entries key = finmap.get (union_of held entries) key ≡ None

-- ---- the content of a node that is made from these entries, whatever is held at references

-- with an entry more, which holds one pair, of a key that none of them holds: theirs and this pair
abbrev pub InsertsPair : List Ref → Ref → Node → Type 0
InsertsPair entries entry node =
    (held : Ref → KeyMap) (key value : ℕ) → held entry ≡ one_pair key value → Lack held entries key →
    content_of held node ≡ finmap.insert (union_of held entries) key value

-- with another entry at a position, which holds what the one before does but for one key, that none of the others holds: theirs with
-- the value of this key
abbrev pub UpdatesPair : List Ref → ℕ → Ref → Node → Type 0
UpdatesPair entries position entry node =
    (held : Ref → KeyMap) (key value : ℕ) → held entry ≡ finmap.insert (held (slice_index_or entries position no_ref)) key value → Lack held (remove entries position) key →
    content_of held node ≡ finmap.insert (union_of held entries) key value

-- without the entry at a position, which holds one pair, of a key that none of the others holds: theirs without this key
abbrev pub RemovesPair : List Ref → ℕ → Node → Type 0
RemovesPair entries position node =
    (held : Ref → KeyMap) (key value : ℕ) → held (slice_index_or entries position no_ref) ≡ one_pair key value → Lack held (remove entries position) key →
    content_of held node ≡ finmap.remove (union_of held entries) key

-- in the place of others, each of which holds the same as the one that takes its place: that of those
abbrev pub KeepsContent : List Ref → Node → Type 0
KeepsContent entries node = (held : Ref → KeyMap) (others : List Ref) → map held others ≡ map held entries → content_of held node ≡ union_of held others

-- of two singles, of different keys: their two pairs
abbrev pub HasPairs : Ref → Ref → Node → Type 0
HasPairs old single node =
    (held : Ref → KeyMap) (old_key old_value key value : ℕ) → old_key ≢ key → held old ≡ one_pair old_key old_value → held single ≡ one_pair key value →
    content_of held node ≡ finmap.insert (one_pair old_key old_value) key value

-- of one entry alone: what that holds
abbrev pub HasContent : Ref → Node → Type 0
HasContent entry node = (held : Ref → KeyMap) → content_of held node ≡ held entry

-- The order in which a trie keeps its keys, what comes next in it, and that each key stands where its hash leads.
use Rattle.std.specs.Prelude.{◌≡◌, ◌<◌, ℕ, zero, suc, ◌+◌, ◌*◌, ◌%◌, ◌^◌, ◌==◌, ⊤, Bool, true, nat_lt, List, [], ◌∷◌, take, Option, Some, None, if◌then◌else◌}
use Rattle.std.specs.List.{filter, flat_map}
use Rattle.proof_core.specs.Vocabulary.{hash_of, sorted_by, HashKind, by_key, comes_before, index_in, list_depth, Node, Branch, Indirection, Single, Tomb, List as Listed, Ref, Heap, entries_of}
use Rattle.proof_core.specs.Vocabulary.{logical_main, node_at, HasPlaces, at_place, AreSingles, Has, look_among}

-- ---- the order

-- by the first index, from this depth on, in which two hashes differ; where none of so many does, by this
abbrev pub by_indices : ℕ → ℕ → ℕ → ℕ → Bool → Bool
by_indices zero depth a b alike = alike
by_indices (suc left) depth a b alike = if index_in a depth == index_in b depth then by_indices left (suc depth) a b alike else nat_lt (index_in a depth) (index_in b depth)

-- the order of the trie: by where the hashes of the keys lead; keys that no level tells apart by themselves
abbrev pub scan_order : HashKind → ℕ × ℕ → ℕ × ℕ → Bool
scan_order kind p q = by_indices (list_depth kind) 0 (hash_of kind p.0) (hash_of kind q.0) (comes_before p q)

-- whether a key comes after the last one in this order; each does where there is none
abbrev pub is_behind : HashKind → Option ℕ → ℕ → Bool
is_behind kind None key = true
is_behind kind (Some last) key = by_indices (list_depth kind) 0 (hash_of kind last) (hash_of kind key) (nat_lt last key)

-- the next of these pairs in this order after the last key, so many at most
abbrev pub scanned : HashKind → Option ℕ → ℕ → List (ℕ × ℕ) → List (ℕ × ℕ)
scanned kind after room pairs = take room (filter (λ (pair : ℕ × ℕ). is_behind kind after pair.0) (sorted_by (scan_order kind) pairs))

-- ---- on the way

-- the pairs below a main node, where these are those below an entry; those of a list, whose singles are in no order, by key
abbrev pub walked_in : (Ref → List (ℕ × ℕ)) → Node → List (ℕ × ℕ)
walked_in below (Listed singles) = by_key (flat_map below singles.items)
walked_in below node = flat_map below (entries_of node)

abbrev pub walked_at : (Ref → List (ℕ × ℕ)) → Heap → Ref → Node → List (ℕ × ℕ)
walked_at below heap r (Single key value) = (key, value) ∷ []
walked_at below heap r (Indirection generation main) = walked_in below (node_at heap (logical_main heap r))
walked_at below heap r node = []

-- the pairs that are reached from an indirection or a single, within so many levels, as a walk meets them
unfoldable pub walked : ℕ → Heap → Ref → List (ℕ × ℕ)
walked zero heap r = []
walked (suc levels) heap r = walked_at (walked levels heap) heap r (node_at heap r)

-- ---- where keys stand

-- a main node at this depth, to which this path leads
abbrev pub IsMainPlaced : HashKind → Heap → (ℕ → ℕ → Ref → Type 0) → ℕ → ℕ → Node → Type 0
IsMainPlaced kind heap Below depth path (Branch bitmap entries) =
    (depth < list_depth kind)
    × ((places : List (Option Ref)) × HasPlaces bitmap entries.items places
    × ((x : ℕ) (entry : Ref) → at_place places x ≡ Some entry → Below (suc depth) (path + x * 2 ^ (5 * depth)) entry))
IsMainPlaced kind heap Below depth path (Listed singles) =
    (depth ≡ list_depth kind) × AreSingles (node_at heap) singles.items
    × ((key value : ℕ) → look_among (node_at heap) key singles.items ≡ Has value → hash_of kind key ≡ path)
IsMainPlaced kind heap Below depth path (Tomb single) = Below depth path single
IsMainPlaced kind heap Below depth path node = ⊤

abbrev pub IsEntryPlaced : HashKind → Heap → (ℕ → ℕ → Ref → Type 0) → ℕ → ℕ → Ref → Node → Type 0
IsEntryPlaced kind heap Below depth path r (Single key value) = hash_of kind key % 2 ^ (5 * depth) ≡ path
IsEntryPlaced kind heap Below depth path r (Indirection generation main) = IsMainPlaced kind heap Below depth path (node_at heap (logical_main heap r))
IsEntryPlaced kind heap Below depth path r node = ⊤

-- what is reached from an indirection or a single at this depth, within so many levels, stands where the hash of its key leads, and this path leads there
unfoldable pub IsPlaced : HashKind → ℕ → Heap → ℕ → ℕ → Ref → Type 0
IsPlaced kind zero heap depth path r = ⊤
IsPlaced kind (suc levels) heap depth path r = IsEntryPlaced kind heap (λ d p e. IsPlaced kind levels heap d p e) depth path r (node_at heap r)
